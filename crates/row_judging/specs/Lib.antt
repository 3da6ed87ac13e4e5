pub mod JudgedRows
