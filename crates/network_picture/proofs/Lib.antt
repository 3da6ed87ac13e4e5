pub mod DrawnRows
pub mod PutTexts
