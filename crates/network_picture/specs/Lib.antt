pub mod Pictures
pub mod RowPictures
pub mod WorkedPictures
