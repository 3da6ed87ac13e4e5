pub mod Reasons
pub mod ReasonLines
pub mod StateStores
pub mod Steps
pub mod WorkedReasons
