pub mod ShownParts
pub mod ShownCommands
