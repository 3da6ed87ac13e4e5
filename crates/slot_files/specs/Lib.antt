pub mod FolderImage
pub mod OpenedSlots
pub mod Faults
pub mod WorkedFolders
pub mod SwitchedSlots
