pub mod RoleSpelling
pub mod ReadRoles
pub mod NameRepeats
pub mod RoleSides
