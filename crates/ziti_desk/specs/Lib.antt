pub use Rattle.desk_base.specs.DriveStops
pub use Rattle.desk_base.specs.MemEvents
pub use Rattle.desk_base.specs.MemRoom
pub use Rattle.desk_base.specs.Pieces
pub use Rattle.desk_base.specs.StopPoints
pub mod DeskStops
pub mod Stages
pub mod StageLaws
