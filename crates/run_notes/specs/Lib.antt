pub mod Statuses
pub mod Inputs
pub mod Endings
pub mod Notes
pub mod NotedLines
pub mod NotesSoFar
pub mod KnownSessions
pub mod WorkedNotes
