pub mod Graphs
pub mod Certified
pub mod WorkedGraphs
pub mod StepLists
pub mod Columns
