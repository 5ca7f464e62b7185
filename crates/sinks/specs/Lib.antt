pub mod Cells
pub mod Sinks
pub mod CellLaws
