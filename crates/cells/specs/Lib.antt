pub mod Signs
pub mod Cells
pub mod Layouts
pub mod Characters
pub mod SignLaws
pub mod CellLaws
pub mod CodeLaws
pub mod LayoutLaws
