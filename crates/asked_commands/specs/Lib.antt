pub mod DdmOutside
pub mod ElfLoad
pub mod ReportCrate
pub mod TreeModel
pub mod Short
pub mod Room
pub mod Asked
