pub mod DdmTypes
pub mod ElfLoad
pub mod TreeModel
pub mod Memory
pub mod Opened
