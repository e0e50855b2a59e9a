pub mod Copying
pub mod DdmTypes
pub mod Marks
pub mod Memory
pub mod Places
