pub mod DdmTypes
pub mod Kept
