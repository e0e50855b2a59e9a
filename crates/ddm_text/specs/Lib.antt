pub mod DdmTypes
pub mod Adds
pub mod Hex
pub mod Numbers
pub mod Lines
