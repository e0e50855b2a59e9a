pub mod DdmTypes
pub mod RvHart
pub mod Opened
