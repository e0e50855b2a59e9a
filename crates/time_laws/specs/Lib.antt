pub mod DdmTypes
pub mod FlatModel
pub mod Forget
pub mod Blind
pub mod Examples
