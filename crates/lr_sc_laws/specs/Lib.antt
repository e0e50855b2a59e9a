pub mod BusyLaws
pub mod DdmTypes
pub mod FlatModel
pub mod Between
pub mod Failing
