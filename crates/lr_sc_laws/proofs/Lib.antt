pub mod BusyLaws
pub mod FlatModel
pub mod Between
pub mod Failing
