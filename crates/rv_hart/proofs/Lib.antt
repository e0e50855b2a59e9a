pub mod FlatModel
pub mod Accesses
pub mod Ready
pub mod FlatStep
