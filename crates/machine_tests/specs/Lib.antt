pub mod AnyMachine
pub mod TreeModel
