pub mod AnyMachine
pub mod DdmTree
pub mod DdmTypes
pub mod JamLaws
pub mod TreeModel
pub mod TreeRules
pub mod Asked
pub mod Waits
