pub mod DdmTypes
pub mod TreeModel
pub mod Gathered
pub mod Among
pub mod Asked
pub mod Agree
pub mod Copies
