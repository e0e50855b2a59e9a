pub mod DdmTypes
pub mod FlatModel
pub mod TreeModel
pub mod InKeyOrder
pub mod Copies
pub mod Commands
