pub mod TreeModel
