pub mod DdmTypes
pub mod TreeModel
pub mod TreeRules
pub mod GoesOn
pub mod Examples
