pub mod DdmTypes
pub mod StateJudging
pub mod StateWords
pub mod TreeModel
pub mod TreeRules
pub mod Key
pub mod Same
