pub mod DdmTypes
pub mod TreeModel
pub mod TreeRules
pub mod Queue
pub mod Children
pub mod Parent
pub mod Tests
