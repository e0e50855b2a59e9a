pub mod DdmTypes
pub mod FlatModel
pub mod RvDecode
pub mod TreeModel
pub mod TreeRules
pub mod KeepsBus
pub mod IsTree
pub mod KeepsLeafRules
