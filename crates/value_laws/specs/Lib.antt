pub mod BusLaws
pub mod DdmTypes
pub mod FlatModel
pub mod RvDecode
pub mod TreeModel
pub mod TreeRules
pub mod Values
pub mod Images
