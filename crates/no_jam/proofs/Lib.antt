pub mod BusLaws
pub mod DdmTree
pub mod InspectorCrate
pub mod JamLaws
pub mod StateJudging
pub mod TreeModel
pub mod Searching
pub mod LeafWaits
