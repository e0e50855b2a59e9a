pub mod BusLaws
pub mod DdmTree
pub mod HeadlineCrate
pub mod InspectorCrate
pub mod OrderLists
pub mod StartParts
pub mod StateJudging
