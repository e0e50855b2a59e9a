pub mod BusLaws
pub mod DdmTree
pub mod HeadlineCrate
pub mod InspectorCrate
pub mod StartParts
pub mod TreeModel
pub mod RunMore
pub mod Forgotten
