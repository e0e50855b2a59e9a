pub mod AnyRuns
pub mod DdmTree
pub mod InspectorCrate
pub mod StartParts
pub mod Flags
pub mod Halting
pub mod UnderWay
pub mod Texts
