pub mod BusLaws
pub mod DdmTree
pub mod HeadlineCrate
pub mod OrderLists
pub mod StateJudging
pub mod TreeModel
