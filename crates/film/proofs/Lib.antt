pub mod AnyRuns
pub mod DdmTree
pub mod FilmParts
pub mod StartParts
pub mod TreeModel
pub mod ValueLaws
pub mod EachLeaf
pub mod EachBus
