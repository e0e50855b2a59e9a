pub mod AnyMachine
pub mod AnyRuns
pub mod DdmText
pub mod DdmTree
pub mod StateJudging
pub mod StateReading
pub mod StateWords
pub mod TreeModel
