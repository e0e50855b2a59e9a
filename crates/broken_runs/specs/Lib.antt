pub mod DdmTypes
pub mod FlatModel
pub mod TreeModel
pub mod Run
pub mod BrokenWitnesses
pub mod BrokenRuns
pub mod BrokenAnswers
pub mod BrokenOutput
