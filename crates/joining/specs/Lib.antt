pub mod DdmText
pub mod JoinModel
pub mod OutcomeModel
pub mod TextModel
pub mod Said
pub mod Opened
