pub mod DdmText
pub mod DdmTypes
pub mod ItemStates
pub mod StateReading
pub mod StateWords
pub mod TreeModel
pub mod Arrived
pub mod Places
