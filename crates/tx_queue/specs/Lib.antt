pub mod DdmText
pub mod DdmTypes
pub mod StateWords
pub mod TreeModel
pub mod Requests
pub mod QueueList
pub mod Read
