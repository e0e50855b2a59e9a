pub mod TextModel
pub mod TreeModel
pub mod Doing
pub mod Recordings
pub mod FirstTurns
