pub mod BusLaws
pub mod Replayable
