pub mod ScheduleLog
pub mod TreeModel
pub mod Trees
pub mod Images
pub mod Schedules
pub mod WordCounts
pub mod CheckpointSizes
