pub mod Known
pub mod Schedule
