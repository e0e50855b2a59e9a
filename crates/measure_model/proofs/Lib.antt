pub mod Counted
pub mod Greatest
pub mod Near
