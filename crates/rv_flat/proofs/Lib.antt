pub mod FlatModel
pub mod RvHart
pub mod RegistersKept
pub mod Asked
pub mod Lists
pub mod Outcomes
