pub mod Lists
pub mod Buses
pub mod Turns
