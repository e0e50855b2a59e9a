pub mod Lists
pub mod FlatHarts
pub mod Ends
pub mod Logs
pub mod Complete
