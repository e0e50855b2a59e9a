pub mod Told
pub mod Forgotten
pub mod Puts
pub mod Exact
pub mod Runs
