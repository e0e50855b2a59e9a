pub mod Lists
pub mod Ahead
pub mod Sound
pub mod Looking
pub mod Rounds
pub mod Covers
pub mod Losing
pub mod Right
