pub mod Judging
pub mod Texts
pub mod Headers
pub mod Cuts
pub mod Cutting
