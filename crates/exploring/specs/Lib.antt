pub mod SearchLaws
pub mod SearchModel
pub mod StateKeys
pub mod Opened
pub mod Findings
