pub mod Table
pub mod Computing
pub mod Examples
pub mod Selectors
pub mod Valid
pub mod Encode
