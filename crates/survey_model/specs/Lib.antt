pub mod Survey
pub mod Laws
pub mod Computing
pub mod Examples
