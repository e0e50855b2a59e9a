pub mod States
pub mod Laws
pub mod Examples
