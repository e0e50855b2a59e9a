pub mod Space
pub mod Search
pub mod Lost
pub mod Rules
pub mod Claims
