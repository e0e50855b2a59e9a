pub mod Places
pub mod Started
pub mod Words
pub mod Listed
pub mod Ready
pub mod Table
