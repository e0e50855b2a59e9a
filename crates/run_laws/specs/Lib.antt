pub mod InOrder
pub mod AfterATurn
