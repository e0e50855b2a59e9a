pub mod Sources
pub mod Memory
pub mod Nodes
pub mod Machine
