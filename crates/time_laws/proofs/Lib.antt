pub mod Related
pub mod BlindBus
pub mod ForgetNode
pub mod Unseen
pub mod ForgetTurn
pub mod Alike
pub mod Inside
