pub mod Faces
pub mod Own
pub mod Item
pub mod Rules
