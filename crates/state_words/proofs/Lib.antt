pub mod OneMore
pub mod Nothing
pub mod Mapped
