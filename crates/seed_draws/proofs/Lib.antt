-- The draws of a seed.
pub mod Draws
