pub mod Tables
pub mod Letters
pub mod Brackets
