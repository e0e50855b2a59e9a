pub mod ElfLoad
pub mod Short
pub mod FromClauses
