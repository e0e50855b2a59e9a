pub mod ElfLoad
pub mod ByteAt
pub mod WordAt
pub mod ItemWords
pub mod StackOverlaps
pub mod Starts
pub mod MemorySpans
