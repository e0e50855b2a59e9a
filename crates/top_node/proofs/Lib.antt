pub mod DirectoryCrate
pub mod StateReading
mod NoEntries
