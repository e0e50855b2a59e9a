-- Of `file_laws`, what this crate names.
pub use Rattle.witness_laws.specs.FileLaws.Images
pub use Rattle.witness_laws.specs.FileLaws.Trees
