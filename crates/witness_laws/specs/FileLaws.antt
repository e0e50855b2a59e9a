-- Of `file_laws`, what those above this crate name.
pub use Rattle.file_laws.specs.Images
pub use Rattle.file_laws.specs.Trees
