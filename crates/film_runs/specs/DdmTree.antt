-- Of `ddm_tree`, what this crate and those above it name.
pub use Rattle.film.specs.DdmTree.Machine
pub use Rattle.film.specs.DdmTree.Reads
