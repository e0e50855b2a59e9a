-- Of `ddm_tree`, what this crate and those above it name.
pub use Rattle.ddm_tree.specs.Copying
pub use Rattle.ddm_tree.specs.Counts
pub use Rattle.ddm_tree.specs.Holders
pub use Rattle.ddm_tree.specs.Machine
pub use Rattle.ddm_tree.specs.Path
pub use Rattle.ddm_tree.specs.Quiet
pub use Rattle.ddm_tree.specs.Reads
pub use Rattle.ddm_tree.specs.Ready
pub use Rattle.ddm_tree.specs.Rules
pub use Rattle.ddm_tree.specs.Written
