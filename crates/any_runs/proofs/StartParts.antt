-- Of `start_parts`, what this crate and those above it name.
pub use Rattle.any_machine.proofs.StartParts.EachLevel
pub use Rattle.any_machine.proofs.StartParts.Levels
pub use Rattle.any_machine.proofs.StartParts.Made
pub use Rattle.any_machine.proofs.StartParts.Names
pub use Rattle.any_machine.proofs.StartParts.NewLeaves
pub use Rattle.any_machine.proofs.StartParts.StartNew
