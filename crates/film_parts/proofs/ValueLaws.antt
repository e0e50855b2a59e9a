-- Of `value_laws`, what crates above this one name.
pub use Rattle.value_laws.proofs.StartForm
pub use Rattle.value_laws.proofs.TurnForm
