-- Of `value_laws`, what crates above this one name.
pub use Rattle.film_parts.proofs.ValueLaws.StartForm
pub use Rattle.film_parts.proofs.ValueLaws.TurnForm
