-- Of `film_parts`, what crates above this one name.
pub use Rattle.film_parts.proofs.PartLines
