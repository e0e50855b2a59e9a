-- Of `seed_draws`, what crates above this one name.
pub use Rattle.seed_draws.specs.Parts
