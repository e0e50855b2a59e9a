-- Of `outcome_model`, what crates above this one name.
pub use Rattle.outcome_model.specs.Halted
