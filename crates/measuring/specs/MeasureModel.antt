-- Of `measure_model`, what crates above this one name.
pub use Rattle.measure_model.specs.Text
