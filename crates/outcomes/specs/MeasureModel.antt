-- Of `measure_model`, what crates above this one name.
pub use Rattle.measuring.specs.MeasureModel.Text
