-- Of `measure_model`, what this crate names.
pub use Rattle.outcomes.specs.MeasureModel.Text
