-- Of `text_model`, what crates above this one name.
pub use Rattle.text_model.specs.Report
pub use Rattle.text_model.specs.Run
pub use Rattle.text_model.specs.Trace
pub use Rattle.text_model.specs.declared
