-- Of `survey_model`, what crates above this one name.
pub use Rattle.survey_model.specs.Survey
