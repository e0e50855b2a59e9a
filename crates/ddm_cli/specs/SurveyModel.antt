-- Of `survey_model`, what this crate names.
pub use Rattle.outcomes.specs.SurveyModel.Laws
pub use Rattle.outcomes.specs.SurveyModel.Survey
