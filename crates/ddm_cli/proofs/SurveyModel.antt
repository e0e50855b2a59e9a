-- Of `survey_model`, what this crate names.
pub use Rattle.outcomes.proofs.SurveyModel.Ends
