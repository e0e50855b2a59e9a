-- Definitions of libraries below that proofs of this crate open.
unfoldable pub use Rattle.ddm_cli.specs.OutcomeModel.Outcomes.{outcomes_text}
unfoldable pub use Rattle.ddm_cli.specs.SurveyModel.Survey.{survey_text}
unfoldable pub use Rattle.ddm_cli.specs.TextModel.Faults.{checkpoint_fault, image_fault, key_refusal_text, name_words}
unfoldable pub use Rattle.ddm_cli.specs.TextModel.Faults.{refusal_text, schedule_fault, tree_fault, tree_key_fault}
unfoldable pub use Rattle.ddm_cli.specs.TextModel.Faults.{witness_fault, witness_line_fault}
unfoldable pub use Rattle.ddm_cli.specs.TextModel.Schedule.{turn_line}
unfoldable pub use Rattle.joining.specs.JoinModel.Files.{added, sum_of}
unfoldable pub use Rattle.joining.specs.JoinModel.Table.{table_in}
