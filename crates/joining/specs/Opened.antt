-- A definition of a library below that a function of this crate opens.
unfoldable pub use Rattle.joining.specs.OutcomeModel.Table.{line_text}
