use Rattle.std.proofs.Common.{◌≡◌, drop}
use Rattle.litmus_model.specs.Mnemonics.{meaning_in}
use Rattle.litmus_steps.specs.Rows.{named_rows}
use Rattle.litmus_steps.proofs.forms.meaning_in.Given as goal

abbrev pub invariant-loop-row : goal.invariant-loop-row
invariant-loop-row g l = meaning_in (named_rows l.rows) l.word ≡ meaning_in (named_rows (drop l.row-index l.rows)) l.word
