use Rattle.std.proofs.Common.{sym, ◌∙◌}
use Rattle.witness_check.proofs.FirstPlaces.{behind_first}
use Rattle.witness_check.proofs.places.place_near.Goals as goal

pub returns-in-None : goal.returns-in-None
returns-in-None c = c.place_behind.ensures ∙ sym (behind_first _ 16 c.args.text.now c.if-text-ge16.true (sym c.place_in_16.ensures ∙ c.in-None.is))

pub returns-in-None-place_in_8 : goal.returns-in-None-place_in_8
returns-in-None-place_in_8 c = c.place_behind-in-None-place_in_8.ensures ∙ sym (behind_first _ 8 c.args.text.now c.if-text-ge8.true (sym c.place_in_8.ensures ∙ c.in-None-place_in_8.is))
