use Rattle.std.proofs.Common.{option_map, ap, ◌∙◌}
use Rattle.ddm_tree.proofs.FoundCopy.{no-own-place, no-own-words}
use Rattle.ddm_tree.proofs.found.own_copy.Goals as goal

pub returns-in_err-place-clause-words : goal.returns-in_err-place-clause-words
returns-in_err-place-clause-words g c = ap (option_map (λ f. f.words)) c.from_residual.ensures ∙ no-own-words c.args.item c.args.state.now c.in_default.ensures.words c.in_err-place.ensures

pub returns-in_err-words-clause-place : goal.returns-in_err-words-clause-place
returns-in_err-words-clause-place g c = ap (option_map (λ f. f.place)) c.from_residual-in_err-words.ensures ∙ no-own-place c.args.item c.args.state.now c.in_default.ensures.place c.in_err-words.ensures
