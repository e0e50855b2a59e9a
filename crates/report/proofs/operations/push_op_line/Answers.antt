use Rattle.std.proofs.Common.{◌≡◌, ℕ, List, ◌++◌, ap, ◌∙◌, append_assoc}
use Rattle.std.specs.Prelude.{codes}
use Rattle.report.specs.DdmText.Adds.{Adds, ◌▸◌}
use Rattle.report.specs.DdmText.Hex.{hex8}
use Rattle.text_model.specs.Report.{op_line}
use Rattle.text_model.specs.Words.{effect_text}
use Rattle.report.proofs.operations.push_op_line.Goals as goal

regroup : (s t u v w x : List ℕ) → s ++ (t ++ u ++ v ++ w ++ x) ≡ s ++ t ++ u ++ v ++ w ++ x
regroup s t u v w x = simp append_assoc

-- a text, and then five more
then_five : {a b c s : List ℕ} (t u v w x : List ℕ) → Adds a b s → Adds b c (t ++ u ++ v ++ w ++ x) → Adds a c (s ++ t ++ u ++ v ++ w ++ x)
then_five {a} {b} {c} {s} t u v w x p q = record { is = (p ▸ q).is ∙ ap (λ y. a ++ y) (regroup s t u v w x) }

pub returns-clause-text : goal.returns-clause-text
unfolding op_line
returns-clause-text g c = then_five (codes " ") (hex8 c.args.op.pc) (codes " ") (effect_text c.args.op.effect) (codes "\n") (c.in_ok-push_op_front.ensures.text ▸ c.in_ok-push_key.ensures.text) c.in_ok-push_op_end.ensures.text
