use Rattle.std.proofs.Common.{◌≡◌, drop}
use Rattle.std.specs.Prelude.{find}
use Rattle.litmus_model.specs.Init.{same_target}
use Rattle.litmus_model.specs.declared.parts.Given.{Given}
use Rattle.litmus_image.proofs.layout.first_value.Given as goal

abbrev pub invariant-loop-given : goal.invariant-loop-given
invariant-loop-given l =
    find (λ (g : Given). same_target g.target l.target) l.test.init.items ≡ find (λ (g : Given). same_target g.target l.target) (drop l.given-index l.test.init.items)
