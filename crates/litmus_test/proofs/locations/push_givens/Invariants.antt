use Rattle.std.proofs.Common.{◌≡◌, drop}
use Rattle.std.specs.Prelude.{fold}
use Rattle.std.specs.List.{flat_map}
use Rattle.litmus_model.specs.declared.parts.Given.{Given}
use Rattle.litmus_model.specs.Test.{pair_names, with_name}
use Rattle.litmus_test.proofs.locations.push_givens.Given as goal

abbrev pub invariant-loop-given : goal.invariant-loop-given
invariant-loop-given l =
    fold with_name l.fn.names.items (flat_map (λ (g : Given). pair_names g.target g.value) l.givens)
    ≡ fold with_name l.names.items (flat_map (λ (g : Given). pair_names g.target g.value) (drop l.given-index l.givens))
