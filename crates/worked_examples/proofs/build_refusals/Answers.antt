use Rattle.std.proofs.Common.{refl}
use Rattle.worked_examples.specs.Computing.{examples_compute}
use Rattle.worked_examples.proofs.build_refusals.Goals as goal

pub returns : goal.returns
unfolding examples_compute
returns c = record {
  no_room = refl;
  on_the_code = refl;
  shared = refl;
  linked_items = refl;
  linked_with_stacks = refl;
  linked_fits = refl;
}
