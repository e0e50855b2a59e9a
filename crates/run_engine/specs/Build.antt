-- What is made of a tree and an image.
use Rattle.std.specs.Prelude.{Bool, Option, nat_lt}
use Rattle.std.specs.Option.{option_map}
use Rattle.run_engine.specs.DdmTypes.declared.sizes.Span.{Span}
use Rattle.run_engine.specs.TreeModel.Start.Sources.{TreeValue, ImageValue}
use Rattle.run_engine.specs.TreeModel.Start.Machine.{StartRefusal, too_many_items, stack_overlap, no_place, start_refusal}
use Rattle.run_engine.specs.declared.refusal.BuildRefusal.{BuildRefusal}
use Rattle.run_engine.specs.declared.refusal.BuildRefusal.TheVariants.{TooManyItems, StackOverlap, NoPlace}

-- a refusal of the tables
abbrev pub refusal_of : StartRefusal → BuildRefusal
refusal_of (too_many_items n) = TooManyItems n
refusal_of (stack_overlap hart header) = StackOverlap hart header
refusal_of (no_place i) = NoPlace i

-- why there is no machine of a tree and an image
abbrev pub build_refusal : TreeValue → ImageValue → Option BuildRefusal
build_refusal t i = option_map refusal_of (start_refusal t i)

abbrev pub has_bytes : Span → Bool
has_bytes s = nat_lt 0 s.bytes
