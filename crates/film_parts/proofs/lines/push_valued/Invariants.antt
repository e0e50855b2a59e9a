use Rattle.std.proofs.Common.{◌≡◌, ◌++◌, drop}
use Rattle.film_model.specs.Part.{valued}
use Rattle.film_parts.proofs.lines.push_valued.Given as goal

abbrev pub invariant-loop-place : goal.invariant-loop-place
invariant-loop-place l = l.out.items ++ valued (drop l.place l.still) ≡ l.initial.out.items ++ valued l.still
