use Rattle.std.proofs.Common.{◌≡◌, ◌++◌, drop}
use Rattle.film_model.specs.Part.{changed}
use Rattle.film_parts.proofs.lines.push_changed.Given as goal

abbrev pub invariant-loop-place : goal.invariant-loop-place
invariant-loop-place l = l.out.items ++ changed (drop l.place l.before) (drop l.place l.after) ≡ l.initial.out.items ++ changed l.before l.after
