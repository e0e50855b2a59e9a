use Rattle.std.proofs.Common.{◌≡◌, ℕ, List, drop}
use Rattle.std.specs.Prelude.{bytes_eq}
use Rattle.std.specs.Borrow.{Bor}
use Rattle.std.specs.List.{list_any}
use Rattle.litmus_steps.proofs.forms.is_among.Given as goal

abbrev pub invariant-loop-name : goal.invariant-loop-name
invariant-loop-name l =
    list_any (λ (name : Bor (List ℕ)). bytes_eq l.word name.now) l.names ≡ list_any (λ (name : Bor (List ℕ)). bytes_eq l.word name.now) (drop l.name-index l.names)
