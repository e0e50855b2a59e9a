-- Each turn that does something is tried, and a state of a search is the machine after a run.
-- Letters: m is a machine, t a turn, ts are turns.
use Rattle.std.proofs.Common.{[], ◌∷◌, refl, inl, inr}
use Rattle.tree_model.specs.Turns.Machine.{run_of, turn_of}
use Rattle.recording_model.specs.Doing.{does_something}
use Rattle.search_laws.proofs.Lists.{true-or-false, none-of-nothing}
use Rattle.search_model.specs.Tried.{doing_turns}
use Rattle.search_model.specs.TurnClaims.{StatesAreRuns, EachTurnIsTried, NoOtherTurnIsLeft}
use Rattle.search_model.proofs.Listed.{doing-listed, in-doing}

pub states-are-runs : StatesAreRuns
unfolding run_of
states-are-runs same turns [] m = refl
states-are-runs same turns (t ∷ ts) m = states-are-runs same turns ts (turn_of t m).machine

pub each-tried : EachTurnIsTried
each-tried t m ways does =
    let l = doing-listed t m ways does in
    record { turn = l.turn; tried = in-doing t m l does; same = l.same }

pub none-left : NoOtherTurnIsLeft
none-left t m ways none = elim (true-or-false (does_something t m)) [
  | inl does ↦ let one = each-tried t m ways does in absurd (none-of-nothing (doing_turns m) one.turn none one.tried)
  | inr nothing ↦ nothing
]
