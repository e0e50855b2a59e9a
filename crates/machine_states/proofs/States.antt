-- The machines that are put into states keep what they need, whatever is done with them.
-- Letters: start, at and reached are the three machines, after one of them after a call, made is how many turns led to the second.
use Rattle.std.proofs.Common.{◌≡◌, ℕ, ◌+◌, ◌≤◌, List, [], ◌++◌, length, sym, ap, ◌∙◌, arith}
use Rattle.ddm_types.specs.declared.turns.Turn.{Turn}
use Rattle.tree_model.specs.State.Shape.{frame_of}
use Rattle.tree_model.specs.Turns.Machine.{run_of}
use Rattle.tree_model.proofs.FrameKept.{run-frame}
use Rattle.any_runs.specs.AnyMachine.Any.{machine_state}
use Rattle.any_runs.specs.AnyMachine.Kind.{kind_of}
use Rattle.any_runs.specs.AnyMachine.declared.machine.AnyMachine.{AnyMachine}
use Rattle.machine_states.specs.Places.{HasFewPlaces}
use Rattle.machine_states.specs.Ready.{AreStates, CanBegin, IsLater}
use Rattle.machine_states.specs.Words.{HasForms, HasItemWords}
use Rattle.machine_states.proofs.Begins.{begin-none, begin-places, begin-width}
use Rattle.machine_states.proofs.Runs.{form-later, places-later, run-both, run-few, run-none, width-later}

-- ---- a machine after some turns

module _ (most : ℕ) (start now : AnyMachine) (is : IsLater most start now) where
  pub later-frame : frame_of (machine_state now).machine ≡ frame_of (machine_state start).machine
  later-frame = ap frame_of is.ran ∙ run-frame is.made (machine_state start).machine

  module _ (can : CanBegin start) where
    pub later-places : HasFewPlaces (kind_of now).ways (machine_state now).machine
    later-places = rw (is.kind, is.ran) (places-later (kind_of start).ways is.made (machine_state start).machine (begin-places start can))

    pub later-width : HasItemWords (kind_of now).width (machine_state now).machine
    later-width = rw (is.kind, is.ran) (width-later (kind_of start).width is.made (machine_state start).machine (begin-width start can))

    pub later-form : HasForms (machine_state now).machine
    later-form = rw is.ran (form-later (machine_state start).machine can.started is.made)

-- ---- the start

pub at-start : (most : ℕ) (start now : AnyMachine) → CanBegin start → kind_of now ≡ kind_of start → (machine_state now).machine ≡ (machine_state start).machine → (machine_state now).turns ≡ (machine_state start).turns → IsLater most start now
at-start most start now can kind same turns = record {
  kind = kind;
  made = [];
  ran = same ∙ sym (run-none (machine_state start).machine);
  turns = omega (arith, turns, can.turns);
  ops = omega (arith, ap (λ m. length m.ops) same, ap length (begin-none start can));
}

-- ---- the three of them

module _ (made : ℕ) (start at reached : AnyMachine) (are : AreStates made start at reached) where
  pub same-frame : frame_of (machine_state reached).machine ≡ frame_of (machine_state at).machine
  same-frame = later-frame 1048577 start reached are.later ∙ sym (later-frame made start at are.gone)

  pub start-frame : frame_of (machine_state at).machine ≡ frame_of (machine_state start).machine
  start-frame = later-frame made start at are.gone

  -- another machine was reached
  pub reached-other : (after : AnyMachine) → IsLater 1048577 start after → AreStates made start at after
  reached-other after later = record { can = are.can; few = are.few; gone = are.gone; later = later }

-- after turns from there
pub gone-on : (made most : ℕ) (start at after : AnyMachine) (ts : List Turn) → IsLater made start at → made + length ts ≤ most → kind_of after ≡ kind_of start → (machine_state after).machine ≡ (run_of ts (machine_state at).machine).machine
    → (machine_state after).turns ≤ most → IsLater most start after
gone-on made most start at after ts is few kind ran turns = record {
  kind = kind;
  made = is.made ++ ts;
  ran = ran ∙ ap (λ m. (run_of ts m).machine) is.ran ∙ sym (run-both is.made ts (machine_state start).machine);
  turns = turns;
  ops = omega (arith, ap (λ m. length m.ops) ran, run-few ts (machine_state at).machine, is.ops, few);
}
