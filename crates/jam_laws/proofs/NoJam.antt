-- Where a leaf waits, some bus goes on; and the turn that is named is the first that would be granted.
-- Letters: m is a machine, t a turn.
use Rattle.std.proofs.Common.{◌≡◌, Bool, true, false, List, Some, None, Ok, refl, sym, ap, ◌∙◌}
use Rattle.std.specs.Prelude.{◌||◌, is_some, if◌then◌else◌}
use Rattle.std.proofs.lemmas.Bool.{true≢false}
use Rattle.jam_laws.specs.DdmTypes.declared.answers.TurnAnswer.{TurnAnswer}
use Rattle.jam_laws.specs.DdmTypes.declared.turns.Turn.{Turn}
use Rattle.jam_laws.specs.TreeModel.State.Values.{MachineValue}
use Rattle.jam_laws.specs.TreeModel.State.Shape.{IsShaped}
use Rattle.jam_laws.specs.TreeModel.Turns.Machine.{turn_of, run_of}
use Rattle.jam_laws.specs.TreeModel.Start.Sources.{TreeValue, ImageValue}
use Rattle.jam_laws.specs.TreeModel.Start.Machine.{start_of}
use Rattle.jam_laws.proofs.TreeModel.FrameKept.{run-shape}
use Rattle.jam_laws.specs.TreeRules.Bus.Rules.{IsMachineOk, items_of_machine}
use Rattle.bus_laws.specs.IsTree.{IsTree}
use Rattle.bus_laws.proofs.TreeKept.{run-keeps_rules}
use Rattle.bus_laws.proofs.StartKept.{start-kept}
use Rattle.jam_laws.specs.GoesOn.{some_leaf_waits, has_large_lists, sizes_are_large, is_granted, finds_list_full, granted_or_full, first_granted, unjamming_turn, SomeTurn, IsFirstGranted}
use Rattle.jam_laws.proofs.Walk.{machine-goes}
use Rattle.jam_laws.proofs.Named.{some-turn}
use Rattle.jam_laws.proofs.NeverFull.{never-full}
use Rattle.jam_laws.proofs.First.{first-some, first-is}
use Rattle.jam_laws.proofs.LargeLists.{run-large, made-large}

-- whatever the lists: a turn is granted, or finds one full
pub goes-or_full : (m : MachineValue) → IsShaped m → IsMachineOk m → some_leaf_waits m ≡ true → SomeTurn m granted_or_full
goes-or_full m shaped ok waits = some-turn m shaped (machine-goes m ok waits)

granted-if : (a : TurnAnswer) → (is_granted a || finds_list_full a) ≡ true → finds_list_full a ≡ false → is_granted a ≡ true
granted-if a goes room = by (is_granted a) refl goes where
  by : (b : Bool) → is_granted a ≡ b → (b || finds_list_full a) ≡ true → is_granted a ≡ true
  by true is h = is
  by false is h = absurd (true≢false (sym h ∙ room))

pub some-granted : (m : MachineValue) → IsShaped m → IsMachineOk m → has_large_lists m ≡ true → some_leaf_waits m ≡ true → SomeTurn m is_granted
some-granted m shaped ok large waits =
    let s = goes-or_full m shaped ok waits in
    record { turn = s.turn; kind = s.kind; names = s.names; answer = granted-if (turn_of s.turn m).answer s.answer (never-full m ok large s.turn) }

-- ---- the turn that is named

pub none-named : (m : MachineValue) → IsShaped m → IsMachineOk m → has_large_lists m ≡ true → unjamming_turn m ≡ None → some_leaf_waits m ≡ false
none-named m shaped ok large none = by (some_leaf_waits m) refl none where
  by : (b : Bool) → some_leaf_waits m ≡ b → (if b then first_granted m else None) ≡ None → b ≡ false
  by true is e = absurd (true≢false (sym (first-some m shaped (some-granted m shaped ok large is)) ∙ ap is_some e))
  by false is e = refl

pub none-waits : (m : MachineValue) → some_leaf_waits m ≡ false → unjamming_turn m ≡ None
none-waits m none = rw none refl

pub named-first : (m : MachineValue) (t : Turn) → unjamming_turn m ≡ Some t → IsFirstGranted m t
named-first m t named = by (some_leaf_waits m) named where
  by : (b : Bool) → (if b then first_granted m else None) ≡ Some t → IsFirstGranted m t
  by true e = first-is m t e
  by false e = cc

-- ---- of every run

pub run-granted : (t : TreeValue) (i : ImageValue) (m : MachineValue) → IsTree t → start_of t i ≡ Ok m → sizes_are_large t.sizes (items_of_machine m) ≡ true → (ts : List Turn) → some_leaf_waits (run_of ts m).machine ≡ true → SomeTurn (run_of ts m).machine is_granted
run-granted t i m tree made large ts waits =
    some-granted (run_of ts m).machine (run-shape ts m (start-kept t i m tree made).0) (run-keeps_rules ts m (start-kept t i m tree made).1) (run-large ts m ∙ made-large t i m made large) waits
