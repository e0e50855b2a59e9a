-- The machines that no run comes to: what still holds of their turns, and what doesn't.
use Rattle.std.specs.Prelude.{◌≡◌, ℕ, Bool, nat_eq, slice_index_or, zero, suc, ◌<◌, [], ◌∷◌, true, false, Some, None}
use Rattle.std.proofs.Common.{refl, arith, ap, sym, subst, ◌∙◌}
use Rattle.std.proofs.lemmas.Bool.{true≢false, false≢true}
use Rattle.tree_rules.specs.Computing.{rules_compute}
use Rattle.tree_rules.specs.Examples.{causes_hold}
use Rattle.tree_rules.specs.Small.{entry}
use Rattle.tree_rules.specs.Witness.{IsWitnessed, IsHartOf, HasCurrentCopy, busy_has_cause, IsHaltedByTurn, IsRunWitnessed, EachTurnWitnessed}
use Rattle.broken_runs.specs.DdmTypes.declared.answers.BusyCause.{BusyCause}
use Rattle.broken_runs.specs.DdmTypes.declared.answers.QueueName.{QueueName}
use Rattle.broken_runs.specs.DdmTypes.declared.answers.TurnAnswer.{TurnAnswer}
use Rattle.broken_runs.specs.DdmTypes.declared.operations.Effect.{Effect}
use Rattle.broken_runs.specs.DdmTypes.declared.operations.HaltCause.{HaltCause}
use Rattle.broken_runs.specs.DdmTypes.declared.operations.Op.{Op}
use Rattle.broken_runs.specs.DdmTypes.declared.sizes.LeafState.{LeafState}
use Rattle.broken_runs.specs.DdmTypes.declared.turns.Turn.{Turn}
use Rattle.broken_runs.specs.FlatModel.Hart.{HartValue}
use Rattle.broken_runs.specs.FlatModel.Flat.{FlatMachine}
use Rattle.broken_runs.specs.TreeModel.declared.CopyPlace.{CopyPlace}
use Rattle.broken_runs.specs.TreeModel.State.Values.{LeafValue, MachineValue}
use Rattle.broken_runs.specs.TreeModel.Turns.Machine.{Ran, turn_of, run_of}
use Rattle.broken_runs.specs.Run.{hart_at, leaf_at, machine_of, key_of}
use Rattle.broken_runs.specs.BrokenRuns.{two_words, loads_flat, turn_of_hart_1, turn_of_hart_0, other_before_load, twins, twins_flat, too_many_replies, request_of_leaf_0}
use Rattle.broken_runs.proofs.Positive.{run-witnessed, ran-witnessed}

only-first : (P : ℕ → Type 0) → P 0 → (x : ℕ) → x < 1 → P x
only-first P p zero h = p
only-first P p (suc x) h = absurd (let no : ⊥ = omega (arith, h) in no)

-- no operation was completed, and both harts are where they began
module _ (s : FlatMachine) (v w : LeafValue) where
  abbrev no_ops : MachineValue
  no_ops = machine_of (v ∷ w ∷ []) []

  pub unmoved : IsHartOf s no_ops v → IsHartOf s no_ops w → HasCurrentCopy s no_ops 0 → IsWitnessed s no_ops
  unfolding rules_compute
  unmoved a b copy = record { keys = tt; legal = refl; own_order = λ h. refl; harts = (a, (b, tt)); copies = only-first (HasCurrentCopy s no_ops) copy }

-- ---- another word is loaded

pub two_words-witnessed : IsWitnessed loads_flat two_words
unfolding rules_compute
two_words-witnessed = unmoved loads_flat _ _
    (record { hart = refl; done = refl; halt = tt }) (record { hart = refl; done = refl; halt = tt })
    (record { found = record { place = CopyPlace.LeafWay 0 0; words = 5 ∷ [] }; is = refl; words = refl })

-- a load of 3 by hart 1
other_load : Op
other_load = record { key = key_of 9 1 0; hart = 1; pc = 0x10004; effect = Effect.Load 0x20000 3 }

other_loaded : MachineValue
other_loaded = machine_of (leaf_at 0 (hart_at 0x10004 0 None) 0 (entry LeafState.Shared 5) ∷ leaf_at 1 (hart_at 0x10008 3 None) 1 (entry LeafState.Shared 3) ∷ []) (other_load ∷ [])

other_loaded-is : run_of turn_of_hart_1 two_words ≡ record { answers = TurnAnswer.Retired other_load ∷ []; machine = other_loaded }
unfolding rules_compute other_load other_loaded
other_loaded-is = refl

other_loaded-illegal : ¬ IsWitnessed loads_flat other_loaded
unfolding rules_compute other_load other_loaded
other_loaded-illegal w = false≢true w.legal

pub loads-another : ¬ IsRunWitnessed loads_flat turn_of_hart_1 two_words
loads-another w = other_loaded-illegal (ran-witnessed loads_flat turn_of_hart_1 two_words _ other_loaded-is w).machine

-- ---- wrong at first

load : Op
load = record { key = key_of 9 0 0; hart = 0; pc = 0x10004; effect = Effect.Load 0x20000 5 }

loaded : MachineValue
loaded = machine_of (leaf_at 0 (hart_at 0x10008 5 None) 1 (entry LeafState.Shared 5) ∷ leaf_at 1 (hart_at 0x10004 0 None) 0 None ∷ []) (load ∷ [])

loaded-is : run_of turn_of_hart_0 other_before_load ≡ record { answers = TurnAnswer.Retired load ∷ []; machine = loaded }
unfolding rules_compute load loaded
loaded-is = refl

loaded-witnessed : IsWitnessed loads_flat loaded
unfolding rules_compute load loaded
loaded-witnessed = record {
  keys = (tt, tt);
  legal = refl;
  own_order = λ h. refl;
  harts = (record { hart = refl; done = refl; halt = tt }, (record { hart = refl; done = refl; halt = tt }, tt));
  copies = only-first (HasCurrentCopy loads_flat loaded) (record { found = record { place = CopyPlace.LeafWay 0 0; words = 5 ∷ [] }; is = refl; words = refl });
}

loaded-causes : causes_hold turn_of_hart_0 other_before_load ≡ true
unfolding rules_compute
loaded-causes = refl

pub loaded-in_order : IsRunWitnessed loads_flat turn_of_hart_0 other_before_load
unfolding load loaded
loaded-in_order = run-witnessed loads_flat turn_of_hart_0 other_before_load _ loaded-is loaded-causes (record { machine = loaded-witnessed; ops = refl; running = (λ _. refl, (λ _. refl, tt)) })

not-at_first : ¬ IsWitnessed loads_flat other_before_load
unfolding rules_compute
not-at_first w = true≢false (ap (λ (h : HartValue). nat_eq (slice_index_or h.registers 7 0) 0) w.harts.0.hart)

no-turn : (m : MachineValue) → run_of [] m ≡ record { answers = []; machine = m }
unfolding run_of
no-turn m = refl

pub wrong-at_first : ¬ EachTurnWitnessed loads_flat turn_of_hart_0 other_before_load
wrong-at_first w = not-at_first (ran-witnessed loads_flat [] other_before_load _ (no-turn other_before_load) (w 0)).machine

-- ---- two leaves of one number

one_halted : MachineValue
one_halted = machine_of (leaf_at 0 (hart_at 0x1000c 0 (Some (HaltCause.FetchOutside 0x1000c))) 0 (entry LeafState.Exclusive 5) ∷ leaf_at 0 (hart_at 0x1000c 0 None) 0 None ∷ []) []

one_halted-is : run_of turn_of_hart_0 twins ≡ record { answers = TurnAnswer.Halted (HaltCause.FetchOutside 0x1000c) ∷ []; machine = one_halted }
unfolding rules_compute one_halted
one_halted-is = refl

one_halted-witnessed : IsWitnessed twins_flat one_halted
unfolding rules_compute one_halted
one_halted-witnessed = unmoved twins_flat _ _
    (record { hart = refl; done = refl; halt = λ b. elim b [ true ↦ refl | false ↦ refl ] }) (record { hart = refl; done = refl; halt = tt })
    (record { found = record { place = CopyPlace.LeafWay 0 0; words = 5 ∷ [] }; is = refl; words = refl })

pub twins-witnessed : IsWitnessed twins_flat (run_of turn_of_hart_0 twins).machine
twins-witnessed = subst (λ (r : Ran). IsWitnessed twins_flat r.machine) (sym one_halted-is) one_halted-witnessed

halted-by_turn : ¬ IsHaltedByTurn turn_of_hart_0 (TurnAnswer.Halted (HaltCause.FetchOutside 0x1000c) ∷ []) (leaf_at 0 (hart_at 0x1000c 0 None) 0 None)
halted-by_turn h = true≢false (h refl)

pub goes-on : ¬ IsRunWitnessed twins_flat turn_of_hart_0 twins
unfolding one_halted
goes-on w = halted-by_turn (ran-witnessed twins_flat turn_of_hart_0 twins _ one_halted-is w).running.1.0

-- ---- a list over its room

busy-is : run_of request_of_leaf_0 too_many_replies ≡ record { answers = TurnAnswer.Busy (BusyCause.QueueFull (QueueName.LeafReplies 1)) ∷ []; machine = too_many_replies }
unfolding rules_compute
busy-is = refl

too_many-witnessed : IsWitnessed loads_flat too_many_replies
unfolding rules_compute
too_many-witnessed = unmoved loads_flat _ _
    (record { hart = refl; done = refl; halt = tt }) (record { hart = refl; done = refl; halt = tt })
    (record { found = record { place = CopyPlace.LeafWay 1 0; words = 5 ∷ [] }; is = refl; words = refl })

pub busy-witnessed : IsWitnessed loads_flat (run_of request_of_leaf_0 too_many_replies).machine
busy-witnessed = subst (λ (r : Ran). IsWitnessed loads_flat r.machine) (sym busy-is) too_many-witnessed

no_cause : busy_has_cause (Turn.Request 0 0) too_many_replies (turn_of (Turn.Request 0 0) too_many_replies).answer ≡ false
unfolding rules_compute
no_cause = refl

pub busy-without_cause : ¬ IsRunWitnessed loads_flat request_of_leaf_0 too_many_replies
busy-without_cause w = false≢true (sym no_cause ∙ w.causes.0)

nothing_there : (turn_of (Turn.Down 0) too_many_replies).machine ≡ too_many_replies
unfolding rules_compute
nothing_there = refl

-- what the cause of the second turn comes to, where the first one changed nothing
later_cause : MachineValue → Bool
later_cause m = busy_has_cause (Turn.Request 0 0) m (turn_of (Turn.Request 0 0) m).answer

pub busy-later : ¬ IsRunWitnessed loads_flat ((Turn.Down 0) ∷ request_of_leaf_0) too_many_replies
unfolding later_cause
busy-later w = false≢true (sym (ap later_cause nothing_there ∙ no_cause) ∙ w.causes.1.0)
