-- That the run is in order.
use Rattle.std.specs.Prelude.{◌≡◌, ℕ, List, ◌++◌, zero, suc, ◌<◌, Bool, true, false, filter, [], ◌∷◌}
use Rattle.std.proofs.Common.{refl, arith, sym, subst}
use Rattle.std.specs.List.{AllByRecursion}
use Rattle.std.proofs.lemmas.Bool.{ne_eqb, and_parts}
use Rattle.tree_rules.specs.Computing.{rules_compute}
use Rattle.tree_rules.specs.Witness.{IsWitnessed, IsHartOf, HasCurrentCopy, EachCauseHolds, busy_has_cause, ops_of_answers, IsHaltedByTurn, IsRunWitnessed}
use Rattle.tree_rules.specs.Order.Time.{keys_differ}
use Rattle.tree_rules.specs.Examples.{causes_hold}
use Rattle.tree_rules.specs.Statements.{each_pair}
use Rattle.tree_rules.proofs.Statements.{Holds-from_test}
use Rattle.broken_runs.specs.TreeModel.Turns.Witness.{sorted_ops}
use Rattle.broken_runs.specs.TreeModel.declared.CopyPlace.{CopyPlace}
use Rattle.broken_runs.specs.TreeModel.Turns.Machine.{Ran, turn_of, run_of, machine_leaves}
use Rattle.broken_runs.specs.TreeModel.State.Values.{MachineValue}
use Rattle.broken_runs.specs.FlatModel.Legal.{is_of}
use Rattle.broken_runs.specs.FlatModel.Flat.{FlatMachine}
use Rattle.broken_runs.specs.DdmTypes.declared.operations.Op.{Op}
use Rattle.broken_runs.specs.DdmTypes.declared.turns.Turn.{Turn}
use Rattle.broken_runs.specs.Run.{flat_start, turns, start, answers, ended, ended_0, ended_1, ended_ops, first_load, first_put, store, second_load, second_put}

last-dropped : (p : Op → Bool) (a b c d e : Op) → p e ≡ false → filter p (a ∷ e ∷ b ∷ c ∷ d ∷ []) ≡ filter p (a ∷ b ∷ c ∷ d ∷ e ∷ [])
last-dropped p a b c d e none = rw none refl

own-order : (h : ℕ) → filter (is_of h) (sorted_ops ended_ops) ≡ filter (is_of h) ended_ops
unfolding rules_compute
own-order zero = refl
own-order (suc h) = last-dropped (is_of (suc h)) first_load store second_load second_put first_put (ne_eqb 0 (suc h) (λ e. omega (arith, e)))

harts-0 : IsHartOf flat_start ended ended_0
unfolding rules_compute
harts-0 = record { hart = refl; done = refl; halt = tt }

harts-1 : IsHartOf flat_start ended ended_1
unfolding rules_compute
harts-1 = record { hart = refl; done = refl; halt = λ b. elim b [ true ↦ refl | false ↦ refl ] }

copies : (x : ℕ) → x < 1 → HasCurrentCopy flat_start ended x
unfolding rules_compute
copies zero h = record { found = record { place = CopyPlace.LeafWay 1 0; words = 7 ∷ [] }; is = refl; words = refl }
copies (suc x) h = absurd (let no : ⊥ = omega (arith, h) in no)

pub witnessed : IsWitnessed flat_start ended
unfolding rules_compute
witnessed = record { keys = Holds-from_test (each_pair keys_differ ended_ops) refl; legal = refl; own_order = own-order; harts = (harts-0, (harts-1, tt)); copies = copies }

-- ---- a run by what it comes to

-- what is said of a run, but for its causes
pub record IsRanWitnessed (s : FlatMachine) (ts : List Turn) (m : MachineValue) (r : Ran) : Type 0 where
  pub machine : IsWitnessed s r.machine
  pub ops : r.machine.ops ≡ m.ops ++ ops_of_answers r.answers
  pub running : AllByRecursion (IsHaltedByTurn ts r.answers) (machine_leaves r.machine)

each-cause : (ts : List Turn) (m : MachineValue) → causes_hold ts m ≡ true → EachCauseHolds ts m
unfolding causes_hold
each-cause [] m h = tt
each-cause (t ∷ ts) m h = let both = and_parts (busy_has_cause t m (turn_of t m).answer) (causes_hold ts (turn_of t m).machine) h in (both.0, each-cause ts (turn_of t m).machine both.1)

pub run-witnessed : (s : FlatMachine) (ts : List Turn) (m : MachineValue) (r : Ran) → run_of ts m ≡ r → causes_hold ts m ≡ true → IsRanWitnessed s ts m r → IsRunWitnessed s ts m
run-witnessed s ts m r is causes w = let here = subst (IsRanWitnessed s ts m) (sym is) w in record { machine = here.machine; ops = here.ops; running = here.running; causes = each-cause ts m causes }

pub ran-witnessed : (s : FlatMachine) (ts : List Turn) (m : MachineValue) (r : Ran) → run_of ts m ≡ r → IsRunWitnessed s ts m → IsRanWitnessed s ts m r
ran-witnessed s ts m r is w = subst (IsRanWitnessed s ts m) is (record { machine = w.machine; ops = w.ops; running = w.running })

pub run-is : run_of turns start ≡ record { answers = answers; machine = ended }
unfolding rules_compute
run-is = refl

causes : causes_hold turns start ≡ true
unfolding rules_compute
causes = refl

halted-1 : IsHaltedByTurn turns answers ended_1
halted-1 h = absurd (let no : ⊥ = cc in no)

pub run-in_order : IsRunWitnessed flat_start turns start
run-in_order = run-witnessed flat_start turns start _ run-is causes (record { machine = witnessed; ops = refl; running = (λ h. refl, (halted-1, tt)) })
