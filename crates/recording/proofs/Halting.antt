-- What is kept of the harts that have halted, after a turn; and which turns may be passed.
-- Letters: t is a turn, m a machine, a an answer, v a leaf, k its number, h its hart.
use Rattle.std.proofs.Common.{◌≡◌, ◌∙◌, ◌≤◌, ◌<◌, ℕ, zero, suc, ◌+◌, Bool, true, false, ◌&&◌, List, [], ◌∷◌, ◌++◌, map, length, take, Some, refl, sym, ap, subst, if◌then◌else◌, arith}
use Rattle.std.specs.Prelude.{is_some, slice_get, slice_index_or, slice_set}
use Rattle.std.proofs.lemmas.List.{length-map, take_all, take_more, take_more_set}
use Rattle.ddm_types.specs.declared.answers.TurnAnswer.{TurnAnswer}
use Rattle.ddm_types.specs.declared.turns.Turn.{Turn}
use Rattle.tree_model.specs.State.Blank.{no_hart}
use Rattle.tree_model.specs.State.Shape.{IsShaped, leaf_numbers_of, tree_counts}
use Rattle.tree_model.specs.State.Values.{LeafValue, MachineValue}
use Rattle.tree_model.specs.Turns.Machine.{machine_leaves, turn_of}
use Rattle.tree_model.proofs.FrameKept.{turn-frame}
use Rattle.any_runs.specs.DdmTree.Machine.{spare_after}
use Rattle.any_runs.specs.DdmTree.Reads.{counted_hart_of}
use Rattle.any_runs.specs.RvHart.HartState.{HartState}
use Rattle.any_runs.proofs.DdmTree.LeafList.{leaf-listed, leaves-counted}
use Rattle.outcome_model.specs.Halted.{all_halted, has_halted}
use Rattle.recording_model.specs.Doing.{does_by, does_something, had_halted, is_halted}
use Rattle.recording_model.specs.LetBy.{Draw}
use Rattle.recording_model.specs.Recording.{after_draw, draw_does}
use Rattle.recording_model.proofs.Doing.{turn-rests}
use Rattle.recording.specs.declared.making.Came.{Came}
use Rattle.recording.specs.Runs.{AreHalted, came_by, came_to, does_halt, flag_of, flags_of, is_done}
use Rattle.recording.proofs.Flags.{all-flags, all_set, turn-flags}

-- ---- one hart of the list

flag-there : (vs : List LeafValue) (k : ℕ) → slice_index_or (map has_halted vs) k false ≡ is_halted (slice_get (map (λ (v : LeafValue). v.hart) vs) k)
flag-there [] k = refl
flag-there (v ∷ vs) zero = refl
flag-there (v ∷ vs) (suc k) = flag-there vs k

-- the flag of the hart whose turn it is
pub flag-is : (t : Turn) (m : MachineValue) → IsShaped m → flag_of t (flags_of m) ≡ had_halted t m
flag-is (Turn.Hart hart victim) m shaped = flag-there (machine_leaves m) hart ∙ ap is_halted (leaf-listed (λ (v : LeafValue). v.hart) no_hart hart m shaped)
flag-is (Turn.Down bus) m shaped = refl
flag-is (Turn.Request bus child) m shaped = refl
flag-is (Turn.Reply bus child) m shaped = refl
flag-is (Turn.Leave bus child choice) m shaped = refl

abbrev state_in : LeafValue → HartState
state_in v = record { hart = v.hart; done = v.done }

flag-read : (vs : List LeafValue) (k : ℕ) (h : HartState) → slice_get (map state_in vs) k ≡ Some h → slice_index_or (map has_halted vs) k false ≡ is_some h.hart.halt
flag-read [] k h is = cc
flag-read (v ∷ vs) zero h is = let state : state_in v ≡ h = cc in rw (← state) refl
flag-read (v ∷ vs) (suc k) h is = flag-read vs k h is

-- what is read of the hart of a number
pub flag-at : (m : MachineValue) (k : ℕ) (h : HartState) → IsShaped m → Some h ≡ counted_hart_of k m → slice_index_or (flags_of m) k false ≡ is_some h.hart.halt
flag-at m k h shaped is = flag-read (machine_leaves m) k h (leaf-listed state_in (record { hart = no_hart; done = 0 }) k m shaped ∙ sym is)

pub flags-counted : (m : MachineValue) → length (flags_of m) ≡ (tree_counts m).leaves
flags-counted m = length-map (machine_leaves m) has_halted ∙ sym (leaves-counted m)

pub all-more : (flags : List Bool) (b : Bool) → all_set (flags ++ b ∷ []) ≡ (all_set flags && b)
all-more [] true = refl
all-more [] false = refl
all-more (true ∷ flags) b = all-more flags b
all-more (false ∷ flags) b = refl

-- the flags that were put, and whether all of them are set
module _ (m : MachineValue) (k : ℕ) (h : HartState) (shaped : IsShaped m) (is : Some h ≡ counted_hart_of k m) (inside : k < (tree_counts m).leaves) where
  flags-next : take (k + 1) (flags_of m) ≡ take k (flags_of m) ++ is_some h.hart.halt ∷ []
  flags-next =
      let many = flags-counted m in
      take_more (flags_of m) k false (omega (arith, inside, many)) ∙ ap (λ b. take k (flags_of m) ++ b ∷ []) (flag-at m k h shaped is)

  pub flags-more : (flags : List Bool) (halted : Bool) → halted ≡ is_some h.hart.halt → length flags ≡ (tree_counts m).leaves → take k flags ≡ take k (flags_of m) → take (k + 1) (slice_set flags k halted) ≡ take (k + 1) (flags_of m)
  flags-more flags halted read size front = take_more_set flags k halted (omega (arith, inside, size)) ∙ ap (λ xs. xs ++ halted ∷ []) front ∙ ap (λ b. take k (flags_of m) ++ b ∷ []) read ∙ sym flags-next

  pub all-next : (all halted : Bool) → halted ≡ is_some h.hart.halt → all ≡ all_set (take k (flags_of m)) → (all && halted) ≡ all_set (take (k + 1) (flags_of m))
  all-next all halted read so-far = ap (λ b. b && halted) so-far ∙ ap (λ b. all_set (take k (flags_of m)) && b) read ∙ sym (all-more (take k (flags_of m)) (is_some h.hart.halt)) ∙ ap all_set (sym flags-next)

module _ (m : MachineValue) (k : ℕ) (past : (tree_counts m).leaves ≤ k) where
  pub flags-done : (flags : List Bool) → length flags ≡ (tree_counts m).leaves → take k flags ≡ take k (flags_of m) → flags ≡ flags_of m
  flags-done flags size front =
      let many = flags-counted m in
      sym (take_all k flags (omega (arith, past, size))) ∙ front ∙ take_all k (flags_of m) (omega (arith, past, many))

  pub all-done : (all : Bool) → all ≡ all_set (take k (flags_of m)) → all ≡ all_halted m
  all-done all so-far =
      let many = flags-counted m in
      so-far ∙ ap all_set (take_all k (flags_of m) (omega (arith, past, many))) ∙ sym (all-flags m)

-- ---- after a turn

-- a turn changes nothing of how many there are
pub leaves-kept : (t : Turn) (m : MachineValue) → (tree_counts (turn_of t m).machine).leaves ≡ (tree_counts m).leaves
leaves-kept t m = ap (λ f. length (leaf_numbers_of f.bones [])) (turn-frame t m)

pub same-flags : (flags : List Bool) (all : Bool) (m k : MachineValue) → flags_of k ≡ flags_of m → AreHalted flags all m → AreHalted flags all k
same-flags flags all m k same are = record { each = are.each ∙ sym same; every = are.every ∙ all-flags m ∙ ap all_set (sym same) ∙ sym (all-flags k) }

module _ (t : Turn) (m : MachineValue) (flags : List Bool) (all : Bool) (are : AreHalted flags all m) where
  by_answer : (a : TurnAnswer) → (turn_of t m).answer ≡ a → does_halt a (had_halted t m) ≡ false → AreHalted flags all (turn_of t m).machine
  unfolding does_something
  by_answer (TurnAnswer.Retired op) is halts = same-flags flags all m (turn_of t m).machine (turn-flags t m (λ cause e. let wrong : ⊥ = cc in wrong)) are
  by_answer (TurnAnswer.Issued kind x) is halts = same-flags flags all m (turn_of t m).machine (turn-flags t m (λ cause e. let wrong : ⊥ = cc in wrong)) are
  by_answer (TurnAnswer.Waiting x) is halts = same-flags flags all m (turn_of t m).machine (turn-flags t m (λ cause e. let wrong : ⊥ = cc in wrong)) are
  by_answer (TurnAnswer.Halted cause) is halts = subst (AreHalted flags all) (sym (turn-rests t m (ap (λ a. does_by a (had_halted t m)) is ∙ halts))) are
  by_answer (TurnAnswer.Granted entry) is halts = same-flags flags all m (turn_of t m).machine (turn-flags t m (λ cause e. let wrong : ⊥ = cc in wrong)) are
  by_answer TurnAnswer.Empty is halts = same-flags flags all m (turn_of t m).machine (turn-flags t m (λ cause e. let wrong : ⊥ = cc in wrong)) are
  by_answer (TurnAnswer.Busy cause) is halts = same-flags flags all m (turn_of t m).machine (turn-flags t m (λ cause e. let wrong : ⊥ = cc in wrong)) are

  -- where it does nothing
  pub rests-halted : does_by (turn_of t m).answer (had_halted t m) ≡ false → AreHalted flags all (turn_of t m).machine
  unfolding does_something
  rests-halted rests = subst (AreHalted flags all) (sym (turn-rests t m rests)) are

  -- where it halts no hart
  pub still-halted : does_halt (turn_of t m).answer (had_halted t m) ≡ false → AreHalted flags all (turn_of t m).machine
  still-halted = by_answer (turn_of t m).answer refl

-- ---- what a turn comes to, and the room that it takes

-- a turn that halts its hart does something
pub halting-does : (a : TurnAnswer) (halted : Bool) → does_halt a halted ≡ true → came_by a halted ≡ Came.ToDoing
halting-does (TurnAnswer.Retired op) halted is = refl
halting-does (TurnAnswer.Issued kind x) halted is = refl
halting-does (TurnAnswer.Waiting x) halted is = cc
halting-does (TurnAnswer.Halted cause) true is = cc
halting-does (TurnAnswer.Halted cause) false is = refl
halting-does (TurnAnswer.Granted entry) halted is = refl
halting-does TurnAnswer.Empty halted is = cc
halting-does (TurnAnswer.Busy cause) halted is = cc

-- what comes to doing does something, and nothing else does
pub done-does : (a : TurnAnswer) (halted : Bool) → is_done (came_by a halted) ≡ does_by a halted
done-does (TurnAnswer.Retired op) halted = refl
done-does (TurnAnswer.Issued kind x) halted = refl
done-does (TurnAnswer.Waiting x) halted = refl
done-does (TurnAnswer.Halted cause) true = refl
done-does (TurnAnswer.Halted cause) false = refl
done-does (TurnAnswer.Granted entry) halted = refl
done-does TurnAnswer.Empty halted = refl
done-does (TurnAnswer.Busy cause) halted = refl

pub draw-done : (d : Draw) (m : MachineValue) → is_done (came_to d m) ≡ draw_does d m
unfolding does_something
draw-done d m = by_let d.let_by where
  by_let : (by : Bool) → is_done (if by then came_by (turn_of d.turn m).answer (had_halted d.turn m) else Came.ToNothing) ≡ (by && does_by (turn_of d.turn m).answer (had_halted d.turn m))
  by_let true = done-does (turn_of d.turn m).answer (had_halted d.turn m)
  by_let false = refl

-- a turn that does nothing takes no room, and any other that of one operation at most
pub spare-falls : (a : TurnAnswer) (halted : Bool) (n : ℕ) → n ≤ spare_after a n + (if is_done (came_by a halted) then 1 else 0)
spare-falls (TurnAnswer.Retired op) halted n = omega arith
spare-falls (TurnAnswer.Issued kind x) halted n = omega arith
spare-falls (TurnAnswer.Waiting x) halted n = omega arith
spare-falls (TurnAnswer.Halted cause) true n = omega arith
spare-falls (TurnAnswer.Halted cause) false n = omega arith
spare-falls (TurnAnswer.Granted entry) halted n = omega arith
spare-falls TurnAnswer.Empty halted n = omega arith
spare-falls (TurnAnswer.Busy cause) halted n = omega arith

-- ---- a drawn turn

leaves-if : (t : Turn) (by : Bool) (m : MachineValue) → (tree_counts (if by then (turn_of t m).machine else m)).leaves ≡ (tree_counts m).leaves
leaves-if t true m = leaves-kept t m
leaves-if t false m = refl

pub draw-leaves : (d : Draw) (m : MachineValue) → (tree_counts (after_draw d m)).leaves ≡ (tree_counts m).leaves
draw-leaves d m = leaves-if d.turn d.let_by m
