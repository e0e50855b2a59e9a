-- What the judge of turns comes to, turn by turn.
-- Letters: m is a machine, k a number, t is a turn, ts are turns, r is what a turn came to.
use Rattle.std.proofs.Common.{◌≡◌, ℕ, suc, ◌+◌, ◌<◌, ◌≤◌, Bool, true, false, List, [], ◌∷◌, ◌++◌, length, drop, take, filter, Option, Some, None, refl, sym, ap, ◌∙◌, arith, append-nil}
use Rattle.std.specs.Prelude.{find, slice_get, Result, Ok, Err, IfOk, if◌then◌else◌}
use Rattle.std.proofs.lemmas.List.{length-map}
use Rattle.ddm_types.specs.declared.turns.Turn.{Turn}
use Rattle.tree_model.specs.State.Shape.{IsShaped, tree_counts}
use Rattle.tree_model.specs.State.Values.{LeafValue, MachineValue}
use Rattle.tree_model.specs.Turns.Machine.{machine_leaves, names_part, turn_of}
use Rattle.any_runs.proofs.DdmTree.LeafList.{leaves-counted}
use Rattle.outcomes.specs.RecordingModel.Doing.{does_by, does_something, had_halted}
use Rattle.explorer.specs.SearchModel.Tried.{doing_turns, is_quiet, is_quiet_answer, quiet_turns, tried_turns, turns_of_tree}
use Rattle.machine_states.specs.Listed.{first_victims}
use Rattle.machine_states.proofs.Leaves.{leaf-at}
use Rattle.machine_states.proofs.Nothing.{unnamed-rests}
use Rattle.machine_states.proofs.Places.{got}
use Rattle.machine_states.proofs.Tests.{drop-more, drop-whole, filter-place, find-first, first-found, found_or, take-whole}

-- ---- one turn

module _ (m : MachineValue) (t : Turn) where
  -- one that names no part
  pub unnamed-does : names_part t m ≡ false → does_something t m ≡ false
  unfolding does_something
  unnamed-does none = ap (λ a. does_by a (had_halted t m)) (unnamed-rests m t none)

  pub unnamed-quiet : names_part t m ≡ false → is_quiet m t ≡ false
  unfolding is_quiet
  unnamed-quiet none = ap (λ a. is_quiet_answer a (had_halted t m)) (unnamed-rests m t none)

  -- one that was made on the same machine
  module _ (now : MachineValue) (same : now ≡ m) (halted : Bool) (had : halted ≡ had_halted t m) where
    pub made-does : does_by (turn_of t now).answer halted ≡ does_something t m
    unfolding does_something
    made-does = rw (same, had) refl

    pub made-quiet : is_quiet_answer (turn_of t now).answer halted ≡ is_quiet m t
    unfolding is_quiet
    made-quiet = rw (same, had) refl

-- ---- the first quiet turn

module _ (m : MachineValue) (shaped : IsShaped m) where
  victim-at : (k : ℕ) → k < (tree_counts m).leaves → slice_get (first_victims m) k ≡ Some (Turn.Hart k 0)
  victim-at k less =
      let there = leaf-at m shaped k less in
      got (λ (v : LeafValue). Turn.Hart v.number 0) (machine_leaves m) k there.leaf there.at ∙ ap (λ n. Some (Turn.Hart n 0)) there.number

  abbrev IsFound : ℕ → Type 0
  IsFound k = find (is_quiet m) (first_victims m) ≡ find (is_quiet m) (drop k (first_victims m))

  pub next-found : (k : ℕ) → k < (tree_counts m).leaves → IsFound k → find (is_quiet m) (first_victims m) ≡ (if is_quiet m (Turn.Hart k 0) then Some (Turn.Hart k 0) else find (is_quiet m) (drop (suc k) (first_victims m)))
  next-found k less is = is ∙ ap (find (is_quiet m)) (drop-more (first_victims m) k (Turn.Hart k 0) (victim-at k less)) ∙ find-first (is_quiet m) (Turn.Hart k 0) (drop (suc k) (first_victims m))

  pub here-found : (k : ℕ) → k < (tree_counts m).leaves → IsFound k → is_quiet m (Turn.Hart k 0) ≡ true → Some (Turn.Hart k 0) ≡ find (is_quiet m) (first_victims m)
  here-found k less is quiet = sym (next-found k less is ∙ ap (λ b. if b then Some (Turn.Hart k 0) else find (is_quiet m) (drop (suc k) (first_victims m))) quiet)

  pub later-found : (k : ℕ) → k < (tree_counts m).leaves → IsFound k → is_quiet m (Turn.Hart k 0) ≡ false → IsFound (k + 1)
  later-found k less is none =
      let next : suc k ≡ k + 1 = omega arith in
      next-found k less is ∙ ap (λ b. if b then Some (Turn.Hart k 0) else find (is_quiet m) (drop (suc k) (first_victims m))) none ∙ ap (λ n. find (is_quiet m) (drop n (first_victims m))) next

  pub none-found : (k : ℕ) → (tree_counts m).leaves ≤ k → IsFound k → None ≡ find (is_quiet m) (first_victims m)
  none-found k past is =
      let all : length (first_victims m) ≤ k = omega (arith, past, leaves-counted m, length-map (machine_leaves m) (λ (v : LeafValue). Turn.Hart v.number 0)) in
      sym (is ∙ ap (find (is_quiet m)) (drop-whole (first_victims m) k all))

-- ---- the turns that do something

module _ (m : MachineValue) where
  abbrev does : Turn → Bool
  does t = does_something t m

  one-kept : (t : Turn) (b : Bool) → does t ≡ b → filter does (t ∷ []) ≡ (if b then t ∷ [] else [])
  one-kept t b is = ap (λ b. if b then t ∷ [] else []) is

  -- one is kept, or left out
  pub kept-on : (ts now : List Turn) (k : ℕ) (t : Turn) → slice_get ts k ≡ Some t → now ≡ filter does (take k ts) → does t ≡ true → now ++ t ∷ [] ≡ filter does (take (k + 1) ts)
  kept-on ts now k t there is passes = ap (λ l. l ++ t ∷ []) is ∙ ap (λ l. filter does (take k ts) ++ l) (sym (one-kept t true passes)) ∙ sym (filter-place does ts k t there)

  pub left-out : (ts now : List Turn) (k : ℕ) (t : Turn) → slice_get ts k ≡ Some t → now ≡ filter does (take k ts) → does t ≡ false → now ≡ filter does (take (k + 1) ts)
  left-out ts now k t there is fails = is ∙ sym (append-nil _) ∙ ap (λ l. filter does (take k ts) ++ l) (sym (one-kept t false fails)) ∙ sym (filter-place does ts k t there)

  pub all-kept : (ts now : List Turn) (k : ℕ) → ts ≡ turns_of_tree m → now ≡ filter does (take k ts) → length ts ≤ k → now ≡ doing_turns m
  unfolding doing_turns
  all-kept ts now k all is past = is ∙ ap (filter does) (take-whole ts k past) ∙ ap (filter does) all

-- ---- what is tried

pub tried-are : (m : MachineValue) (o : Option Turn) → o ≡ find (is_quiet m) (first_victims m) → found_or o (doing_turns m) ≡ tried_turns m
unfolding tried_turns quiet_turns
tried-are m o is = ap (λ o. found_or o (doing_turns m)) is ∙ sym (first-found (is_quiet m) (first_victims m) (doing_turns m))

-- what is so of an answer that is given
pub if-ok : {T E : Type 0} (P Q : T → Type 0) (r : Result T E) → IfOk r P → ((x : T) → P x → Q x) → IfOk r Q
if-ok P Q (Ok x) is goes = goes x is
if-ok P Q (Err e) is goes = is
