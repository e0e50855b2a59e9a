-- Facts of the leaves in order, whose numbers are counted from a first one on.
-- Letters: v is a leaf.
use Rattle.std.proofs.Common.{◌≡◌, ℕ, zero, suc, ◌+◌, ◌<◌, Bool, true, false, ◌&&◌, ◌||◌, List, [], ◌∷◌, ◌++◌, map, get_or, Option, Some, None, refl, ap, ◌∙◌, arith}
use Rattle.std.specs.Prelude.{is_some}
use Rattle.std.specs.List.{AllByRecursion, list_all, list_any, range_with_len}
use Rattle.outcome_model.specs.DdmTypes.declared.operations.HaltCause.{HaltCause}
use Rattle.outcome_model.specs.Halted.{has_halted}
use Rattle.recording_model.specs.TreeModel.State.Blank.{no_hart}
use Rattle.recording_model.specs.TreeModel.State.Values.{LeafValue, Node, Nodes, leaf_node, dir_node, no_nodes, more_nodes}
use Rattle.recording_model.specs.TreeModel.State.Shape.{skeleton, skeletons, leaf_numbers_of, leaf_numbers_among}
use Rattle.recording_model.specs.TreeModel.Turns.Machine.{leaves_of, leaves_among}
use Rattle.litmus_states.specs.States.{hart_in, is_fault, is_faulted}

-- ---- numbers

abbrev pub number_of : LeafValue → ℕ
number_of v = v.number

mutual
  pub numbers-in : (n : Node) (rest : List LeafValue) → map number_of (leaves_of n rest) ≡ leaf_numbers_of (skeleton n) (map number_of rest)
  numbers-in (leaf_node v) rest = refl
  numbers-in (dir_node d ns) rest = numbers-among ns rest

  numbers-among : (ns : Nodes) (rest : List LeafValue) → map number_of (leaves_among ns rest) ≡ leaf_numbers_among (skeletons ns) (map number_of rest)
  numbers-among no_nodes rest = refl
  numbers-among (more_nodes n ns) rest = numbers-in n (leaves_among ns rest) ∙ ap (leaf_numbers_of (skeleton n)) (numbers-among ns rest)

-- ---- the leaf at a place

pub record LeafAt (P : LeafValue → Type 0) (vs : List LeafValue) (k number : ℕ) : Type 0 where
  pub leaf : LeafValue
  pub there : get_or (map hart_in vs) k no_hart ≡ leaf.hart
  pub numbered : leaf.number ≡ number
  pub has : P leaf

module _ (P : LeafValue → Type 0) where
  pub leaf-at : (vs : List LeafValue) (n count k : ℕ) → AllByRecursion P vs → map number_of vs ≡ range_with_len n count → k < count → LeafAt P vs k (n + k)
  leaf-at [] n zero k all numbers inside = absurd (omega (arith, inside))
  leaf-at [] n (suc count) k all numbers inside = absurd (let wrong : ⊥ = cc in wrong)
  leaf-at (v ∷ vs) n zero k all numbers inside = absurd (omega (arith, inside))
  leaf-at (v ∷ vs) n (suc count) zero all numbers inside =
      let first : v.number ≡ n = cc in
      record { leaf = v; there = refl; numbered = omega (arith, first); has = all.0 }
  leaf-at (v ∷ vs) n (suc count) (suc k) all numbers inside =
      let others : map number_of vs ≡ range_with_len (n + 1) count = cc in
      let next = leaf-at vs (n + 1) count k all.1 others (omega (arith, inside)) in
      record { leaf = next.leaf; there = next.there; numbered = (let e = next.numbered in omega (arith, e)); has = next.has }

-- ---- tests of all leaves

stops : (halt : Option HaltCause) → is_fault halt ≡ false → is_some halt ≡ true → halt ≡ Some HaltCause.Breakpoint
stops None no_fault halted = absurd (let wrong : ⊥ = cc in wrong)
stops (Some HaltCause.Breakpoint) no_fault halted = refl
stops (Some cause) no_fault halted = absurd (let wrong : ⊥ = cc in wrong)

or-first : (a b : Bool) → (a || b) ≡ false → (a ≡ false) × (b ≡ false)
or-first true b e = absurd (let wrong : ⊥ = cc in wrong)
or-first false b e = (refl, e)

and-both : (a b : Bool) → (a && b) ≡ true → (a ≡ true) × (b ≡ true)
and-both true b e = (refl, e)
and-both false b e = absurd (let wrong : ⊥ = cc in wrong)

-- where no leaf's hart faulted and each halted, each is at its breakpoint
pub all-stopped : (P : LeafValue → Type 0) (vs : List LeafValue) → AllByRecursion P vs → list_any is_faulted vs ≡ false → list_all has_halted vs ≡ true
    → AllByRecursion (λ (v : LeafValue). P v × (v.hart.halt ≡ Some HaltCause.Breakpoint)) vs
all-stopped P [] all no_fault halted = tt
all-stopped P (v ∷ vs) all no_fault halted =
    let faults = or-first (is_faulted v) (list_any is_faulted vs) no_fault in
    let halts = and-both (has_halted v) (list_all has_halted vs) halted in
    ((all.0, stops v.hart.halt faults.0 halts.0), all-stopped P vs all.1 faults.1 halts.1)

pub all-joined : {A : Type 0} (P : A → Type 0) (xs ys : List A) → AllByRecursion P xs → AllByRecursion P ys → AllByRecursion P (xs ++ ys)
all-joined P [] ys all others = others
all-joined P (x ∷ xs) ys all others = (all.0, all-joined P xs ys all.1 others)
