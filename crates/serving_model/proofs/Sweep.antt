-- Turns within one child after the other.
-- Letters: w is where the directory d is, ns are its children, Q what each becomes, i and j child numbers.
use Rattle.std.proofs.Common.{◌≡◌, ◌≢◌, ℕ, suc, ◌+◌, ◌<◌, ◌≤◌, List, [], ◌∷◌, ◌++◌, length, Option, None, refl, sym, subst, ◌∙◌, arith, get_or-set_same, get_or-set_other}
use Rattle.std.specs.Prelude.{slice_set}
use Rattle.std.specs.List.{flat_map}
use native.Mathlib.Decide.{ℕ_discrete}
use Rattle.std.proofs.lemmas.List.{length-set}
use Rattle.serving_model.specs.DdmTypes.declared.turns.Turn.{Turn}
use Rattle.serving_model.specs.TreeModel.State.Lists.{first_given}
use Rattle.serving_model.specs.TreeModel.State.Values.{DirValue, Node, dir_node, nodes}
use Rattle.serving_model.specs.TreeModel.State.Blank.{no_node}
use Rattle.serving_model.specs.TreeModel.State.Place.{Where, at_child, where_path, spot_in}
use Rattle.serving_model.specs.TreeModel.Turns.Children.{child_at}
use Rattle.serving_model.specs.Parts.{Runs, stays, below}
use Rattle.serving_model.specs.Walk.{turns_of_child}

-- no child gives anything
pub none-given : {Y : Type 0} (g : ℕ → Node → Option Y) (i : ℕ) (ns : List Node) → ((k : ℕ) → k < length ns → g (i + k) (child_at k ns) ≡ None) → first_given g i ns ≡ None
none-given g i [] each = refl
none-given g i (m ∷ ns) each =
    let same : i + 0 ≡ i = omega arith in
    let first : g i m ≡ None = subst (λ j. g j m ≡ None) same (each 0 (omega arith)) in
    let rest : first_given g (i + 1) ns ≡ None = none-given g (i + 1) ns (λ k l. subst (λ j. g j (child_at k ns) ≡ None) (let next : i + suc k ≡ (i + 1) + k = omega arith in next) (each (suc k) (omega (arith, l)))) in
    rw (first, rest) refl

module _ (w : Where) (d : DirValue) (Q : ℕ → Node → Type 0) where
  -- what child j becomes by these turns
  pub record Turns (j : ℕ) (ns : List Node) (ts : List Turn) : Type 0 where
    pub after : Node
    pub run : Runs (at_child (spot_in (where_path w) d j)) (child_at j ns) ts after
    pub is : Q j after

  -- the children from number i on have had their turns
  pub record Swept (i : ℕ) (ns : List Node) (ts : List Turn) : Type 0 where
    pub after : List Node
    pub run : Runs w (dir_node d (nodes ns)) ts (dir_node d (nodes after))
    pub many : length after ≡ length ns
    pub done : (j : ℕ) → i ≤ j → j < length ns → Q j (child_at j after)
    pub rest : (j : ℕ) → j < i → child_at j after ≡ child_at j ns

  -- child i has its turns, and then those behind it
  swept-more : (i : ℕ) (ns : List Node) (ts us : List Turn) → i < length ns → (first : Turns i ns ts) → Swept (i + 1) (slice_set ns i first.after) us → Swept i ns (ts ++ us)
  swept-more i ns ts us there first later = record {
    after = later.after;
    run = below ns i ts first.after there first.run later.run;
    many = later.many ∙ length-set ns i first.after;
    done = λ j low high. at j low high (ℕ_discrete j i);
    rest = λ j l. later.rest j (omega (arith, l)) ∙ get_or-set_other ns i j first.after no_node (λ same. omega (arith, l, same));
  } where
    at : (j : ℕ) → i ≤ j → j < length ns → Dec (j ≡ i) → Q j (child_at j later.after)
    at j low high (yes same) =
        let set : child_at i later.after ≡ first.after = later.rest i (omega arith) ∙ get_or-set_same ns i first.after no_node there in
        subst (λ k. Q k (child_at k later.after)) (sym same) (subst (Q i) (sym set) first.is)
    at j low high (no other) = later.done j (between j low other) (subst (λ n. j < n) (sym (length-set ns i first.after)) high) where
      between : (j : ℕ) → i ≤ j → j ≢ i → i + 1 ≤ j
      between j low other = omega (arith, low, other)

  -- a child behind has its turns still before it
  moved : (i : ℕ) (ns : List Node) (c : Node) (j : ℕ) (ts : List Turn) → Turns (i + suc j) ns ts → Turns ((i + 1) + j) (slice_set ns i c) ts
  moved i ns c j ts turns =
      let place : i + suc j ≡ (i + 1) + j = omega arith in
      let t : Turns ((i + 1) + j) ns ts = subst (λ k. Turns k ns ts) place turns in
      let same : child_at ((i + 1) + j) (slice_set ns i c) ≡ child_at ((i + 1) + j) ns = get_or-set_other ns i ((i + 1) + j) c no_node (λ e. omega (arith, e)) in
      record { after = t.after; run = subst (λ m. Runs (at_child (spot_in (where_path w) d ((i + 1) + j))) m ts t.after) (sym same) t.run; is = t.is }

  pub sweep : (i : ℕ) (each : List (List Turn)) (ns : List Node) → i + length each ≡ length ns → ((j : ℕ) → j < length each → Turns (i + j) ns (turns_of_child j each)) → Swept i ns (flat_map (λ ts. ts) each)
  sweep i [] ns many turns = record { after = ns; run = stays; many = refl; done = λ j low high. absurd (omega (arith, many, low, high)); rest = λ j l. refl }
  sweep i (ts ∷ each) ns many turns =
      let there : i < length ns = omega (arith, many) in
      let same : i + 0 ≡ i = omega arith in
      let first : Turns i ns ts = subst (λ k. Turns k ns ts) same (turns 0 (omega arith)) in
      let long = length-set ns i first.after in
      let count : (i + 1) + length each ≡ length (slice_set ns i first.after) = omega (arith, many, long) in
      swept-more i ns ts (flat_map (λ ts. ts) each) there first (sweep (i + 1) each (slice_set ns i first.after) count (λ j l. moved i ns first.after j (turns_of_child j each) (turns (suc j) (omega (arith, l)))))
