-- What was read of stamps and operations, part by part, as rules of the whole machine.
-- Letters: m is a machine, c a directory and where it stands, o an operation.
use Rattle.std.specs.Prelude.{◌≡◌, ◌<◌, ◌≤◌, ℕ, ◌+◌, Bool, true, false, ◌||◌, nat_eq, nat_lt, nat_le, List, [], ◌∷◌, ◌++◌, length, map, refl}
use Rattle.std.specs.List.{list_any, list_all, AllByRecursion}
use Rattle.std.proofs.Common.{sym, ap, subst, ◌∙◌, arith, append_assoc, append-nil}
use Rattle.std.proofs.lemmas.Bool.{and_parts, eqb-true, ltb-true}
use Rattle.std.proofs.lemmas.Bool.Decides.{nat_tests}
use Rattle.std.proofs.lemmas.List.{length_push, map-append}
use Rattle.state_judging.specs.DdmTypes.declared.operations.Op.{Op}
use Rattle.state_judging.specs.TreeModel.State.Place.{Spot, spot_path, spot_in}
use Rattle.state_judging.specs.TreeModel.State.Shape.{IsShaped, skeleton, skeletons, leaf_numbers_of, leaf_numbers_among, count_from, levels_of, levels_fit, levels_fit_among, depth_of, tree_counts, levels_known, leaves_numbered}
use Rattle.state_judging.specs.TreeModel.State.Values.{DownValue, DirValue, Node, Nodes, leaf_node, dir_node, no_nodes, more_nodes, MachineValue, root_of}
use Rattle.state_judging.specs.TreeRules.Statements.{Holds, is_so, each}
use Rattle.state_judging.specs.TreeRules.Order.Places.{LeafAt, leaves_in, placed_leaves, leaves_at, DirAt, dirs_in, placed_dirs, dirs_at}
use Rattle.state_judging.specs.TreeRules.Order.Time.{has_leaf, key_ends, has_ending_key, stamp_ends, entry_ends, epoch_ends}
use Rattle.state_judging.specs.TreeRules.Order.Rules.{stamps_end, epochs_end, time_rule}
use Rattle.state_judging.proofs.TreeRules.Statements.{facts-each}
use Rattle.state_judging.proofs.EachBus.{AtDirs, AtDirsAmong}
use Rattle.state_judging.proofs.Lists.{any-map, pass-each}
use Rattle.state_judging.proofs.OpsRead.{op_fits}
use Rattle.state_judging.proofs.Refilled.{Ends}
use Rattle.state_judging.proofs.Searches.{each-append, each-so}

module _ {X : Type 0} (t : X → Bool) where
  pub pass-holds : (xs : List X) → list_all t xs ≡ true → Holds (each (λ x. is_so (t x)) xs)
  pass-holds xs h = facts-each (λ x. is_so (t x)) xs (pass-each t xs h)

-- ---- stamps: a directory knows how many buses are above its own

abbrev StampsEnd : DirAt → Type 0
StampsEnd c = Holds (epoch_ends c) × Holds (each (entry_ends c) c.dir.down)

module _ (depth : ℕ) where
  mutual
    ends-in : (c : Spot) (above : ℕ) (n : Node) → length (spot_path c) ≡ above → levels_fit depth above (skeleton n) ≡ true → AtDirs Ends n → AllByRecursion StampsEnd (dirs_in c n)
    ends-in c above (leaf_node v) size fits ends = tt
    ends-in c above (dir_node d ns) size fits ends =
        let parts = and_parts (nat_eq d.level above) _ fits in
        let rest = and_parts (nat_le above 3) (levels_fit_among depth (above + 1) (skeletons ns)) parts.1 in
        let level : d.level ≡ length (spot_path c) = eqb-true d.level above parts.0 ∙ sym size in (
          (
            subst (λ l. stamp_ends l d.epoch ≡ true) level ends.0.0,
            pass-holds (λ (e : DownValue). stamp_ends (length (spot_path c)) e.stamp) d.down (subst (λ l. list_all (λ (e : DownValue). stamp_ends l e.stamp) d.down ≡ true) level ends.0.1),
          ),
          ends-among (spot_path c) d (above + 1) 0 ns (ap (λ l. l + 1) size) rest.1 ends.1,
        )

    ends-among : (path : List ℕ) (d : DirValue) (above i : ℕ) (ns : Nodes) → length path + 1 ≡ above → levels_fit_among depth above (skeletons ns) ≡ true → AtDirsAmong Ends ns → AllByRecursion StampsEnd (placed_dirs path d i ns)
    ends-among path d above i no_nodes size fits ends = tt
    ends-among path d above i (more_nodes n ns) size fits ends =
        let parts = and_parts (levels_fit depth above (skeleton n)) (levels_fit_among depth above (skeletons ns)) fits in
        let here : length (spot_path (spot_in path d i)) ≡ above = length_push path i ∙ size in
        each-append StampsEnd (dirs_in (spot_in path d i) n) (placed_dirs path d (i + 1) ns) (ends-in (spot_in path d i) above n here parts.0 ends.0) (ends-among path d above (i + 1) ns size parts.1 ends.1)

pub dirs-end : (m : MachineValue) → IsShaped m → AtDirs Ends (root_of m) → AllByRecursion StampsEnd (dirs_at m)
unfolding dirs_at
dirs-end m shaped ends =
    let rest = and_parts (nat_eq m.top.level 0) _ (shaped.each levels_known) in
    let below = and_parts (nat_le 0 3) (levels_fit_among (levels_of (skeleton (root_of m))) (0 + 1) (skeletons m.kids)) rest.1 in
    ends-among (levels_of (skeleton (root_of m))) [] m.top 1 0 m.kids refl below.1 ends.1

pub stamps-read : (m : MachineValue) → IsShaped m → AtDirs Ends (root_of m) → Holds (time_rule stamps_end m)
stamps-read m shaped ends = facts-each (λ c. each (entry_ends c) c.dir.down) (dirs_at m) (each-so StampsEnd (λ c. Holds (each (entry_ends c) c.dir.down)) (λ c h. h.1) (dirs_at m) (dirs-end m shaped ends))

pub epochs-read : (m : MachineValue) → IsShaped m → AtDirs Ends (root_of m) → Holds (time_rule epochs_end m)
epochs-read m shaped ends = facts-each epoch_ends (dirs_at m) (each-so StampsEnd (λ c. Holds (epoch_ends c)) (λ c h. h.0) (dirs_at m) (dirs-end m shaped ends))

-- ---- operations: of each number below the count of leaves there is one

abbrev number_at : LeafAt → ℕ
number_at a = a.leaf.number

mutual
  numbers-in : (c : Spot) (n : Node) (rest : List ℕ) → leaf_numbers_of (skeleton n) rest ≡ map number_at (leaves_in c n) ++ rest
  numbers-in c (leaf_node v) rest = refl
  numbers-in c (dir_node d ns) rest = numbers-among (spot_path c) d 0 ns rest

  numbers-among : (path : List ℕ) (d : DirValue) (i : ℕ) (ns : Nodes) (rest : List ℕ) → leaf_numbers_among (skeletons ns) rest ≡ map number_at (placed_leaves path d i ns) ++ rest
  numbers-among path d i no_nodes rest = refl
  numbers-among path d i (more_nodes n ns) rest =
      numbers-in (spot_in path d i) n (leaf_numbers_among (skeletons ns) rest)
      ∙ ap (λ ns. map number_at (leaves_in (spot_in path d i) n) ++ ns) (numbers-among path d (i + 1) ns rest)
      ∙ sym (append_assoc (map number_at (leaves_in (spot_in path d i) n)) (map number_at (placed_leaves path d (i + 1) ns)) rest)
      ∙ ap (λ ns. ns ++ rest) (sym (map-append number_at (leaves_in (spot_in path d i) n) (placed_leaves path d (i + 1) ns)))

numbers-at : (m : MachineValue) → leaf_numbers_of (skeleton (root_of m)) [] ≡ map number_at (leaves_at m)
unfolding leaves_at
numbers-at m = numbers-among [] m.top 0 m.kids [] ∙ append-nil (map number_at (placed_leaves [] m.top 0 m.kids))

counted-there : (k n : ℕ) (ns : List ℕ) → count_from n ns ≡ true → n ≤ k → k < n + length ns → list_any (nat_eq k) ns ≡ true
counted-there k n [] counted low high = absurd (omega (arith, low, high))
counted-there k n (j ∷ ns) counted low high =
    let parts = and_parts (nat_eq j n) (count_from (n + 1) ns) counted in
    let here : j ≡ n = eqb-true j n parts.0 in
    elim (nat_eq k j) as (λ b. nat_eq k j ≡ b → (b || list_any (nat_eq k) ns) ≡ true) [
      | true ↦ λ own. refl
      | false ↦ λ own. counted-there k (n + 1) ns parts.1 (grind (arith, nat_tests, here, low, own)) (omega (arith, high))
    ] refl

pub has-leaf : (m : MachineValue) (k : ℕ) → IsShaped m → k < (tree_counts m).leaves → list_any (λ (a : LeafAt). nat_eq k a.leaf.number) (leaves_at m) ≡ true
has-leaf m k shaped below =
    any-map number_at k (leaves_at m) ∙ ap (list_any (nat_eq k)) (sym (numbers-at m)) ∙ counted-there k 0 (leaf_numbers_of (skeleton (root_of m)) []) (shaped.each leaves_numbered) (omega arith) (omega (arith, below))

module _ (m : MachineValue) (leaves : ℕ) where
  pub leaves-read : IsShaped m → (tree_counts m).leaves ≡ leaves → (ops : List Op) → list_all (op_fits (depth_of m) leaves) ops ≡ true → Holds (each (has_leaf (leaves_at m)) ops)
  leaves-read shaped count [] all = tt
  leaves-read shaped count (o ∷ ops) all =
      let parts = and_parts (op_fits (depth_of m) leaves o) (list_all (op_fits (depth_of m) leaves) ops) all in
      let below : o.hart < leaves = ltb-true o.hart leaves (and_parts (nat_lt o.hart leaves) (key_ends (depth_of m) o.key) parts.0).0 in
      (has-leaf m o.hart shaped (omega (arith, below, count)), leaves-read shaped count ops parts.1)

  pub keys-read : (ops : List Op) → list_all (op_fits (depth_of m) leaves) ops ≡ true → Holds (each (has_ending_key (depth_of m)) ops)
  keys-read [] all = tt
  keys-read (o ∷ ops) all =
      let parts = and_parts (op_fits (depth_of m) leaves o) (list_all (op_fits (depth_of m) leaves) ops) all in
      ((and_parts (nat_lt o.hart leaves) (key_ends (depth_of m) o.key) parts.0).1, keys-read ops parts.1)
