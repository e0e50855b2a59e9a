-- Lists of a machine's turns, part by part: how many leaves and buses there are, and the turns of each.
-- Letters: m is a machine, v a leaf, vs are leaves, n is a node, ns are nodes, k a number.
use Rattle.std.proofs.Common.{◌≡◌, ℕ, zero, suc, ◌+◌, ◌<◌, List, [], ◌∷◌, ◌++◌, map, length, take, Some, refl, sym, ap, ◌∙◌, arith, append_assoc, append-nil, inl, inr}
use Rattle.std.specs.Prelude.{flat_map, slice_get}
use Rattle.std.specs.List.{range_with_len}
use Rattle.ddm_types.specs.declared.turns.Turn.{Turn}
use Rattle.tree_model.specs.State.Values.{LeafValue, Node, MachineValue}
use Rattle.tree_model.specs.Turns.Children.{child_at}
use Rattle.tree_model.specs.Turns.Machine.{machine_leaves}
use Rattle.search_laws.specs.Space.{IsOneOf}
use Rattle.explorer.specs.SearchModel.Tried.{leaving_count, leave_turns, turns_of_leaf}
use Rattle.machine_states.specs.Listed.{hart_turns, parts_at}
use Rattle.machine_states.proofs.BusOrder.{BusAt, ordered}
use Rattle.machine_states.proofs.Places.{or-found}
use Rattle.machine_states.proofs.Loops.{take-more}

-- ---- the harts

harts-from : (ways k : ℕ) (vs : List LeafValue) → ((v : LeafValue) → IsOneOf vs v → v.sizes.way_count ≡ ways) → ((j : ℕ) (v : LeafValue) → slice_get vs j ≡ Some v → v.number ≡ k + j)
    → flat_map turns_of_leaf vs ≡ flat_map (hart_turns ways) (range_with_len k (length vs))
harts-from ways k [] wide numbered = refl
harts-from ways k (v ∷ vs) wide numbered =
    let first : v.number ≡ k = omega (arith, numbered 0 v refl) in
    let rest = harts-from ways (k + 1) vs (λ u i. wide u (inr i)) (λ j u is. omega (arith, numbered (suc j) u is)) in
    ap (λ n. map (λ victim. Turn.Hart v.number victim) (range_with_len 0 n) ++ flat_map turns_of_leaf vs) (wide v (inl refl))
    ∙ ap (λ n. hart_turns ways n ++ flat_map turns_of_leaf vs) first ∙ ap (λ l. hart_turns ways k ++ l) rest

pub harts-listed : (ways leaves : ℕ) (m : MachineValue) → ((v : LeafValue) → IsOneOf (machine_leaves m) v → v.sizes.way_count ≡ ways) → ((j : ℕ) (v : LeafValue) → slice_get (machine_leaves m) j ≡ Some v → v.number ≡ j)
    → leaves ≡ length (machine_leaves m) → flat_map turns_of_leaf (machine_leaves m) ≡ flat_map (hart_turns ways) (range_with_len 0 leaves)
harts-listed ways leaves m wide numbered count = harts-from ways 0 (machine_leaves m) wide (λ j v is. omega (arith, numbered j v is)) ∙ ap (λ n. flat_map (hart_turns ways) (range_with_len 0 n)) (sym count)

-- ---- a bus

pub parts-are : (m : MachineValue) (k : ℕ) (b : BusAt m k) → parts_at k m ≡ b.parts
parts-are m k b = or-found (ordered m) k (record { number = k; kids = [] }) b.parts b.at

-- the copies of one child more
leave-joined : (bus k : ℕ) (ns : List Node) (n : Node) → leave_turns bus k (ns ++ n ∷ []) ≡ leave_turns bus k ns ++ map (λ choice. Turn.Leave bus (k + length ns) choice) (range_with_len 0 (leaving_count n))
leave-joined bus k [] n =
    let same : k ≡ k + 0 = omega arith in
    append-nil _ ∙ ap (λ c. map (λ choice. Turn.Leave bus c choice) (range_with_len 0 (leaving_count n))) same
leave-joined bus k (m ∷ ns) n =
    let next : (k + 1) + length ns ≡ k + length (m ∷ ns) = omega arith in
    let first = map (λ choice. Turn.Leave bus k choice) (range_with_len 0 (leaving_count m)) in
    ap (λ l. first ++ l) (leave-joined bus (k + 1) ns n) ∙ sym (append_assoc first (leave_turns bus (k + 1) ns) (map (λ choice. Turn.Leave bus ((k + 1) + length ns) choice) (range_with_len 0 (leaving_count n))))
    ∙ ap (λ c. (first ++ leave_turns bus (k + 1) ns) ++ map (λ choice. Turn.Leave bus c choice) (range_with_len 0 (leaving_count n))) next

taken-long : (ns : List Node) (c : ℕ) → c < length ns → length (take c ns) ≡ c
taken-long [] c less = absurd (omega (arith, less))
taken-long (n ∷ ns) zero less = refl
taken-long (n ∷ ns) (suc c) less = let rest = taken-long ns c (omega (arith, less)) in omega (arith, rest)

child-got : (ns : List Node) (c : ℕ) → c < length ns → slice_get ns c ≡ Some (child_at c ns)
child-got [] c less = absurd (omega (arith, less))
child-got (n ∷ ns) zero less = refl
child-got (n ∷ ns) (suc c) less = child-got ns c (omega (arith, less))

pub leave-more : (bus c : ℕ) (ns : List Node) → c < length ns → leave_turns bus 0 (take (suc c) ns) ≡ leave_turns bus 0 (take c ns) ++ map (λ choice. Turn.Leave bus c choice) (range_with_len 0 (leaving_count (child_at c ns)))
leave-more bus c ns less =
    let place : 0 + length (take c ns) ≡ c = omega (arith, taken-long ns c less) in
    ap (leave_turns bus 0) (take-more ns c (child_at c ns) (child-got ns c less)) ∙ leave-joined bus 0 (take c ns) (child_at c ns)
    ∙ ap (λ i. leave_turns bus 0 (take c ns) ++ map (λ choice. Turn.Leave bus i choice) (range_with_len 0 (leaving_count (child_at c ns)))) place
