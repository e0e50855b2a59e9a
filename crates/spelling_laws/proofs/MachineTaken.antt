-- A machine that is spelled is read again, into one before its first turn of the same frame.
-- Letters: m is the machine, fresh the one before its first turn, us and vs are the leaves of the second and of the first.
use Rattle.std.specs.Prelude.{◌≡◌, ℕ, zero, suc, ◌+◌, ◌<◌, true, nat_eq, List, [], ◌∷◌, ◌++◌, length, map, Option, Some, None, option_map, slice_index_or, Ok, refl}
use Rattle.std.specs.List.{AllByRecursion, flat_map, range_with_len}
use Rattle.std.proofs.Common.{ap, sym, ◌∙◌, subst, arith, append_assoc, append-nil, zero-add}
use Rattle.std.proofs.lemmas.Bool.{eq-eqb}
use Rattle.spelling_laws.specs.DdmTypes.ItemTable.{item_count}
use Rattle.spelling_laws.specs.TreeModel.declared.Traffic.{Traffic}
use Rattle.spelling_laws.specs.TreeModel.State.Values.{LeafValue, DirValue, Node, Nodes, leaf_node, dir_node, no_nodes, more_nodes, MachineValue, root_of}
use Rattle.spelling_laws.specs.TreeModel.State.Place.{at_top}
use Rattle.spelling_laws.specs.TreeModel.State.Shape.{Frame, frame_of, IsShaped, shape_test, skeleton, tree_counts, depth_of, leaf_numbers_of, levels_of}
use Rattle.spelling_laws.specs.TreeModel.Turns.Machine.{no_traffic, ask_bus, machine_leaves, with_root}
use Rattle.spelling_laws.specs.TreeModel.Turns.Tree.{bus_of_number, read_in, of_dir}
use Rattle.spelling_laws.specs.TreeRules.Bus.Rules.{items_of_machine}
use Rattle.spelling_laws.specs.StateReading.Reading.{and_then, given, times}
use Rattle.spelling_laws.specs.StateReading.Parts.{most_counted, read_hart, read_leaf, read_dir, read_traffic, read_op}
use Rattle.spelling_laws.specs.StateReading.Machine.{BusRead, bus_dir, bus_traffic, read_each, read_bus_of, read_bus, read_buses, refilled, refilled_among, refilled_machine, read_words}
use Rattle.spelling_laws.specs.StateWords.Parts.{counted, hart_words, leaf_words, dir_words, traffic_words, op_words}
use Rattle.spelling_laws.specs.StateWords.Machine.{words_or_none, bus_words, state_words}
use Rattle.state_judging.specs.Read.{CanRead}
use Rattle.value_laws.specs.Values.{TrafficHasForm}
use Rattle.spelling_laws.specs.Spelled.{IsSpelled}
use Rattle.spelling_laws.proofs.ByNumber.{AllParts, machine_dirs, DirFound, all-dirs-found, all-leaves-placed, parts-from, asked-has, range-at, range-all}
use Rattle.spelling_laws.proofs.DirTaken.{DirSpelled, dir-taken}
use Rattle.spelling_laws.proofs.Frames.{Framed, leaves-framed, Face, face_of, faces-same, LeafPut, DirPut, filled-back}
use Rattle.spelling_laws.proofs.Grouped.{five-grouped}
use Rattle.spelling_laws.proofs.HartTaken.{hart-taken}
use Rattle.spelling_laws.proofs.LeafTaken.{LeafSpelled, leaf-taken}
use Rattle.spelling_laws.proofs.OpsTaken.{traffic-taken}
use Rattle.spelling_laws.proofs.Refilled.{DirOver, bus-there, bus_asked, read-put}
use Rattle.spelling_laws.proofs.SpelledTree.{DirOf, all-spelled, leaves-spelled, ops-taken}
use Rattle.spelling_laws.proofs.Steps.{spells-as}
use Rattle.spelling_laws.proofs.Taken.{Takes, take, take-part, take-word, taken-all, times-taken}

-- ---- harts and leaves

-- the leaves before the first turn, with the harts of the others
abbrev pub harts_into : List LeafValue → List LeafValue → List LeafValue
harts_into [] vs = []
harts_into (u ∷ us) [] = []
harts_into (u ∷ us) (v ∷ vs) = record u { hart = v.hart; done = v.done } ∷ harts_into us vs

module _ (n : ℕ) where
  harts-taken : (us vs : List LeafValue) → Framed us vs → AllByRecursion (LeafSpelled n) vs → Takes (read_each read_hart us) (flat_map hart_words vs) (harts_into us vs)
  unfolding read_each
  harts-taken [] [] framed all k at ws rest s = taken-all [] k at ws rest s
  harts-taken [] (v ∷ vs) framed all k at ws rest s = absurd framed
  harts-taken (u ∷ us) [] framed all k at ws rest s = absurd framed
  harts-taken (u ∷ us) (v ∷ vs) framed all k at ws rest s =
      take-part (read_hart u) k ws _ _ (hart_words v) (record u { hart = v.hart; done = v.done }) (hart-taken u v all.0.form.hart all.0.form.done) (flat_map hart_words vs) at rest s (λ k1 ws1 s1.
      take (read_each read_hart us k1 ws1) _ _ (record { value = harts_into us vs; at = at; rest = rest }) (harts-taken us vs framed.2 all.1 k1 at ws1 rest s1) refl)

  leaves-taken : (us vs : List LeafValue) → Framed us vs → AllByRecursion (LeafSpelled n) vs → Takes (read_each (read_leaf n) (harts_into us vs)) (flat_map leaf_words vs) vs
  unfolding read_each
  leaves-taken [] [] framed all k at ws rest s = taken-all [] k at ws rest s
  leaves-taken [] (v ∷ vs) framed all k at ws rest s = absurd framed
  leaves-taken (u ∷ us) [] framed all k at ws rest s = absurd framed
  leaves-taken (u ∷ us) (v ∷ vs) framed all k at ws rest s =
      take-part (read_leaf n (record u { hart = v.hart; done = v.done })) k ws _ _ (leaf_words v) v (leaf-taken n v all.0 u framed.0 framed.1) (flat_map leaf_words vs) at rest s (λ k1 ws1 s1.
      take (read_each (read_leaf n) (harts_into us vs) k1 ws1) _ _ (record { value = vs; at = at; rest = rest }) (leaves-taken us vs framed.2 all.1 k1 at ws1 rest s1) refl)

-- ---- buses

mutual
  filled-none : (n : Node) → refilled [] [] n ≡ n
  filled-none (leaf_node v) = refl
  filled-none (dir_node d ns) = ap (dir_node d) (filled-none_among ns)

  filled-none_among : (ns : Nodes) → refilled_among [] [] ns ≡ ns
  filled-none_among no_nodes = refl
  filled-none_among (more_nodes n ns) = ap (λ p. more_nodes p (refilled_among [] [] ns)) (filled-none n) ∙ ap (more_nodes n) (filled-none_among ns)

-- what is asked of a directory alone
pub dir-asked : (m : MachineValue) (bus : ℕ) (words : DirValue → List ℕ) → ask_bus bus (λ w d ns. words d) [] m ≡ option_map (λ o. words o.0) (bus_asked bus m)
dir-asked m bus words = subst (λ n. read_in (bus_of_number bus) (of_dir (λ w d ns. words d) []) at_top n ≡ option_map (λ o. words o.0) (bus_asked bus m)) (filled-none (root_of m)) (read-put [] [] (λ d. refl) bus words [] (m.top, 0) at_top at_top (root_of m))

abbrev pub dir_or : DirValue → Option DirOver → DirValue
dir_or top None = top
dir_or top (Some o) = o.0

-- the bus of a number, as it is read
abbrev pub bus_at : MachineValue → ℕ → BusRead
bus_at m bus = record { dir = dir_or m.top (bus_asked bus m); traffic = slice_index_or m.traffic bus no_traffic }

pub traffic-form : (most : ℕ) (ts : List Traffic) (i : ℕ) → AllByRecursion (TrafficHasForm most) ts → i < length ts → TrafficHasForm most (slice_index_or ts i no_traffic)
traffic-form most [] i all inside = absurd (omega (arith, inside))
traffic-form most (t ∷ ts) zero all inside = all.0
traffic-form most (t ∷ ts) (suc i) all inside = traffic-form most ts i all.1 (omega (arith, inside))

module _ (fresh m : MachineValue) (shaped_fresh : IsShaped fresh) (shaped : IsShaped m) (bones : skeleton (root_of m) ≡ skeleton (root_of fresh)) (many : length m.traffic ≡ length fresh.traffic) (n : ℕ)
    (all : AllParts (LeafSpelled n) (DirOf n) (root_of m)) (counts : AllByRecursion (TrafficHasForm most_counted) m.traffic) where
  bus-taken : (before : List BusRead) (bus : ℕ) → bus < length m.traffic → Takes (read_bus n fresh before bus) (bus_words m bus) (before ++ bus_at m bus ∷ [])
  unfolding bus_words
  bus-taken before bus inside k at ws rest s =
      let old = bus-there fresh bus shaped_fresh (omega (arith, inside, many)) in
      let new = bus-there m bus shaped inside in
      let spelled : DirSpelled n new.over.1 new.over.0 = asked-has (LeafSpelled n) (DirOf n) bus (m.top, 0) at_top (root_of m) new.over all new.asked in
      let faces = faces-same bus (root_of fresh) (root_of m) (m.top, 0) (fresh.top, 0) bones in
      let same_faces : Some (face_of new.over) ≡ Some (face_of old.over) = sym (ap (option_map face_of) new.asked) ∙ faces ∙ ap (option_map face_of) old.asked in
      let face : face_of new.over ≡ face_of old.over = cc in
      let kids : new.over.1 ≡ old.over.1 = ap (λ (f : Face). f.kids) face in
      let here = subst (λ kids. DirSpelled n kids new.over.0) kids spelled in
      let t = slice_index_or m.traffic bus no_traffic in
      let words : bus_words m bus ≡ dir_words new.over.0 ++ traffic_words t = ap (λ o. words_or_none o ++ traffic_words t) (dir-asked m bus dir_words ∙ ap (option_map (λ o. dir_words o.0)) new.asked) in
      let one : record { dir = new.over.0; traffic = t } ≡ bus_at m bus = ap (λ o. record { dir = dir_or m.top o; traffic = t }) (sym new.asked) in
      let both : Takes (read_bus_of n (Some old.over)) (dir_words new.over.0 ++ traffic_words t) (record { dir = new.over.0; traffic = t } ∷ []) = λ k at ws rest s.
      take-part (read_dir n old.over.1 old.over.0) k ws _ _ (dir_words new.over.0) new.over.0
      (dir-taken n old.over.1 new.over.0 here old.over.0 (ap (λ (f : Face). f.bus) face) (ap (λ (f : Face). f.level) face) (ap (λ (f : Face). f.sizes) face)) (traffic_words t) at rest s (λ k1 ws1 s1.
      take (read_traffic k1 ws1) _ _ (record { value = t; at = at; rest = rest }) (traffic-taken t (traffic-form most_counted m.traffic bus counts inside) k1 at ws1 rest s1) refl) in
      ap (λ o. and_then (read_bus_of n o k ws) (λ b k ws. given (before ++ b) k ws)) old.asked
      ∙ take (read_bus_of n (Some old.over) k ws) (λ b k ws. given (before ++ b) k ws) _ (record { value = record { dir = new.over.0; traffic = t } ∷ []; at = at; rest = rest }) (both k at ws rest (spells-as words s)) refl
      ∙ ap (λ b. Ok (record { value = before ++ b ∷ []; at = at; rest = rest })) one

  buses-taken : (count j : ℕ) (before : List BusRead) → j + count ≡ length m.traffic → Takes (read_buses n fresh (range_with_len j count) before) (flat_map (bus_words m) (range_with_len j count)) (before ++ map (bus_at m) (range_with_len j count))
  buses-taken zero j before size k at ws rest s = taken-all before k at ws rest s ∙ ap (λ l. Ok (record { value = l; at = at; rest = rest })) (sym (append-nil before))
  buses-taken (suc count) j before size k at ws rest s =
      take-part (read_bus n fresh before j) k ws (read_buses n fresh (range_with_len (j + 1) count)) _ (bus_words m j) (before ++ bus_at m j ∷ []) (bus-taken before j (omega (arith, size))) (flat_map (bus_words m) (range_with_len (j + 1) count)) at rest s (λ k1 ws1 s1.
      buses-taken count (j + 1) (before ++ bus_at m j ∷ []) (omega (arith, size)) k1 at ws1 rest s1
      ∙ ap (λ l. Ok (record { value = l; at = at; rest = rest })) (append_assoc before (bus_at m j ∷ []) (map (bus_at m) (range_with_len (j + 1) count))))

-- ---- the machine that is filled

map-both : {X Y Z : Type 0} (g : Y → Z) (f : X → Y) (xs : List X) → map g (map f xs) ≡ map (λ x. g (f x)) xs
map-both g f [] = refl
map-both g f (x ∷ xs) = ap (λ l. g (f x) ∷ l) (map-both g f xs)

abbrev pub buses_at : MachineValue → List BusRead
buses_at m = map (bus_at m) (range_with_len 0 (length m.traffic))

dirs-put : (m : MachineValue) (os : List DirOver) → AllByRecursion (DirFound m) os → AllByRecursion (DirPut (machine_leaves m) (map bus_dir (buses_at m))) os
dirs-put m [] found = tt
dirs-put m (o ∷ os) found =
    let f = found.0 in
    let at : 0 + o.0.bus ≡ o.0.bus = zero-add o.0.bus in (
      (λ d. ap (λ ds. slice_index_or ds o.0.bus d) (map-both bus_dir (bus_at m) (range_with_len 0 (length m.traffic))) ∙ range-at (λ j. bus_dir (bus_at m j)) 0 (length m.traffic) o.0.bus d f.below ∙ ap (λ j. dir_or m.top (bus_asked j m)) at ∙ ap (dir_or m.top) f.asked),
      dirs-put m os found.1,
    )

filled-is : (fresh m : MachineValue) → IsShaped m → frame_of m ≡ frame_of fresh → refilled_machine fresh (machine_leaves m) (buses_at m) m.ops ≡ m
filled-is fresh m shaped same =
    let leaves = machine_leaves m in
    let dirs = map bus_dir (buses_at m) in
    let parts = parts-from (LeafPut leaves dirs) (DirPut leaves dirs) (root_of m) [] [] (all-leaves-placed m shaped) (dirs-put m (machine_dirs m) (all-dirs-found m shaped)) in
    let root : refilled leaves dirs (root_of fresh) ≡ root_of m = filled-back leaves dirs (root_of fresh) (root_of m) (ap (λ (f : Frame). f.bones) same) parts.0 in
    let traffic : map bus_traffic (buses_at m) ≡ m.traffic = map-both bus_traffic (bus_at m) (range_with_len 0 (length m.traffic)) ∙ range-all no_traffic m.traffic in
    let code : fresh.code ≡ m.code = sym (ap (λ (f : Frame). f.code) same) in
    let items : fresh.items ≡ m.items = sym (ap (λ (f : Frame). f.items) same) in
    ap (λ r. record (with_root r fresh) { ops = m.ops; traffic = map bus_traffic (buses_at m) }) root
    ∙ ap (λ ts. record fresh { top = m.top; kids = m.kids; ops = m.ops; traffic = ts }) traffic
    ∙ ap (λ code. record fresh { code = code; top = m.top; kids = m.kids; ops = m.ops; traffic = m.traffic }) code
    ∙ ap (λ items. record m { items = items }) items

-- from as many buses as there are before the first turn
filled-from : (fresh m : MachineValue) → IsShaped m → frame_of m ≡ frame_of fresh → length m.traffic ≡ length fresh.traffic → refilled_machine fresh (machine_leaves m) (map (bus_at m) (range_with_len 0 (length fresh.traffic))) m.ops ≡ m
filled-from fresh m shaped same many = ap (λ c. refilled_machine fresh (machine_leaves m) (map (bus_at m) (range_with_len 0 c)) m.ops) (sym many) ∙ filled-is fresh m shaped same

-- ---- the whole

pub machine-taken : (fresh m : MachineValue) → CanRead fresh → frame_of m ≡ frame_of fresh → IsSpelled m → Takes (read_words fresh (length m.ops)) (state_words m) m
unfolding read_words state_words
machine-taken fresh m can same spelled k at ws rest s =
    let n = item_count fresh.items in
    let shaped : IsShaped m = record { each = λ r. subst (λ f. shape_test r f ≡ true) (sym same) (can.shaped.each r) } in
    let bones : skeleton (root_of m) ≡ skeleton (root_of fresh) = ap (λ (f : Frame). f.bones) same in
    let items : items_of_machine m ≡ n = ap (λ (f : Frame). item_count f.items) same in
    let many : length m.traffic ≡ length fresh.traffic = ap (λ (f : Frame). f.counted) same in
    let depth : depth_of m ≡ depth_of fresh = ap levels_of bones in
    let leaf_count : (tree_counts m).leaves ≡ (tree_counts fresh).leaves = ap (λ b. length (leaf_numbers_of b [])) bones in
    let all = subst (λ n. AllParts (LeafSpelled n) (DirOf n) (root_of m)) items (all-spelled m shaped spelled) in
    let leaves = leaves-spelled (LeafSpelled n) (DirOf n) (root_of m) [] all tt in
    let framed = leaves-framed (root_of fresh) (root_of m) [] [] bones tt in
    let ops_end = flat_map op_words m.ops ++ 0x454d4444 ∷ [] in
    let count_end = length m.ops ∷ ops_end in
    let leaves_end = flat_map leaf_words (machine_leaves m) ++ count_end in
    let buses_end = flat_map (bus_words m) (range_with_len 0 (length fresh.traffic)) ++ leaves_end in
    let grouped = five-grouped (flat_map hart_words (machine_leaves m)) (flat_map (bus_words m) (range_with_len 0 (length m.traffic))) (flat_map leaf_words (machine_leaves m)) (counted op_words m.ops) (0x454d4444 ∷ []) in
    let words = grouped ∙ ap (λ c. flat_map hart_words (machine_leaves m) ++ (flat_map (bus_words m) (range_with_len 0 c) ++ leaves_end)) many in
    let buses : Takes (read_buses n fresh (range_with_len 0 (length fresh.traffic)) []) (flat_map (bus_words m) (range_with_len 0 (length fresh.traffic))) (map (bus_at m) (range_with_len 0 (length fresh.traffic))) =
    buses-taken fresh m can.shaped shaped bones many n all spelled.form.traffic (length fresh.traffic) 0 [] (zero-add (length fresh.traffic) ∙ sym many) in
    take-part (read_each read_hart (machine_leaves fresh)) k ws _ _ (flat_map hart_words (machine_leaves m)) (harts_into (machine_leaves fresh) (machine_leaves m)) (harts-taken n (machine_leaves fresh) (machine_leaves m) framed leaves) buses_end at rest (spells-as words s) (λ k1 ws1 s1.
    take-part (read_buses n fresh (range_with_len 0 (length fresh.traffic)) []) k1 ws1 _ _ (flat_map (bus_words m) (range_with_len 0 (length fresh.traffic))) (map (bus_at m) (range_with_len 0 (length fresh.traffic))) buses leaves_end at rest s1 (λ k2 ws2 s2.
    take-part (read_each (read_leaf n) (harts_into (machine_leaves fresh) (machine_leaves m))) k2 ws2 _ _ (flat_map leaf_words (machine_leaves m)) (machine_leaves m) (leaves-taken n (machine_leaves fresh) (machine_leaves m) framed leaves) count_end at rest s2 (λ k3 ws3 s3.
    take-word (λ w. nat_eq w (length m.ops)) k3 ws3 _ _ (length m.ops) (eq-eqb (length m.ops) (length m.ops) refl) ops_end at rest s3 (λ k4 ws4 s4.
    take-part (times (read_op (depth_of fresh) (tree_counts fresh).leaves) (length m.ops) []) k4 ws4 _ _ (flat_map op_words m.ops) m.ops
    (times-taken op_words (read_op (depth_of fresh) (tree_counts fresh).leaves) [] m.ops (ops-taken m shaped (depth_of fresh) (tree_counts fresh).leaves [] m.ops depth leaf_count spelled.parts.keys spelled.parts.leaves spelled.form.ops)) (0x454d4444 ∷ []) at rest s4 (λ k5 ws5 s5.
    take-word (λ w. nat_eq w 0x454d4444) k5 ws5 _ _ 0x454d4444 refl [] at rest s5 (λ k6 ws6 s6.
    taken-all _ k6 at ws6 rest s6 ∙ ap (λ m. Ok (record { value = m; at = at; rest = rest })) (filled-from fresh m shaped same many)))))))

-- as the law says it
pub spelled-read : (fresh m : MachineValue) (k : ℕ) (rest : List ℕ) → CanRead fresh → frame_of m ≡ frame_of fresh → IsSpelled m → read_words fresh (length m.ops) k (state_words m ++ rest) ≡ Ok (record { value = m; at = k + length (state_words m); rest = rest })
spelled-read fresh m k rest can same spelled = machine-taken fresh m can same spelled k (k + length (state_words m)) (state_words m ++ rest) rest (record { words_are = refl; next = refl })
