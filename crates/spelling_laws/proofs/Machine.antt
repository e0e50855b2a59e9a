-- What is read of a whole state is what is spelled of it.
-- Letters: m is the machine before its first turn, n how many items there are, b a bus that was read.
use Rattle.std.specs.Prelude.{◌≡◌, ℕ, zero, suc, ◌+◌, ◌<◌, nat_eq, List, [], ◌∷◌, ◌++◌, length, map, Some, option_map, slice_index_or, Ok, refl}
use Rattle.std.specs.List.{AllByRecursion, flat_map, range_with_len}
use Rattle.std.proofs.Common.{ap, sym, ◌∙◌, subst, arith, append_assoc, append-nil, length-append, zero-add}
use Rattle.std.proofs.lemmas.Bool.{eqb-true}
use Rattle.std.proofs.lemmas.List.{get_or_at, length-map, map-append}
use Rattle.spelling_laws.specs.DdmTypes.declared.operations.Op.{Op}
use Rattle.spelling_laws.specs.DdmTypes.ItemTable.{item_count}
use Rattle.spelling_laws.specs.TreeModel.State.Values.{LeafValue, DirValue, MachineValue, root_of}
use Rattle.spelling_laws.specs.TreeModel.State.Place.{at_top}
use Rattle.spelling_laws.specs.TreeModel.State.Shape.{IsShaped, tree_counts, depth_of}
use Rattle.spelling_laws.specs.TreeModel.Turns.Machine.{no_traffic, ask_bus, machine_leaves}
use Rattle.spelling_laws.specs.StateReading.Reading.{Read, and_then, given, times}
use Rattle.spelling_laws.specs.StateReading.Parts.{read_hart, read_leaf, read_dir, read_traffic, read_op}
use Rattle.spelling_laws.specs.StateReading.Machine.{BusRead, bus_dir, bus_traffic, read_each, read_bus_of, read_bus, read_buses, refilled_machine, read_words}
use Rattle.spelling_laws.specs.StateWords.Parts.{counted, hart_words, leaf_words, dir_words, traffic_words, op_words}
use Rattle.spelling_laws.specs.StateWords.Machine.{words_or_none, bus_words, state_words}
use Rattle.state_judging.specs.Read.{CanRead}
use Rattle.spelling_laws.specs.Spells.{Spells}
use Rattle.spelling_laws.proofs.Hart.{hart-read}
use Rattle.spelling_laws.proofs.Leaf.{leaf-read}
use Rattle.spelling_laws.proofs.Dir.{dir-read}
use Rattle.spelling_laws.proofs.Ops.{traffic-read, op-read}
use Rattle.spelling_laws.proofs.Each.{AllPaired, PartRead, each-read}
use Rattle.spelling_laws.proofs.Refilled.{HasSets, BusThere, bus-there, dir_put, leaves-put, read-put, leaves-counted, all-put, sets-there}
use Rattle.spelling_laws.proofs.Steps.{step, word-step, listed-read, ended, spells-none, spells-both, spells-as}

-- ---- buses

abbrev pub bus_read_words : BusRead → List ℕ
bus_read_words b = dir_words b.dir ++ traffic_words b.traffic

-- buses in order of number, the first of which has this one
abbrev pub BusesFrom : ℕ → List BusRead → Type 0
BusesFrom j [] = Unit {0}
BusesFrom j (b ∷ bs) = (b.dir.bus ≡ j) × BusesFrom (j + 1) bs

record BusAdded (before : List BusRead) (bus k : ℕ) (ws : List ℕ) (q : Read (List BusRead)) : Type 0 where
  added : BusRead
  value : q.value ≡ before ++ added ∷ []
  number : added.dir.bus ≡ bus
  spells : Spells k ws (bus_read_words added) q.at q.rest

record OneBus (bus k : ℕ) (ws : List ℕ) (q : Read (List BusRead)) : Type 0 where
  one : BusRead
  value : q.value ≡ one ∷ []
  number : one.dir.bus ≡ bus
  spells : Spells k ws (bus_read_words one) q.at q.rest

bus-of-read : (n bus : ℕ) (over : DirValue × ℕ) (k : ℕ) (ws : List ℕ) (q : Read (List BusRead)) → over.0.bus ≡ bus → read_bus_of n (Some over) k ws ≡ Ok q → OneBus bus k ws q
bus-of-read n bus over k ws q number e =
    step (read_dir n over.1 over.0 k ws) _ q e (λ d is_dir e.
    step (read_traffic d.at d.rest) _ q e (λ t is_traffic e.
    let r = dir-read n over.1 over.0 k ws d is_dir in
    ended (OneBus bus k ws) (record { value = record { dir = d.value; traffic = t.value } ∷ []; at = t.at; rest = t.rest }) q
    (record { one = record { dir = d.value; traffic = t.value }; value = refl; number = r.bus ∙ number; spells = spells-both r.spells (traffic-read d.at d.rest t is_traffic) }) e))

bus-read : (n : ℕ) (m : MachineValue) (before : List BusRead) (bus k : ℕ) (ws : List ℕ) (q : Read (List BusRead)) → BusThere bus m → read_bus n m before bus k ws ≡ Ok q → BusAdded before bus k ws q
bus-read n m before bus k ws q there e =
    let asked = subst (λ o. and_then (read_bus_of n o k ws) (λ b k ws. given (before ++ b) k ws) ≡ Ok q) there.asked e in
    step (read_bus_of n (Some there.over) k ws) _ q asked (λ b is e.
    let o = bus-of-read n bus there.over k ws b there.number is in
    ended (BusAdded before bus k ws) (record { value = before ++ b.value; at = b.at; rest = b.rest }) q
    (record { added = o.one; value = ap (λ l. before ++ l) o.value; number = o.number; spells = o.spells }) e)

record BusesRead (before : List BusRead) (j count k : ℕ) (ws : List ℕ) (q : Read (List BusRead)) : Type 0 where
  added : List BusRead
  value : q.value ≡ before ++ added
  many : length added ≡ count
  numbers : BusesFrom j added
  spells : Spells k ws (flat_map bus_read_words added) q.at q.rest

buses-read : (n : ℕ) (m : MachineValue) → IsShaped m → (count j : ℕ) (before : List BusRead) (k : ℕ) (ws : List ℕ) (q : Read (List BusRead)) → j + count ≡ length m.traffic → read_buses n m (range_with_len j count) before k ws ≡ Ok q → BusesRead before j count k ws q
buses-read n m shaped zero j before k ws q size e =
    ended (BusesRead before j zero k ws) (record { value = before; at = k; rest = ws }) q (record { added = []; value = sym (append-nil before); many = refl; numbers = tt; spells = spells-none k ws }) e
buses-read n m shaped (suc count) j before k ws q size e =
    step (read_bus n m before j k ws) (read_buses n m (range_with_len (j + 1) count)) q e (λ one is e.
    let a = bus-read n m before j k ws one (bus-there m j shaped (omega (arith, size))) is in
    let b = buses-read n m shaped count (j + 1) one.value one.at one.rest q (omega (arith, size)) e in record {
      added = a.added ∷ b.added;
      value = b.value ∙ ap (λ l. l ++ b.added) a.value ∙ append_assoc before (a.added ∷ []) b.added;
      many = omega (arith, b.many);
      numbers = (a.number, b.numbers);
      spells = spells-both a.spells b.spells;
    })

-- a directory that is put in by number has that number
pub dirs-keep : (bs : List BusRead) (j i : ℕ) (d : DirValue) → BusesFrom j bs → d.bus ≡ j + i → (slice_index_or (map bus_dir bs) i d).bus ≡ d.bus
dirs-keep [] j i d numbers at = refl
dirs-keep (b ∷ bs) j zero d numbers at = omega (arith, numbers.0, at)
dirs-keep (b ∷ bs) j (suc i) d numbers at = dirs-keep bs (j + 1) i d numbers.1 (omega (arith, at))

-- ---- the machine that was filled

module _ (m : MachineValue) (shaped : IsShaped m) (leaves : List LeafValue) (all : List BusRead) (ops : List Op) (numbers : BusesFrom 0 all) (many : length all ≡ length m.traffic) where
  abbrev filled : MachineValue
  filled = refilled_machine m leaves all ops

  keeps : (d : DirValue) → (dir_put leaves (map bus_dir all) d).bus ≡ d.bus
  keeps d = dirs-keep all 0 d.bus d numbers (sym (zero-add d.bus))

  bus-at : (before : List BusRead) (b : BusRead) (bs : List BusRead) (i : ℕ) → length before ≡ i → all ≡ before ++ b ∷ bs → bus_words filled i ≡ bus_read_words b
  unfolding bus_words
  bus-at before b bs i at same =
      let inside : i < length m.traffic = omega (arith, at, many, ap length same, length-append before (b ∷ bs)) in
      let there = bus-there m i shaped inside in
      let put = read-put leaves (map bus_dir all) keeps i dir_words [] (m.top, 0) at_top at_top (root_of m) in
      let dirs : map bus_dir all ≡ map bus_dir before ++ b.dir ∷ map bus_dir bs = ap (map bus_dir) same ∙ map-append bus_dir before (b ∷ bs) in
      let counts : map bus_traffic all ≡ map bus_traffic before ++ b.traffic ∷ map bus_traffic bs = ap (map bus_traffic) same ∙ map-append bus_traffic before (b ∷ bs) in
      let size_d : length (map bus_dir before) ≡ i = length-map before bus_dir ∙ at in
      let size_t : length (map bus_traffic before) ≡ i = length-map before bus_traffic ∙ at in
      let dir : dir_put leaves (map bus_dir all) there.over.0 ≡ b.dir =
      ap (λ ds. slice_index_or ds there.over.0.bus there.over.0) dirs ∙ ap (λ k. slice_index_or (map bus_dir before ++ b.dir ∷ map bus_dir bs) k there.over.0) there.number ∙ get_or_at (map bus_dir before) b.dir (map bus_dir bs) there.over.0 i size_d in
      let traffic : slice_index_or (map bus_traffic all) i no_traffic ≡ b.traffic =
      ap (λ ts. slice_index_or ts i no_traffic) counts ∙ get_or_at (map bus_traffic before) b.traffic (map bus_traffic bs) no_traffic i size_t in
      let asked : ask_bus i (λ w d ns. dir_words d) [] filled ≡ Some (dir_words b.dir) = put ∙ ap (option_map (λ o. dir_words (dir_put leaves (map bus_dir all) o.0))) there.asked ∙ ap (λ d. Some (dir_words d)) dir in
      ap (λ o. words_or_none o ++ traffic_words (slice_index_or (map bus_traffic all) i no_traffic)) asked ∙ ap (λ t. dir_words b.dir ++ traffic_words t) traffic

  buses-along : (before bs : List BusRead) (j : ℕ) → length before ≡ j → all ≡ before ++ bs → flat_map (bus_words filled) (range_with_len j (length bs)) ≡ flat_map bus_read_words bs
  buses-along before [] j at same = refl
  buses-along before (b ∷ bs) j at same =
      let here = bus-at before b bs j at same in
      let more = buses-along (before ++ b ∷ []) bs (j + 1) (omega (arith, at, length-append before (b ∷ []))) (same ∙ sym (append_assoc before (b ∷ []) bs)) in
      ap (λ l. l ++ flat_map (bus_words filled) (range_with_len (j + 1) (length bs))) here ∙ ap (λ l. bus_read_words b ++ l) more

  pub buses-filled : flat_map (bus_words filled) (range_with_len 0 (length filled.traffic)) ≡ flat_map bus_read_words all
  buses-filled = ap (λ c. flat_map (bus_words filled) (range_with_len 0 c)) (length-map all bus_traffic) ∙ buses-along [] all 0 refl refl

  pub leaves-filled : length leaves ≡ length (machine_leaves m) → machine_leaves filled ≡ leaves
  leaves-filled same = leaves-put leaves (map bus_dir all) (root_of m) [] ∙ all-put [] leaves (machine_leaves m) 0 refl same (leaves-counted m shaped)

-- ---- harts and leaves

abbrev KeepsFrame : LeafValue → LeafValue → Type 0
KeepsFrame v w = (w.number ≡ v.number) × (w.sizes ≡ v.sizes)

abbrev KeepsHart : LeafValue → LeafValue → Type 0
KeepsHart v w = (w.hart ≡ v.hart) × (w.done ≡ v.done)

one-hart : (v : LeafValue) → HasSets v → (k : ℕ) (ws : List ℕ) (q : Read LeafValue) → read_hart v k ws ≡ Ok q → PartRead HasSets KeepsFrame hart_words v k ws q
one-hart v sets k ws q e = let r = hart-read v k ws q e in record { spells = r.spells; keeps = (r.number, r.sizes) }

one-leaf : (n : ℕ) (v : LeafValue) → HasSets v → (k : ℕ) (ws : List ℕ) (q : Read LeafValue) → read_leaf n v k ws ≡ Ok q → PartRead HasSets KeepsHart leaf_words v k ws q
one-leaf n v sets k ws q e = let r = leaf-read n v k ws q sets e in record { spells = r.spells; keeps = (r.hart, r.done) }

sets-kept : (vs us : List LeafValue) → AllByRecursion HasSets vs → AllPaired HasSets KeepsFrame hart_words vs us → AllByRecursion HasSets us
sets-kept [] [] all pairs = tt
sets-kept [] (u ∷ us) all pairs = absurd pairs
sets-kept (v ∷ vs) [] all pairs = absurd pairs
sets-kept (v ∷ vs) (u ∷ us) all pairs = (subst (λ s. 0 < s.sets) (sym pairs.0.1) all.0, sets-kept vs us all.1 pairs.1)

paired-many : (R : LeafValue → LeafValue → Type 0) (words : LeafValue → List ℕ) (vs us : List LeafValue) → AllPaired HasSets R words vs us → length us ≡ length vs
paired-many R words [] [] pairs = refl
paired-many R words [] (u ∷ us) pairs = absurd pairs
paired-many R words (v ∷ vs) [] pairs = absurd pairs
paired-many R words (v ∷ vs) (u ∷ us) pairs = omega (arith, paired-many R words vs us pairs.1)

harts-kept : (vs us : List LeafValue) → AllPaired HasSets KeepsHart leaf_words vs us → flat_map hart_words vs ≡ flat_map hart_words us
harts-kept [] [] pairs = refl
harts-kept [] (u ∷ us) pairs = absurd pairs
harts-kept (v ∷ vs) [] pairs = absurd pairs
harts-kept (v ∷ vs) (u ∷ us) pairs =
    let hart : v.hart ≡ u.hart = sym pairs.0.0 in
    let done : v.done ≡ u.done = sym pairs.0.1 in
    let here : hart_words v ≡ hart_words u = cc in
    ap (λ l. l ++ flat_map hart_words vs) here ∙ ap (λ l. hart_words u ++ l) (harts-kept vs us pairs.1)

-- ---- the whole

pub record MachineRead (retired k : ℕ) (ws : List ℕ) (q : Read MachineValue) : Type 0 where
  pub spells : Spells k ws (state_words q.value) q.at q.rest
  pub completed : length q.value.ops ≡ retired

pub machine-read : (m : MachineValue) (retired k : ℕ) (ws : List ℕ) (q : Read MachineValue) → CanRead m → read_words m retired k ws ≡ Ok q → MachineRead retired k ws q
unfolding read_words state_words
machine-read m retired k ws q can e =
    let n = item_count m.items in
    step (read_each read_hart (machine_leaves m) k ws) _ q e (λ harts is_harts e.
    step (read_buses n m (range_with_len 0 (length m.traffic)) [] harts.at harts.rest) _ q e (λ buses is_buses e.
    step (read_each (read_leaf n) harts.value buses.at buses.rest) _ q e (λ leaves is_leaves e.
    word-step (λ w. nat_eq w retired) leaves.at leaves.rest _ q e (λ count k4 ws4 w4 p4 e.
    step (times (read_op (depth_of m) (tree_counts m).leaves) count [] k4 ws4) _ q e (λ ops is_ops e.
    word-step (λ w. nat_eq w 0x454d4444) ops.at ops.rest _ q e (λ end k6 ws6 w6 p6 e.
    let sets = sets-there (root_of m) [] can.ways tt in
    let h = each-read HasSets KeepsFrame hart_words read_hart one-hart (machine_leaves m) sets k ws harts is_harts in
    let b = buses-read n m can.shaped (length m.traffic) 0 [] harts.at harts.rest buses (zero-add (length m.traffic)) is_buses in
    let l = each-read HasSets KeepsHart leaf_words (read_leaf n) (one-leaf n) harts.value (sets-kept (machine_leaves m) harts.value sets h.keep) buses.at buses.rest leaves is_leaves in
    let o = listed-read op_words (read_op (depth_of m) (tree_counts m).leaves) (op-read (depth_of m) (tree_counts m).leaves) count k4 ws4 ops is_ops in
    let numbers : BusesFrom 0 buses.value = subst (BusesFrom 0) (sym b.value) b.numbers in
    let many : length buses.value ≡ length m.traffic = ap length b.value ∙ b.many in
    let same : length leaves.value ≡ length (machine_leaves m) = paired-many KeepsHart leaf_words harts.value leaves.value l.keep ∙ paired-many KeepsFrame hart_words (machine_leaves m) harts.value h.keep in
    let new : MachineValue = refilled_machine m leaves.value buses.value ops.value in
    let new_leaves : machine_leaves new ≡ leaves.value = leaves-filled m can.shaped leaves.value buses.value ops.value numbers many same in
    let hart_part : flat_map hart_words harts.value ≡ flat_map hart_words (machine_leaves new) = harts-kept harts.value leaves.value l.keep ∙ ap (flat_map hart_words) (sym new_leaves) in
    let bus_part : flat_map bus_read_words b.added ≡ flat_map (bus_words new) (range_with_len 0 (length new.traffic)) = ap (flat_map bus_read_words) (sym b.value) ∙ sym (buses-filled m can.shaped leaves.value buses.value ops.value numbers many) in
    let leaf_part : flat_map leaf_words leaves.value ≡ flat_map leaf_words (machine_leaves new) = ap (flat_map leaf_words) (sym new_leaves) in
    let op_part : count ∷ flat_map op_words ops.value ≡ counted op_words ops.value = ap (λ c. c ∷ flat_map op_words ops.value) (sym o.0) in
    ended (MachineRead retired k ws) (record { value = new; at = k6; rest = ws6 }) q
    (record {
      spells = spells-both (spells-both (spells-both (spells-both (spells-as hart_part h.spells) (spells-as bus_part b.spells)) (spells-as leaf_part l.spells)) (spells-as op_part (spells-both w4 o.1)))
          (spells-as (ap (λ w. w ∷ []) (eqb-true end 0x454d4444 p6)) w6);
      completed = o.0 ∙ eqb-true count retired p4;
    }) e))))))

-- as the laws say it
pub accepted-spelled : (fresh m : MachineValue) (retired k at : ℕ) (ws rest : List ℕ) → CanRead fresh → read_words fresh retired k ws ≡ Ok (record { value = m; at = at; rest = rest }) → (ws ≡ state_words m ++ rest) × (at ≡ k + length (state_words m)) × (length m.ops ≡ retired)
accepted-spelled fresh m retired k at ws rest can e =
    let r = machine-read fresh retired k ws (record { value = m; at = at; rest = rest }) can e in
    (r.spells.words_are, r.spells.next, r.completed)
