-- Each part of a machine that is spelled has what its own reading asks of it.
-- Letters: n is a node, ns are nodes, c where one stands, d a directory, o an operation.
use Rattle.std.specs.Prelude.{◌≡◌, ℕ, ◌+◌, ◌<◌, Bool, true, false, nat_eq, nat_lt, nat_le, ◌&&◌, ◌||◌, List, [], ◌∷◌, ◌++◌, length, map, refl}
use Rattle.std.specs.List.{AllByRecursion, list_any, list_all}
use Rattle.std.proofs.Common.{ap, sym, ◌∙◌, subst, arith, length-append, true≢false}
use Rattle.std.proofs.lemmas.Bool.{eqb-true, ne_eqb, lt-ltb, and_parts, and_from}
use Rattle.spelling_laws.specs.DdmTypes.declared.operations.Op.{Op}
use Rattle.spelling_laws.specs.TreeModel.State.Values.{LeafValue, DownValue, DirItem, DirValue, Node, Nodes, leaf_node, dir_node, no_nodes, more_nodes, children, MachineValue, root_of}
use Rattle.spelling_laws.specs.TreeModel.State.Place.{Spot, spot_path, spot_in}
use Rattle.spelling_laws.specs.TreeModel.State.Directory.{is_top}
use Rattle.spelling_laws.specs.TreeModel.State.Shape.{IsShaped, skeleton, skeletons, levels_fit, levels_fit_among, levels_known, count_from, tree_counts, depth_of}
use Rattle.spelling_laws.specs.TreeModel.Turns.Machine.{leaves_of, leaves_among, machine_leaves}
use Rattle.spelling_laws.specs.TreeRules.Statements.{Statement, Holds, each}
use Rattle.spelling_laws.specs.TreeRules.Bus.Own.{dir_holds, leaf_holds, top_items, no_epoch, no_stamps}
use Rattle.spelling_laws.specs.TreeRules.Bus.Rules.{items_of_machine}
use Rattle.spelling_laws.specs.TreeRules.Order.Places.{DirAt, leaves_in, placed_leaves, leaves_at, dirs_in, placed_dirs, dirs_at}
use Rattle.spelling_laws.specs.TreeRules.Order.Time.{is_leaf_of, has_leaf, has_ending_key, stamp_ends, entry_ends, epoch_ends}
use Rattle.spelling_laws.proofs.TreeRules.BusTests.{IsLeafOk-from_test, IsDirOk-from_test}
use Rattle.spelling_laws.specs.StateReading.Parts.{most_counted, read_op}
use Rattle.spelling_laws.specs.StateWords.Parts.{op_words}
use Rattle.state_judging.specs.Read.{parts_hold, parts_hold_among}
use Rattle.value_laws.specs.Values.{LeafHasForm, DirHasForm, PartsHaveForm, PartsHaveFormAmong, OpHasForm}
use Rattle.spelling_laws.specs.Spelled.{IsSpelled}
use Rattle.spelling_laws.proofs.ByNumber.{AllParts, AllPartsAmong}
use Rattle.spelling_laws.proofs.DirTaken.{DirSpelled, has_ending_stamp}
use Rattle.spelling_laws.proofs.LeafTaken.{LeafSpelled}
use Rattle.spelling_laws.proofs.Listed.{any-append}
use Rattle.spelling_laws.proofs.OpsTaken.{op-taken}
use Rattle.spelling_laws.proofs.RecordsTaken.{suits_top}
use Rattle.spelling_laws.proofs.Refilled.{DirOver, number_of, numbers-in, leaves-counted}
use Rattle.spelling_laws.proofs.Taken.{AllTaken}

-- ---- statements of lists

each-split : {X : Type 0} (s : X → Statement) (xs ys : List X) → Holds (each s (xs ++ ys)) → Holds (each s xs) × Holds (each s ys)
each-split s [] ys h = (tt, h)
each-split s (x ∷ xs) ys h = let more = each-split s xs ys h.1 in ((h.0, more.0), more.1)

stamps-listed : (c : DirAt) (level : ℕ) (down : List DownValue) → length (spot_path c.spot) ≡ level → Holds (each (entry_ends c) down) → list_all (has_ending_stamp level) down ≡ true
stamps-listed c level [] size h = refl
stamps-listed c level (e ∷ down) size h = and_from _ _ (subst (λ l. stamp_ends l e.stamp ≡ true) size h.0) (stamps-listed c level down size h.1)

all-suit : (items : List DirItem) → list_all (suits_top false) items ≡ true
all-suit [] = refl
all-suit (i ∷ items) = all-suit items

-- ---- the parts of the tree

abbrev pub DirOf : ℕ → DirOver → Type 0
DirOf n o = DirSpelled n o.1 o.0

abbrev entries_end : DirAt → Statement
entries_end c = each (entry_ends c) c.dir.down

module _ (items depth width : ℕ) where
  leaf-spelled : (v : LeafValue) → (leaf_holds items v && nat_le v.done most_counted) ≡ true → LeafHasForm width most_counted v → LeafSpelled items v
  leaf-spelled v holds form = record { ok = IsLeafOk-from_test items v ((and_parts _ _ holds).0); form = subst (λ w. LeafHasForm w most_counted v) (sym form.sizes) form }

  dir-spelled : (kids : ℕ) (d : DirValue) → (dir_holds items kids d && nat_le d.count most_counted) ≡ true → DirHasForm width most_counted d → list_all (suits_top (is_top d)) d.items ≡ true → stamp_ends d.level d.epoch ≡ true → list_all (has_ending_stamp d.level) d.down ≡ true
      → DirSpelled items kids d
  dir-spelled kids d holds form suits epoch stamps = record {
    ok = IsDirOk-from_test items kids d ((and_parts _ _ holds).0);
    form = subst (λ w. DirHasForm w most_counted d) (sym form.sizes) form;
    items = suits;
    epoch = epoch;
    stamps = stamps;
  }

  mutual
    spelled-in : (above : ℕ) (c : Spot) (n : Node) → length (spot_path c) ≡ above → 0 < above → levels_fit depth above (skeleton n) ≡ true → parts_hold items n ≡ true → PartsHaveForm width most_counted n
        → Holds (each epoch_ends (dirs_in c n)) → Holds (each entries_end (dirs_in c n)) → AllParts (LeafSpelled items) (DirOf items) n
    spelled-in above c (leaf_node v) size below levels holds form epochs stamps = leaf-spelled v holds form
    spelled-in above c (dir_node d ns) size below levels holds form epochs stamps =
        let l = and_parts (nat_eq d.level above) (nat_le above 3 && levels_fit_among depth (above + 1) (skeletons ns)) levels in
        let m = and_parts (nat_le above 3) (levels_fit_among depth (above + 1) (skeletons ns)) l.1 in
        let p = and_parts (dir_holds items (length (children ns)) d && nat_le d.count most_counted) (parts_hold_among items ns) holds in
        let level : d.level ≡ above = eqb-true d.level above l.0 in
        let lower : nat_eq d.level 0 ≡ false = ne_eqb d.level 0 (λ e. omega (arith, e, level, below)) in
        let suits : list_all (suits_top (is_top d)) d.items ≡ true = ap (λ b. list_all (suits_top b) d.items) lower ∙ all-suit d.items in
        let epoch : stamp_ends d.level d.epoch ≡ true = subst (λ l. stamp_ends l d.epoch ≡ true) (size ∙ sym level) epochs.0 in
        let listed = stamps-listed (record { spot = c; dir = d }) d.level d.down (size ∙ sym level) stamps.0 in
        (dir-spelled (length (children ns)) d p.0 form.0 suits epoch listed, spelled-among (above + 1) (spot_path c) d 0 ns (omega (arith, size)) m.1 p.1 form.1 epochs.1 stamps.1)

    spelled-among : (above : ℕ) (path : List ℕ) (d : DirValue) (i : ℕ) (ns : Nodes) → length path + 1 ≡ above → levels_fit_among depth above (skeletons ns) ≡ true → parts_hold_among items ns ≡ true → PartsHaveFormAmong width most_counted ns
        → Holds (each epoch_ends (placed_dirs path d i ns)) → Holds (each entries_end (placed_dirs path d i ns)) → AllPartsAmong (LeafSpelled items) (DirOf items) ns
    spelled-among above path d i no_nodes size levels holds form epochs stamps = tt
    spelled-among above path d i (more_nodes n ns) size levels holds form epochs stamps =
        let l = and_parts (levels_fit depth above (skeleton n)) (levels_fit_among depth above (skeletons ns)) levels in
        let p = and_parts (parts_hold items n) (parts_hold_among items ns) holds in
        let first = dirs_in (spot_in path d i) n in
        let more = placed_dirs path d (i + 1) ns in
        let e = each-split epoch_ends first more epochs in
        let s = each-split entries_end first more stamps in
        let long : length (spot_path (spot_in path d i)) ≡ above = length-append path (i ∷ []) ∙ size in
        (spelled-in above (spot_in path d i) n long (omega (arith, size)) l.0 p.0 form.0 e.0 s.0, spelled-among above path d (i + 1) ns size l.1 p.1 form.1 e.1 s.1)

pub all-spelled : (m : MachineValue) → IsShaped m → IsSpelled m → AllParts (LeafSpelled (items_of_machine m)) (DirOf (items_of_machine m)) (root_of m)
unfolding dirs_at
all-spelled m shaped spelled =
    let items = items_of_machine m in
    let depth = depth_of m in
    let width = m.top.sizes.width in
    let l = and_parts (nat_eq m.top.level 0) (nat_le 0 3 && levels_fit_among depth 1 (skeletons m.kids)) (shaped.each levels_known) in
    let below : levels_fit_among depth 1 (skeletons m.kids) ≡ true = (and_parts (nat_le 0 3) (levels_fit_among depth 1 (skeletons m.kids)) l.1).1 in
    let p = and_parts (dir_holds items (length (children m.kids)) m.top && nat_le m.top.count most_counted) (parts_hold_among items m.kids) spelled.parts.parts in
    let top = spelled.parts.top in
    let form = spelled.form.parts in
    let level : m.top.level ≡ 0 = eqb-true m.top.level 0 l.0 in
    let first : is_top m.top ≡ true = l.0 in
    let suits : list_all (suits_top (is_top m.top)) m.top.items ≡ true = ap (λ b. list_all (suits_top b) m.top.items) first ∙ top.each top_items in
    let epoch : stamp_ends m.top.level m.top.epoch ≡ true = ap (λ l. stamp_ends l m.top.epoch) level ∙ top.each no_epoch in
    let stamps : list_all (has_ending_stamp m.top.level) m.top.down ≡ true = ap (λ l. list_all (has_ending_stamp l) m.top.down) level ∙ top.each no_stamps in (
      dir-spelled items depth width (length (children m.kids)) m.top p.0 form.0 suits epoch stamps,
      spelled-among items depth width 1 [] m.top 0 m.kids (omega arith) below p.1 form.1 spelled.parts.epochs spelled.parts.stamps,
    )

module _ (P : LeafValue → Type 0) (Q : DirOver → Type 0) where
  mutual
    pub leaves-spelled : (n : Node) (rest : List LeafValue) → AllParts P Q n → AllByRecursion P rest → AllByRecursion P (leaves_of n rest)
    leaves-spelled (leaf_node v) rest all more = (all, more)
    leaves-spelled (dir_node d ns) rest all more = leaves-spelled_among ns rest all.1 more

    pub leaves-spelled_among : (ns : Nodes) (rest : List LeafValue) → AllPartsAmong P Q ns → AllByRecursion P rest → AllByRecursion P (leaves_among ns rest)
    leaves-spelled_among no_nodes rest all more = more
    leaves-spelled_among (more_nodes n ns) rest all more = leaves-spelled n (leaves_among ns rest) all.0 (leaves-spelled_among ns rest all.1 more)

-- ---- operations

or-behind : (a b c : Bool) → ((a || b) || c) ≡ (a || (b || c))
or-behind true b c = refl
or-behind false b c = refl

or-nothing : (a : Bool) → (a || false) ≡ a
or-nothing true = refl
or-nothing false = refl

module _ (o : Op) where
  abbrev numbered : List LeafValue → Bool
  numbered vs = list_any (nat_eq o.hart) (map number_of vs)

  mutual
    leaf-numbered : (c : Spot) (n : Node) (rest : List LeafValue) → (list_any (is_leaf_of o) (leaves_in c n) || numbered rest) ≡ numbered (leaves_of n rest)
    leaf-numbered c (leaf_node v) rest = ap (λ b. b || numbered rest) (or-nothing (nat_eq o.hart v.number))
    leaf-numbered c (dir_node d ns) rest = leaf-numbered_among (spot_path c) d 0 ns rest

    leaf-numbered_among : (path : List ℕ) (d : DirValue) (i : ℕ) (ns : Nodes) (rest : List LeafValue) → (list_any (is_leaf_of o) (placed_leaves path d i ns) || numbered rest) ≡ numbered (leaves_among ns rest)
    leaf-numbered_among path d i no_nodes rest = refl
    leaf-numbered_among path d i (more_nodes n ns) rest =
        let first = leaves_in (spot_in path d i) n in
        let more = placed_leaves path d (i + 1) ns in
        ap (λ b. b || numbered rest) (any-append (is_leaf_of o) first more) ∙ or-behind (list_any (is_leaf_of o) first) (list_any (is_leaf_of o) more) (numbered rest)
        ∙ ap (λ b. list_any (is_leaf_of o) first || b) (leaf-numbered_among path d (i + 1) ns rest) ∙ leaf-numbered (spot_in path d i) n (leaves_among ns rest)

number-below : (x start : ℕ) (ns : List ℕ) → count_from start ns ≡ true → list_any (nat_eq x) ns ≡ true → x < start + length ns
number-below x start [] counted there = absurd (true≢false (sym there))
number-below x start (k ∷ ns) counted there =
    let p = and_parts (nat_eq k start) (count_from (start + 1) ns) counted in
    let number : k ≡ start = eqb-true k start p.0 in
    elim (nat_eq x k) as (λ b. nat_eq x k ≡ b → (b || list_any (nat_eq x) ns) ≡ true → x < start + length (k ∷ ns)) [
      | true ↦ λ same there. let is : x ≡ k = eqb-true x k same in omega (arith, is, number)
      | false ↦ λ same there. let more = number-below x (start + 1) ns p.1 there in omega (arith, more)
    ] refl there

pub hart-below : (m : MachineValue) (o : Op) → IsShaped m → list_any (is_leaf_of o) (leaves_at m) ≡ true → nat_lt o.hart (tree_counts m).leaves ≡ true
unfolding leaves_at
hart-below m o shaped there =
    let listed : list_any (nat_eq o.hart) (map number_of (machine_leaves m)) ≡ true = sym (leaf-numbered_among o [] m.top 0 m.kids []) ∙ or-nothing (list_any (is_leaf_of o) (placed_leaves [] m.top 0 m.kids)) ∙ there in
    let below = number-below o.hart 0 (map number_of (machine_leaves m)) (leaves-counted m shaped) listed in
    let many : (tree_counts m).leaves ≡ length (map number_of (machine_leaves m)) = ap length (numbers-in (root_of m) []) in
    lt-ltb o.hart (tree_counts m).leaves (omega (arith, below, many))

pub ops-taken : (m : MachineValue) → IsShaped m → (depth leaves : ℕ) (before ops : List Op) → depth_of m ≡ depth → (tree_counts m).leaves ≡ leaves → Holds (each (has_ending_key (depth_of m)) ops) → Holds (each (has_leaf (leaves_at m)) ops) → AllByRecursion (OpHasForm most_counted) ops
    → AllTaken op_words (read_op depth leaves) before ops
ops-taken m shaped depth leaves before [] deep many keys harts form = tt
ops-taken m shaped depth leaves before (o ∷ ops) deep many keys harts form = (
  op-taken depth leaves before o (subst (λ d. Holds (has_ending_key d o)) deep keys.0) (subst (λ l. nat_lt o.hart l ≡ true) many (hart-below m o shaped harts.0)) form.0.effect,
  ops-taken m shaped depth leaves (before ++ o ∷ []) ops deep many keys.1 harts.1 form.1,
)
