-- Buses of a machine that is taken apart are read one after the other: what one of them changes, and what all come to.
-- Letters: m is the machine before the first of them, now is it before the next, ds are the directories that were read.
use Rattle.std.proofs.Common.{◌≡◌, ◌≢◌, ◌<◌, ◌≤◌, ℕ, zero, suc, ◌+◌, true, false, List, [], ◌∷◌, ◌++◌, length, map, drop, get_or, Some, refl, sym, ap, subst, ◌∙◌, arith, true≢false, drop-cons, append-nil, append_assoc, length-append}
use Rattle.std.specs.Prelude.{is_some, nat_eq, slice_set, slice_index_or, Result, Ok, Err}
use Rattle.std.specs.List.{range_with_len}
use Rattle.std.proofs.lemmas.Bool.{eqb-true, eq-eqb}
use Rattle.std.proofs.lemmas.List.{map-append}
use Rattle.std.proofs.lemmas.List.FromFn.{get_or-range_with_len, length-range_with_len}
use Rattle.ddm_tree.specs.DdmTypes.ItemTable.{item_count}
use Rattle.ddm_tree.specs.TreeModel.declared.Traffic.{Traffic}
use Rattle.ddm_tree.specs.TreeModel.State.Blank.{no_leaf}
use Rattle.ddm_tree.specs.TreeModel.State.Place.{Where, at_top}
use Rattle.ddm_tree.specs.TreeModel.State.Rooms.{all_within}
use Rattle.ddm_tree.specs.TreeModel.State.Shape.{IsShaped, are_below, buses_of, frame_of, skeleton, tree_counts, traffic_counted}
use Rattle.ddm_tree.specs.TreeModel.State.Values.{LeafValue, DirValue, Node, Nodes, leaf_node, dir_node, no_nodes, more_nodes, children, MachineValue, root_of}
use Rattle.ddm_tree.specs.TreeModel.Turns.Machine.{ask_bus, with_root}
use Rattle.ddm_tree.specs.TreeModel.Turns.Tree.{Name, bus_of_number, is_named, of_dir}
use Rattle.ddm_tree.proofs.TreeModel.Tests.{and-first}
use Rattle.ddm_tree.specs.StateReading.declared.StateRefusal.{StateRefusal}
use Rattle.ddm_tree.specs.StateReading.Machine.{BusRead, bus_dir, bus_traffic, read_bus, read_bus_of, read_buses, refilled, refilled_among}
use Rattle.ddm_tree.specs.StateReading.Parts.{read_dir, read_traffic}
use Rattle.ddm_tree.specs.StateReading.Reading.{Read, and_then, given}
use Rattle.state_judging.specs.Read.{CanRead}
use Rattle.ddm_tree.specs.declared.section.Section.{Section}
use Rattle.ddm_tree.specs.Machine.{is_part}
use Rattle.ddm_tree.specs.Parts.{BusesAreRead, BusIsRead, BusIsRefused, IsParts, SectionRead, dir_refused, traffic_refused}
use Rattle.ddm_tree.specs.Path.{node_at, path_to, put_at}
use Rattle.ddm_tree.specs.ReadBack.{node_read}
use Rattle.ddm_tree.specs.Ready.{Leads}
use Rattle.ddm_tree.proofs.Along.{path_to-there, where_end}
use Rattle.ddm_tree.proofs.NamedOnce.{bus-once}
use Rattle.ddm_tree.proofs.PartsKept.{kept-counts, kept-parts, section-bones}
use Rattle.ddm_tree.proofs.Reading.{items-within, named-there, read-is, within-at}
use Rattle.ddm_tree.proofs.Refilled.{dir_by_bus, leaf_by_number, mapped, mapped_among, mapped-at, put-mapped, refilled-mapped, swapped}

-- ---- a section leaves the numbers and sizes of all nodes

module _ (section : Section) (words : List ℕ) (from : ℕ) (m after : MachineValue) (at : ℕ) (is : SectionRead section words from m after at) (readable : CanRead m) (rooms : all_within (item_count m.items) (root_of m) ≡ true) where
  pub read-frame : frame_of after ≡ frame_of m
  read-frame =
      let bones = section-bones section is.path words from at (item_count m.items) (root_of m) (root_of after) is.is_put is.leads readable.ways rooms in
      ap frame_of is.same ∙ ap (λ b. record { bones = b; code = m.code; items = m.items; counted = length m.traffic }) bones

pub same-part : (name : Name) (m n : MachineValue) → frame_of n ≡ frame_of m → is_part name m ≡ true → is_part name n ≡ true
same-part name m n same there =
    let bones : skeleton (root_of n) ≡ skeleton (root_of m) = ap (λ f. f.bones) same in
    sym (path_to-there name (root_of n)) ∙ ap (λ b. is_some (path_to name b)) bones ∙ path_to-there name (root_of m) ∙ there

-- ---- the traffic of one bus is set

same-length : {X : Type 0} (xs : List X) (i : ℕ) (x : X) → length (slice_set xs i x) ≡ length xs
same-length [] i x = refl
same-length (y ∷ ys) zero x = refl
same-length (y ∷ ys) (suc i) x = ap suc (same-length ys i x)

abbrev pub with_traffic : MachineValue → ℕ → Traffic → MachineValue
with_traffic m bus traffic = record m { traffic = slice_set m.traffic bus traffic }

pub set-frame : (m : MachineValue) (bus : ℕ) (traffic : Traffic) → frame_of (with_traffic m bus traffic) ≡ frame_of m
set-frame m bus traffic = ap (λ k. record { bones = skeleton (root_of m); code = m.code; items = m.items; counted = k }) (same-length m.traffic bus traffic)

pub set-parts : (width : ℕ) (m : MachineValue) (leaf_paths bus_paths : List (List ℕ)) (bus : ℕ) (traffic : Traffic) → IsParts width m leaf_paths bus_paths → IsParts width (with_traffic m bus traffic) leaf_paths bus_paths
set-parts width m leaf_paths bus_paths bus traffic is = kept-parts width m (with_traffic m bus traffic) leaf_paths bus_paths (set-frame m bus traffic) refl refl is.rooms is

pub set-counts : (m : MachineValue) (bus : ℕ) (traffic : Traffic) → tree_counts (with_traffic m bus traffic) ≡ tree_counts m
set-counts m bus traffic = kept-counts m (with_traffic m bus traffic) (set-frame m bus traffic)

-- ---- lists

index-beyond : {X : Type 0} (xs : List X) (i : ℕ) (d : X) → length xs ≡ i → slice_index_or xs i d ≡ d
index-beyond [] i d e = refl
index-beyond (x ∷ xs) zero d e = absurd (omega (arith, e))
index-beyond (x ∷ xs) (suc i) d e = index-beyond xs i d (omega (arith, e))

index-last : {X : Type 0} (xs : List X) (i : ℕ) (x d : X) → length xs ≡ i → slice_index_or (xs ++ x ∷ []) i d ≡ x
index-last [] zero x d e = refl
index-last [] (suc i) x d e = absurd (omega (arith, e))
index-last (y ∷ ys) zero x d e = absurd (omega (arith, e))
index-last (y ∷ ys) (suc i) x d e = index-last ys i x d (omega (arith, e))

index-other : {X : Type 0} (xs : List X) (i : ℕ) (x d : X) → length xs ≢ i → slice_index_or xs i d ≡ slice_index_or (xs ++ x ∷ []) i d
index-other [] zero x d other = absurd (other refl)
index-other [] (suc i) x d other = refl
index-other (y ∷ ys) zero x d other = refl
index-other (y ∷ ys) (suc i) x d other = index-other ys i x d (λ e. other (omega (arith, e)))

set-behind : {X : Type 0} (xs zs : List X) (i : ℕ) (x : X) → length xs ≡ i → slice_set (xs ++ zs) i x ≡ xs ++ slice_set zs 0 x
set-behind [] zs i x e = ap (λ k. slice_set zs k x) (sym e)
set-behind (y ∷ ys) zs zero x e = absurd (omega (arith, e))
set-behind (y ∷ ys) zs (suc i) x e = ap (λ l. y ∷ l) (set-behind ys zs i x (omega (arith, e)))

-- the element at i is set behind those before it
set-next : {X : Type 0} (xs ys : List X) (i : ℕ) (x : X) → length xs ≡ i → i < length ys → slice_set (xs ++ drop i ys) i x ≡ (xs ++ x ∷ []) ++ drop (i + 1) ys
set-next xs ys i x e l =
    let next : i + 1 ≡ suc i = omega arith in
    set-behind xs (drop i ys) i x e ∙ ap (λ zs. xs ++ slice_set zs 0 x) (drop-cons ys i x l) ∙ rw next (sym (append_assoc xs (x ∷ []) (drop (suc i) ys)))

range-next : (b i : ℕ) → i < b → drop i (range_with_len 0 b) ≡ i ∷ drop (i + 1) (range_with_len 0 b)
range-next b i l =
    let next : i + 1 ≡ suc i = omega arith in
    let inside : i < length (range_with_len 0 b) = omega (arith, length-range_with_len 0 b, l) in
    let own : get_or (range_with_len 0 b) i 0 ≡ i = get_or-range_with_len 0 b i 0 l ∙ omega arith in
    rw next (drop-cons (range_with_len 0 b) i 0 inside ∙ ap (λ k. k ∷ drop (suc i) (range_with_len 0 b)) own)

drop-all : {X : Type 0} (xs : List X) (i : ℕ) → length xs ≤ i → drop i xs ≡ []
drop-all [] zero l = refl
drop-all [] (suc i) l = refl
drop-all (x ∷ xs) zero l = absurd (omega (arith, l))
drop-all (x ∷ xs) (suc i) l = drop-all xs i (omega (arith, l))

no-drop : {X : Type 0} (xs : List X) → drop 0 xs ≡ xs
no-drop [] = refl
no-drop (x ∷ xs) = refl

-- ---- the directory over a bus

module _ (ns : Nodes) where
  abbrev to_dir : DirValue → ℕ → List ℕ → Result (Read Node) StateRefusal
  to_dir d k ws = given (dir_node d ns) k ws

  record DirIsRead (read : Result (Read DirValue) StateRefusal) (node : Node) (k : ℕ) (ws : List ℕ) : Type 0 where
    dir : DirValue
    is : read ≡ Ok (record { value = dir; at = k; rest = ws })
    node_is : node ≡ dir_node dir ns

  dir-read : (read : Result (Read DirValue) StateRefusal) (node : Node) (k : ℕ) (ws : List ℕ) → and_then read to_dir ≡ Ok (record { value = node; at = k; rest = ws }) → DirIsRead read node k ws
  dir-read (Ok r) node k ws e =
      let same : record { value = dir_node r.value ns; at = r.at; rest = r.rest } ≡ record { value = node; at = k; rest = ws } = cc in
      let at : r.at ≡ k = ap (λ (q : Read Node). q.at) same in
      let rest : r.rest ≡ ws = ap (λ (q : Read Node). q.rest) same in
      record { dir = r.value; is = rw (sym at, sym rest) refl; node_is = sym (ap (λ (q : Read Node). q.value) same) }
  dir-read (Err x) node k ws e = cc

  dir-refused : (read : Result (Read DirValue) StateRefusal) (e : StateRefusal) → and_then read to_dir ≡ Err e → read ≡ Err e
  dir-refused (Ok r) e is = cc
  dir-refused (Err x) e is =
      let same : x ≡ e = cc in
      ap Err same

module _ (f : LeafValue → LeafValue) (g : DirValue → DirValue) where
  mapped-count : (ns : Nodes) → length (children (mapped_among f g ns)) ≡ length (children ns)
  mapped-count no_nodes = refl
  mapped-count (more_nodes n ns) = ap suc (mapped-count ns)

-- the leaves of a tree of which directories alone were replaced, and its directories
abbrev leaf_now : List DirValue → LeafValue → LeafValue
leaf_now ds v = leaf_by_number [] ds v

abbrev dir_now : List DirValue → DirValue → DirValue
dir_now ds d = dir_by_bus [] ds d

-- The directory over a bus of m, in a machine of which those over the buses before it were replaced: it is as it was.
record Over (m now : MachineValue) (ds : List DirValue) (bus : ℕ) (path : List ℕ) : Type 0 where
  dir : DirValue
  kids : Nodes
  here : node_at path (root_of now) ≡ dir_node dir (mapped_among (leaf_now ds) (dir_now ds) kids)
  counted : length (children (mapped_among (leaf_now ds) (dir_now ds) kids)) ≡ length (children kids)
  items : length dir.items ≡ item_count m.items
  asked : ask_bus {A = DirValue × ℕ} bus (λ w d ns. (d, length ns)) (m.top, 0) m ≡ Some (dir, length (children kids))

module _ (m now : MachineValue) (ds : List DirValue) (bus : ℕ) (count : length ds ≡ bus) (root : root_of now ≡ refilled [] ds (root_of m)) (rooms : all_within (item_count m.items) (root_of m) ≡ true) (path : List ℕ) (leads : Leads (bus_of_number bus) path (root_of m)) where
  over-node : (n : Node) → node_at path (root_of m) ≡ n → is_named (bus_of_number bus) n ≡ true → all_within (item_count m.items) n ≡ true → Over m now ds bus path
  over-node (leaf_node v) is named within = absurd (true≢false (sym named))
  over-node (dir_node d ns) is named within =
      let number : d.bus ≡ bus = eqb-true d.bus bus named in
      let end : node_at path (mapped (leaf_now ds) (dir_now ds) (root_of m)) ≡ mapped (leaf_now ds) (dir_now ds) (node_at path (root_of m)) = mapped-at (leaf_now ds) (dir_now ds) (bus_of_number bus) path (root_of m) leads in
      let read : Where → Node → DirValue × ℕ = of_dir (λ w d ns. (d, length ns)) (m.top, 0) in
      record {
        dir = d;
        kids = ns;
        here = ap (node_at path) (root ∙ refilled-mapped [] ds (root_of m)) ∙ end ∙ ap (mapped (leaf_now ds) (dir_now ds)) is ∙ ap (λ e. dir_node e (mapped_among (leaf_now ds) (dir_now ds) ns)) (index-beyond ds d.bus d (count ∙ sym number));
        counted = mapped-count (leaf_now ds) (dir_now ds) ns;
        items = items-within (item_count m.items) (dir_node d ns) within;
        asked = sym (read-is m (bus_of_number bus) path leads read) ∙ ap (λ n. Some (read (where_end at_top path (root_of m)) n)) is;
      }

  over : Over m now ds bus path
  over = over-node (node_at path (root_of m)) refl (named-there m (bus_of_number bus) path leads) (within-at (item_count m.items) (bus_of_number bus) path (root_of m) leads rooms)

-- ---- a bus is read as the definition reads it

module _ (m : MachineValue) (bus n : ℕ) (before : List BusRead) (d : DirValue) (kids k : ℕ) (ws : List ℕ) (asked : ask_bus {A = DirValue × ℕ} bus (λ w d ns. (d, length ns)) (m.top, 0) m ≡ Some (d, kids)) where
  abbrev behind_dir : DirValue → ℕ → List ℕ → Result (Read (List BusRead)) StateRefusal
  behind_dir d k ws = and_then (read_traffic k ws) (λ t k ws. given (record { dir = d; traffic = t } ∷ []) k ws)

  abbrev behind_all : List BusRead → ℕ → List ℕ → Result (Read (List BusRead)) StateRefusal
  behind_all b k ws = given (before ++ b) k ws

  opened : read_bus n m before bus k ws ≡ and_then (and_then (read_dir n kids d k ws) behind_dir) behind_all
  opened = ap (λ o. and_then (read_bus_of n o k ws) behind_all) asked

  bus-goes : (new : DirValue) (j : ℕ) (vs : List ℕ) (t : Traffic) (i : ℕ) (us : List ℕ) → read_dir n kids d k ws ≡ Ok (record { value = new; at = j; rest = vs }) → read_traffic j vs ≡ Ok (record { value = t; at = i; rest = us }) → read_bus n m before bus k ws ≡ given (before ++ record { dir = new; traffic = t } ∷ []) i us
  bus-goes new j vs t i us dir traffic =
      opened ∙ ap (λ r. and_then (and_then r behind_dir) behind_all) dir
      ∙ ap (λ r. and_then (and_then r (λ t k ws. given (record { dir = new; traffic = t } ∷ []) k ws)) behind_all) traffic

  dir-stops : (e : StateRefusal) → read_dir n kids d k ws ≡ Err e → read_bus n m before bus k ws ≡ Err e
  dir-stops e dir = opened ∙ ap (λ r. and_then (and_then r behind_dir) behind_all) dir

  traffic-stops : (new : DirValue) (j : ℕ) (vs : List ℕ) (e : StateRefusal) → read_dir n kids d k ws ≡ Ok (record { value = new; at = j; rest = vs }) → read_traffic j vs ≡ Err e → read_bus n m before bus k ws ≡ Err e
  traffic-stops new j vs e dir traffic =
      opened ∙ ap (λ r. and_then (and_then r behind_dir) behind_all) dir
      ∙ ap (λ r. and_then (and_then r (λ t k ws. given (record { dir = new; traffic = t } ∷ []) k ws)) behind_all) traffic

-- ---- one more directory stands in the tree

other-number : (a b : ℕ) → nat_eq a b ≡ false → b ≢ a
other-number a b e same = true≢false (sym (eq-eqb a b (sym same)) ∙ e)

module _ (m : MachineValue) (ds : List DirValue) (bus : ℕ) (count : length ds ≡ bus) (new : DirValue) where
  dirs_same : (d : DirValue) (ns : Nodes) → is_named (bus_of_number bus) (dir_node d ns) ≡ false → dir_now ds d ≡ dir_now (ds ++ new ∷ []) d
  dirs_same d ns other = index-other ds d.bus new d (λ e. other-number d.bus bus other (sym count ∙ e))

  dir_is : (d : DirValue) (ns : Nodes) → is_named (bus_of_number bus) (dir_node d ns) ≡ true → dir_now (ds ++ new ∷ []) d ≡ new
  dir_is d ns named = index-last ds d.bus new d (count ∙ sym (eqb-true d.bus bus named))

  leaf_is : (v : LeafValue) → is_named (bus_of_number bus) (leaf_node v) ≡ true → leaf_now (ds ++ new ∷ []) v ≡ no_leaf
  leaf_is v named = absurd (true≢false (sym named))

  one-more : (now : MachineValue) (path : List ℕ) (d : DirValue) (ns : Nodes) → IsShaped m → root_of now ≡ refilled [] ds (root_of m) → frame_of now ≡ frame_of m → Leads (bus_of_number bus) path (root_of now) → node_at path (root_of now) ≡ dir_node d ns → put_at path (dir_node new ns) (root_of now) ≡ refilled [] (ds ++ new ∷ []) (root_of m)
  one-more now path d ns shaped root frame leads here =
      let name = bus_of_number bus in
      let whole : root_of now ≡ mapped (leaf_now ds) (dir_now ds) (root_of m) = root ∙ refilled-mapped [] ds (root_of m) in
      let bones : skeleton (root_of now) ≡ skeleton (root_of m) = ap (λ f. f.bones) frame in
      let swap : Node → Node = swapped name (leaf_now ds) (leaf_now (ds ++ new ∷ [])) (dir_now ds) (dir_now (ds ++ new ∷ [])) (λ v other. refl) dirs_same no_leaf new leaf_is dir_is in
      let own : swap (node_at path (root_of now)) ≡ dir_node new ns = ap swap here in
      let put = put-mapped name (leaf_now ds) (leaf_now (ds ++ new ∷ [])) (dir_now ds) (dir_now (ds ++ new ∷ [])) (λ v other. refl) dirs_same no_leaf new leaf_is dir_is path (root_of m) (bus-once m bus shaped) (ap skeleton (sym whole) ∙ bones) (subst (λ n. Leads name path n) whole leads) in
      let all : put_at path (swap (node_at path (root_of now))) (root_of now) ≡ mapped (leaf_now (ds ++ new ∷ [])) (dir_now (ds ++ new ∷ [])) (root_of m) = subst (λ n. put_at path (swap (node_at path n)) n ≡ mapped (leaf_now (ds ++ new ∷ [])) (dir_now (ds ++ new ∷ [])) (root_of m)) (sym whole) put in
      ap (λ n. put_at path n (root_of now)) (sym own) ∙ all ∙ sym (refilled-mapped [] (ds ++ new ∷ []) (root_of m))

-- ---- the buses so far

-- now is m after so many buses were read
pub record BusesSoFar (words : List ℕ) (from : ℕ) (m now : MachineValue) (bus at : ℕ) : Type 0 where
  pub buses : List BusRead
  pub count : length buses ≡ bus
  pub left : read_buses (item_count m.items) m (range_with_len 0 (length m.traffic)) [] from (drop from words) ≡ read_buses (item_count m.items) m (drop bus (range_with_len 0 (length m.traffic))) buses at (drop at words)
  pub is : now ≡ record (with_root (refilled [] (map bus_dir buses) (root_of m)) m) { traffic = map bus_traffic buses ++ drop bus m.traffic }
  pub frame : frame_of now ≡ frame_of m

length-map : {X Y : Type 0} (f : X → Y) (xs : List X) → length (map f xs) ≡ length xs
length-map f [] = refl
length-map f (x ∷ xs) = ap suc (length-map f xs)

mutual
  unfilled : (n : Node) → refilled [] [] n ≡ n
  unfilled (leaf_node v) = refl
  unfilled (dir_node d ns) = ap (dir_node d) (unfilled-among ns)

  unfilled-among : (ns : Nodes) → refilled_among [] [] ns ≡ ns
  unfilled-among no_nodes = refl
  unfilled-among (more_nodes n ns) = rw (unfilled n, unfilled-among ns) refl

pub buses-begun : (words : List ℕ) (from : ℕ) (m : MachineValue) → BusesSoFar words from m m 0 from
buses-begun words from m = record {
  buses = [];
  count = refl;
  left = ap (λ l. read_buses (item_count m.items) m l [] from (drop from words)) (sym (no-drop (range_with_len 0 (length m.traffic))));
  is = ap (λ r. with_root r m) (sym (unfilled (root_of m))) ∙ ap (λ t. record (with_root (refilled [] [] (root_of m)) m) { traffic = t }) (sym (no-drop m.traffic));
  frame = refl;
}

module _ (words : List ℕ) (from : ℕ) (m now : MachineValue) (bus at : ℕ) (so : BusesSoFar words from m now bus at) where
  abbrev dirs : List DirValue
  dirs = map bus_dir so.buses

  dirs-count : length dirs ≡ bus
  dirs-count = length-map bus_dir so.buses ∙ so.count

  root : root_of now ≡ refilled [] dirs (root_of m)
  root = ap root_of so.is

  pub buses-done : length m.traffic ≤ bus → BusesAreRead words from m now at
  buses-done all =
      let none : drop bus (range_with_len 0 (length m.traffic)) ≡ [] = drop-all (range_with_len 0 (length m.traffic)) bus (omega (arith, all, length-range_with_len 0 (length m.traffic))) in
      let read = so.left ∙ ap (λ l. read_buses (item_count m.items) m l so.buses at (drop at words)) none in
      let last : map bus_traffic so.buses ++ drop bus m.traffic ≡ map bus_traffic so.buses = ap (λ l. map bus_traffic so.buses ++ l) (drop-all m.traffic bus all) ∙ append-nil (map bus_traffic so.buses) in
      record { buses = so.buses; read = read; is = so.is ∙ ap (λ t. record (with_root (refilled [] dirs (root_of m)) m) { traffic = t }) last; frame = so.frame }

  module _ (readable : CanRead m) (rooms : all_within (item_count m.items) (root_of m) ≡ true) (inside : bus < length m.traffic) where
    next-left : read_buses (item_count m.items) m (range_with_len 0 (length m.traffic)) [] from (drop from words) ≡ and_then (read_bus (item_count m.items) m so.buses bus at (drop at words)) (read_buses (item_count m.items) m (drop (bus + 1) (range_with_len 0 (length m.traffic))))
    next-left = so.left ∙ ap (λ l. read_buses (item_count m.items) m l so.buses at (drop at words)) (range-next (length m.traffic) bus inside)

    module _ (path : List ℕ) (leads : Leads (bus_of_number bus) path (root_of now)) where
      leads-before : Leads (bus_of_number bus) path (root_of m)
      leads-before =
          let bones : skeleton (root_of now) ≡ skeleton (root_of m) = ap (λ f. f.bones) so.frame in
          subst (λ b. path_to (bus_of_number bus) b ≡ Some path) bones leads

      it : Over m now dirs bus path
      it = over m now dirs bus dirs-count root rooms path leads-before

      abbrev kids-now : Nodes
      kids-now = mapped_among (leaf_now dirs) (dir_now dirs) it.kids

      -- the words of the directory, as the definition reads them
      same-read : read_dir (length it.dir.items) (length (children kids-now)) it.dir at (drop at words) ≡ read_dir (item_count m.items) (length (children it.kids)) it.dir at (drop at words)
      same-read = rw (it.items, it.counted) refl

      as-read : {r : Result (Read Node) StateRefusal} → node_read (Section.Bus bus) (node_at path (root_of now)) at (drop at words) ≡ r → and_then (read_dir (item_count m.items) (length (children it.kids)) it.dir at (drop at words)) (to_dir kids-now) ≡ r
      as-read {r = r} is = ap (λ d. and_then d (to_dir kids-now)) (sym same-read) ∙ (ap (λ n. node_read (Section.Bus bus) n at (drop at words)) (sym it.here) ∙ is)

      dir-not-read : (e : StateRefusal) → node_read (Section.Bus bus) (node_at path (root_of now)) at (drop at words) ≡ Err e → read_bus (item_count m.items) m so.buses bus at (drop at words) ≡ Err e
      dir-not-read e is = dir-stops m bus (item_count m.items) so.buses it.dir (length (children it.kids)) at (drop at words) it.asked e (dir-refused kids-now (read_dir (item_count m.items) (length (children it.kids)) it.dir at (drop at words)) e (as-read is))

      module _ (node : Node) (behind : ℕ) (is : node_read (Section.Bus bus) (node_at path (root_of now)) at (drop at words) ≡ Ok (record { value = node; at = behind; rest = drop behind words })) where
        new : DirIsRead kids-now (read_dir (item_count m.items) (length (children it.kids)) it.dir at (drop at words)) node behind (drop behind words)
        new = dir-read kids-now (read_dir (item_count m.items) (length (children it.kids)) it.dir at (drop at words)) node behind (drop behind words) (as-read is)

        traffic-not-read : (e : StateRefusal) → read_traffic behind (drop behind words) ≡ Err e → read_bus (item_count m.items) m so.buses bus at (drop at words) ≡ Err e
        traffic-not-read e traffic = traffic-stops m bus (item_count m.items) so.buses it.dir (length (children it.kids)) at (drop at words) it.asked new.dir behind (drop behind words) e new.is traffic

        both-read : (t : Traffic) (k : ℕ) → read_traffic behind (drop behind words) ≡ Ok (record { value = t; at = k; rest = drop k words }) → read_bus (item_count m.items) m so.buses bus at (drop at words) ≡ given (so.buses ++ record { dir = new.dir; traffic = t } ∷ []) k (drop k words)
        both-read t k traffic = bus-goes m bus (item_count m.items) so.buses it.dir (length (children it.kids)) at (drop at words) it.asked new.dir behind (drop behind words) t k (drop k words) new.is traffic

        root-put : put_at path node (root_of now) ≡ refilled [] (dirs ++ new.dir ∷ []) (root_of m)
        root-put = ap (λ n. put_at path n (root_of now)) new.node_is ∙ one-more m dirs bus dirs-count new.dir now path it.dir kids-now readable.shaped root so.frame leads it.here

    pub buses-refused : (e : StateRefusal) → BusIsRefused bus words at now e → read_buses (item_count m.items) m (range_with_len 0 (length m.traffic)) [] from (drop from words) ≡ Err e
    buses-refused e (dir_refused is) = next-left ∙ ap (λ r. and_then r (read_buses (item_count m.items) m (drop (bus + 1) (range_with_len 0 (length m.traffic))))) (dir-not-read is.path is.leads e is.read)
    buses-refused e (traffic_refused middle behind is traffic) =
        next-left ∙ ap (λ r. and_then r (read_buses (item_count m.items) m (drop (bus + 1) (range_with_len 0 (length m.traffic))))) (traffic-not-read is.path is.leads is.is_put.node behind is.is_put.read e traffic)

    module _ (after : MachineValue) (k : ℕ) (is : BusIsRead bus words at now after k) where
      abbrev one : BusRead
      one = record { dir = (new is.dir.path is.dir.leads is.dir.is_put.node is.behind is.dir.is_put.read).dir; traffic = is.traffic }

      abbrev all-dirs : List DirValue
      all-dirs = dirs ++ one.dir ∷ []

      middle-root : root_of is.middle ≡ refilled [] all-dirs (root_of m)
      middle-root = is.dir.is_put.put ∙ root-put is.dir.path is.dir.leads is.dir.is_put.node is.behind is.dir.is_put.read

      middle-is : is.middle ≡ record (with_root (refilled [] all-dirs (root_of m)) m) { traffic = map bus_traffic so.buses ++ drop bus m.traffic }
      middle-is = is.dir.same ∙ ap (λ r. with_root r now) middle-root ∙ ap (with_root (refilled [] all-dirs (root_of m))) so.is

      traffic-is : slice_set (map bus_traffic so.buses ++ drop bus m.traffic) bus is.traffic ≡ map bus_traffic (so.buses ++ one ∷ []) ++ drop (bus + 1) m.traffic
      traffic-is =
          set-next (map bus_traffic so.buses) m.traffic bus is.traffic (length-map bus_traffic so.buses ∙ so.count) inside
          ∙ ap (λ l. l ++ drop (bus + 1) m.traffic) (sym (map-append bus_traffic so.buses (one ∷ [])))

      after-is : after ≡ record (with_root (refilled [] (map bus_dir (so.buses ++ one ∷ [])) (root_of m)) m) { traffic = map bus_traffic (so.buses ++ one ∷ []) ++ drop (bus + 1) m.traffic }
      after-is =
          is.is ∙ ap (λ (n : MachineValue). with_traffic n bus is.traffic) middle-is
          ∙ ap (λ t. record (with_root (refilled [] all-dirs (root_of m)) m) { traffic = t }) traffic-is
          ∙ ap (λ ds. record (with_root (refilled [] ds (root_of m)) m) { traffic = map bus_traffic (so.buses ++ one ∷ []) ++ drop (bus + 1) m.traffic }) (sym (map-append bus_dir so.buses (one ∷ [])))

      pub buses-more : frame_of after ≡ frame_of now → BusesSoFar words from m after (bus + 1) k
      buses-more same = record {
        buses = so.buses ++ one ∷ [];
        count = length-append so.buses (one ∷ []) ∙ ap (λ n. n + 1) so.count;
        left = next-left ∙ ap (λ r. and_then r (read_buses (item_count m.items) m (drop (bus + 1) (range_with_len 0 (length m.traffic))))) (both-read is.dir.path is.dir.leads is.dir.is_put.node is.behind is.dir.is_put.read is.traffic k is.read);
        is = after-is;
        frame = same ∙ so.frame;
      }

pub buses-counted : (m : MachineValue) → IsShaped m → (tree_counts m).buses ≡ length m.traffic
buses-counted m shaped = eqb-true _ _ (and-first (nat_eq (length (buses_of (skeleton (root_of m)) [])) (length m.traffic)) (are_below (length m.traffic) (buses_of (skeleton (root_of m)) [])) (shaped.each traffic_counted))
