-- What a machine that is taken apart keeps while words are read into it.
use Rattle.std.proofs.Common.{◌≡◌, ◌<◌, ℕ, zero, suc, true, List, [], ◌∷◌, length, drop, Some, refl, sym, ap, ◌∙◌, subst, arith}
use Rattle.std.specs.Prelude.{IsTrue, nat_eq, slice_set, Result, Ok, Err}
use Rattle.std.proofs.lemmas.Bool.{eqb-true}
use Rattle.ddm_tree.specs.DdmTypes.ItemTable.{item_count}
use Rattle.ddm_tree.specs.TreeModel.State.Rooms.{all_within, all_within_among, dir_within, leaf_within}
use Rattle.ddm_tree.specs.TreeModel.State.Values.{LeafValue, DirValue, Node, Nodes, leaf_node, dir_node, no_nodes, more_nodes, nodes, children, MachineValue, root_of}
use Rattle.ddm_tree.specs.TreeModel.State.Shape.{IsShaped, dir_bone, frame_of, shape_test, skeleton, skeletons, tree_counts}
use Rattle.ddm_tree.specs.TreeModel.Turns.Children.{child_at}
use Rattle.ddm_tree.specs.TreeModel.Turns.Tree.{Name}
use Rattle.ddm_tree.proofs.TreeModel.Children.{nodes-children}
use Rattle.ddm_tree.specs.TreeModel.Start.Nodes.{top_sizes}
use Rattle.ddm_tree.proofs.TreeModel.Tests.{and-both, and-first, and-second}
use Rattle.ddm_tree.specs.TreeRules.Bus.Own.{dir_lists, leaf_lists, top_bus}
use Rattle.ddm_tree.specs.TreeRules.Bus.Own as own
use Rattle.ddm_tree.specs.TreeRules.Bus.Rules.{IsTreeOk, AreTreesOk, items_of_machine}
use Rattle.state_judging.specs.Read.{CanRead, ways_exist, ways_exist_among}
use Rattle.ddm_tree.specs.StateReading.declared.StateRefusal.{StateRefusal}
use Rattle.ddm_tree.specs.StateReading.Reading.{Read, and_then, given}
use Rattle.ddm_tree.specs.StateReading.Parts.{read_dir, read_hart, read_leaf}
use Rattle.ddm_tree.specs.declared.section.Section.{Section}
use Rattle.ddm_tree.specs.Machine.{is_part, listed_path, machine_of}
use Rattle.ddm_tree.specs.Parts.{IsParts, SectionRead, SectionRefused}
use Rattle.ddm_tree.specs.Path.{node_at, path_to, put_at}
use Rattle.ddm_tree.specs.ReadBack.{IsPut, PartRead, node_read, section_name}
use Rattle.ddm_tree.specs.Ready.{words_are, Leads}
use Rattle.ddm_tree.specs.Rules.{KeepsRules}
use Rattle.ddm_tree.proofs.TreeRules.BusTests.{dir-at, leaf-at}
use Rattle.state_judging.proofs.Inverted.{and_then-ok, given-so}
use Rattle.state_judging.proofs.DirRead.{dir-ok}
use Rattle.state_judging.proofs.LeafRead.{hart-ok, leaf-ok}
use Rattle.state_judging.proofs.LeavesRead.{has_ways}
use Rattle.ddm_tree.proofs.Along.{some_if-same}
use Rattle.ddm_tree.proofs.BonesKept.{put-bones}
use Rattle.ddm_tree.proofs.Copies.{counts-same}
use Rattle.ddm_tree.proofs.Descend.{leads-child, within-child}
use Rattle.ddm_tree.proofs.Names.{path-there}
use Rattle.ddm_tree.proofs.Reading.{Listed, within-at}
use Rattle.ddm_tree.proofs.RulesKept.{rules-buses}

mutual
  ways-there : (n : ℕ) (m : Node) → IsTreeOk n m → ways_exist (skeleton m) ≡ true
  ways-there n (leaf_node v) is = is.each own.has_ways
  ways-there n (dir_node d ns) is = ways-there-among n ns is.1

  ways-there-among : (n : ℕ) (ns : Nodes) → AreTreesOk n ns → ways_exist_among (skeletons ns) ≡ true
  ways-there-among n no_nodes is = refl
  ways-there-among n (more_nodes m ns) is = and-both _ _ (ways-there n m is.0) (ways-there-among n ns is.1)

pub can-read : (m : MachineValue) (down width : ℕ) → IsShaped m → KeepsRules m → m.top.sizes ≡ top_sizes down width → CanRead m
can-read m down width shaped rules sizes =
    let ok = rules-buses m rules in
    record { shaped = shaped; ways = ways-there (items_of_machine m) (root_of m) ok.tree; top = and-both _ _ (ok.top.each top_bus) (rw sizes refl) }

-- ---- what is read keeps the numbers, the sizes and the rooms of its node

abbrev to_leaf : LeafValue → ℕ → List ℕ → Result (Read Node) StateRefusal
to_leaf v k ws = given (leaf_node v) k ws

abbrev to_dir : Nodes → DirValue → ℕ → List ℕ → Result (Read Node) StateRefusal
to_dir ns d k ws = given (dir_node d ns) k ws

-- a node in place of another one: the same numbers and sizes, and each list within its room
record Fits (items : ℕ) (n m : Node) : Type 0 where
  bones : skeleton m ≡ skeleton n
  rooms : all_within items m ≡ true

module _ (items : ℕ) where
  own-fits : (n : Node) (k : ℕ) (ws : List ℕ) (r : Read Node) → all_within items n ≡ true → given n k ws ≡ Ok r → Fits items n r.value
  own-fits n k ws r within e = given-so (Fits items n) n k ws r e (record { bones = refl; rooms = within })

  hart-fits : (v : LeafValue) (k : ℕ) (ws : List ℕ) (r : Read Node) → all_within items (leaf_node v) ≡ true → and_then (read_hart v k ws) to_leaf ≡ Ok r → Fits items (leaf_node v) r.value
  hart-fits v k ws r within e =
      let u = and_then-ok (read_hart v k ws) to_leaf r e in
      let h = hart-ok v k ws u.0 u.1 in
      given-so (Fits items (leaf_node v)) (leaf_node u.0.value) u.0.at u.0.rest r u.2 (record { bones = rw (h.number, h.sizes) refl; rooms = rw (h.ways, h.buffer, h.replies, h.sizes) within })

  leaf-fits : (v : LeafValue) (k : ℕ) (ws : List ℕ) (r : Read Node) → has_ways v.sizes ≡ true → all_within items (leaf_node v) ≡ true → and_then (read_leaf (length v.ways) v k ws) to_leaf ≡ Ok r → Fits items (leaf_node v) r.value
  leaf-fits v k ws r some within e =
      let u = and_then-ok (read_leaf (length v.ways) v k ws) to_leaf r e in
      let count : length v.ways ≡ items = eqb-true _ _ (and-first (nat_eq (length v.ways) items) _ within) in
      let l = leaf-ok (length v.ways) v some k ws u.0 u.1 in
      let own : leaf_within (length v.ways) u.0.value ≡ true = leaf-at leaf_lists (length v.ways) u.0.value l.holds in
      given-so (Fits items (leaf_node v)) (leaf_node u.0.value) u.0.at u.0.rest r u.2 (record { bones = rw (l.number, l.sizes) refl; rooms = subst (λ k. leaf_within k u.0.value ≡ true) count own })

  dir-fits : (d : DirValue) (ns : Nodes) (k : ℕ) (ws : List ℕ) (r : Read Node) → all_within items (dir_node d ns) ≡ true → and_then (read_dir (length d.items) (length (children ns)) d k ws) (to_dir ns) ≡ Ok r → Fits items (dir_node d ns) r.value
  dir-fits d ns k ws r within e =
      let u = and_then-ok (read_dir (length d.items) (length (children ns)) d k ws) (to_dir ns) r e in
      let count : length d.items ≡ items = eqb-true _ _ (and-first (nat_eq (length d.items) items) _ (and-first (dir_within items d) _ within)) in
      let l = dir-ok (length d.items) (length (children ns)) d k ws u.0 u.1 in
      let own : dir_within (length d.items) u.0.value ≡ true = dir-at dir_lists (length d.items) (length (children ns)) u.0.value l.holds in
      given-so (Fits items (dir_node d ns)) (dir_node u.0.value ns) u.0.at u.0.rest r u.2
      (record { bones = rw (l.bus, l.level, l.sizes) refl; rooms = and-both _ _ (subst (λ k. dir_within k u.0.value ≡ true) count own) (and-second (dir_within items d) _ within) })

  node-fits : (section : Section) (n : Node) (k : ℕ) (ws : List ℕ) (r : Read Node) → ways_exist (skeleton n) ≡ true → all_within items n ≡ true → node_read section n k ws ≡ Ok r → Fits items n r.value
  node-fits (Section.Hart leaf) (leaf_node v) k ws r some within e = hart-fits v k ws r within e
  node-fits (Section.Hart leaf) (dir_node d ns) k ws r some within e = own-fits (dir_node d ns) k ws r within e
  node-fits (Section.Leaf leaf) (leaf_node v) k ws r some within e = leaf-fits v k ws r some within e
  node-fits (Section.Leaf leaf) (dir_node d ns) k ws r some within e = own-fits (dir_node d ns) k ws r within e
  node-fits (Section.Bus bus) (leaf_node v) k ws r some within e = own-fits (leaf_node v) k ws r within e
  node-fits (Section.Bus bus) (dir_node d ns) k ws r some within e = dir-fits d ns k ws r within e

-- ---- and so the tree keeps them

module _ (items : ℕ) where
  set-within : (ns : Nodes) (i : ℕ) (m : Node) → all_within_among items ns ≡ true → all_within items m ≡ true → all_within_among items (nodes (slice_set (children ns) i m)) ≡ true
  set-within no_nodes i m within e = refl
  set-within (more_nodes n ns) zero m within e = and-both _ _ e (rw (nodes-children ns) (and-second (all_within items n) _ within))
  set-within (more_nodes n ns) (suc i) m within e = and-both _ _ (and-first (all_within items n) _ within) (set-within ns i m (and-second (all_within items n) _ within) e)

  put-within : (name : Name) (path : List ℕ) (new n : Node) → Leads name path n → all_within items n ≡ true → all_within items new ≡ true → all_within items (put_at path new n) ≡ true
  put-within name [] new n leads within e = e
  put-within name (i ∷ path) new (leaf_node v) leads within e = within
  put-within name (i ∷ path) new (dir_node d ns) leads within e =
      let next = leads-child name d ns i path leads in
      let below = and-second (dir_within items d) _ within in
      let kid = put-within name path new (child_at i (children ns)) next.leads (within-child items ns i below next.there) e in
      and-both _ _ (and-first (dir_within items d) _ within) (set-within ns i (put_at path new (child_at i (children ns))) below kid)

ways-child : (ns : Nodes) (i : ℕ) → ways_exist_among (skeletons ns) ≡ true → i < length (children ns) → ways_exist (skeleton (child_at i (children ns))) ≡ true
ways-child no_nodes i e l = absurd (omega (arith, l))
ways-child (more_nodes m ns) zero e l = and-first _ (ways_exist_among (skeletons ns)) e
ways-child (more_nodes m ns) (suc i) e l = ways-child ns i (and-second (ways_exist (skeleton m)) _ e) (omega (arith, l))

ways-at : (name : Name) (path : List ℕ) (n : Node) → Leads name path n → ways_exist (skeleton n) ≡ true → ways_exist (skeleton (node_at path n)) ≡ true
ways-at name [] n leads e = e
ways-at name (i ∷ path) (leaf_node v) leads e =
    let none = some_if-same _ (i ∷ path) leads in
    cc
ways-at name (i ∷ path) (dir_node d ns) leads e =
    let next = leads-child name d ns i path leads in
    ways-at name path (child_at i (children ns)) next.leads (ways-child ns i e next.there)

module _ (section : Section) (path words : List ℕ) (from at items : ℕ) (old new : Node) (is : IsPut section path words from at old new) (leads : Leads (section_name section) path old) (some : ways_exist (skeleton old) ≡ true) (within : all_within items old ≡ true) where
  fits : Fits items (node_at path old) is.node
  fits =
      node-fits items section (node_at path old) from (drop from words) (record { value = is.node; at = at; rest = drop at words }) (ways-at (section_name section) path old leads some) (within-at items (section_name section) path old leads within) is.read

  pub section-bones : skeleton new ≡ skeleton old
  section-bones = ap skeleton is.put ∙ put-bones path is.node old fits.bones

  pub section-rooms : all_within items new ≡ true
  section-rooms = rw is.put (put-within items (section_name section) path is.node old leads within fits.rooms)

-- ---- what the parts keep

same-shape : (m n : MachineValue) → frame_of n ≡ frame_of m → IsShaped m → IsShaped n
same-shape m n same shaped = record { each = λ r. subst (λ f. IsTrue (shape_test r f)) (sym same) (shaped.each r) }

pub kept-parts : (width : ℕ) (m n : MachineValue) (leaf_paths bus_paths : List (List ℕ)) → frame_of n ≡ frame_of m → n.top.bus ≡ m.top.bus → n.top.sizes ≡ m.top.sizes → all_within (item_count m.items) (root_of n) ≡ true → IsParts width m leaf_paths bus_paths → IsParts width n leaf_paths bus_paths
kept-parts width m n leaf_paths bus_paths same bus sizes within is =
    let bones : skeleton (root_of n) ≡ skeleton (root_of m) = ap (λ f. f.bones) same in
    let items : n.items ≡ m.items = ap (λ f. f.items) same in
    record {
      readable = record { shaped = same-shape m n same is.readable.shaped; ways = subst (λ b. ways_exist b ≡ true) (sym bones) is.readable.ways; top = rw (bus, sizes) is.readable.top };
      rooms = subst (λ t. all_within (item_count t) (root_of n) ≡ true) (sym items) within;
      words = subst (λ b. words_are width b ≡ true) (sym bones) is.words;
      paths = λ name path leads. is.paths name path (subst (λ b. path_to name b ≡ Some path) bones leads);
    }

pub kept-counts : (m n : MachineValue) → frame_of n ≡ frame_of m → tree_counts n ≡ tree_counts m
kept-counts m n same = counts-same m n (sym same)

pub parts-listed : (width : ℕ) (leaf_paths bus_paths : List (List ℕ)) (m : MachineValue) (name : Name) → IsParts width m leaf_paths bus_paths → is_part name m ≡ true → Listed name m leaf_paths bus_paths
parts-listed width leaf_paths bus_paths m name is there =
    let found = path-there name (root_of m) there in
    record { path = found.0; leads = found.1; listed = is.paths name found.0 found.1 }

some-same : {X : Type 0} {x y : X} → Some x ≡ Some y → x ≡ y
some-same e = cc

-- a listed path leads where the name says
pub listed-leads : (name : Name) (m : MachineValue) (leaf_paths bus_paths : List (List ℕ)) → Listed name m leaf_paths bus_paths → (path : List ℕ) → listed_path name leaf_paths bus_paths ≡ Some path → Leads name path (root_of m)
listed-leads name m leaf_paths bus_paths found path listed =
    let same : found.path ≡ path = some-same (sym found.listed ∙ listed) in
    subst (λ p. Leads name p (root_of m)) same found.leads

-- ---- a section of a machine

module _ (section : Section) (words : List ℕ) (from : ℕ) (m : MachineValue) (path : List ℕ) (leads : Leads (section_name section) path (root_of m)) where
  module _ (width at : ℕ) (leaf_paths bus_paths : List (List ℕ)) (is_parts : IsParts width m leaf_paths bus_paths) (top : DirValue) (kids : List Node) (is : IsPut section path words from at (root_of m) (dir_node top (nodes kids))) where
    abbrev after : MachineValue
    after = machine_of m.code m.items top kids m.ops m.traffic

    bones : skeleton (dir_node top (nodes kids)) ≡ skeleton (root_of m)
    bones = section-bones section path words from at (item_count m.items) (root_of m) (dir_node top (nodes kids)) is leads is_parts.readable.ways is_parts.rooms

    frame : frame_of after ≡ frame_of m
    frame = ap (λ b. record { bones = b; code = m.code; items = m.items; counted = length m.traffic }) bones

    pub section-parts : IsParts width after leaf_paths bus_paths
    section-parts =
        let parts : dir_bone top.bus top.level top.sizes (skeletons (nodes kids)) ≡ dir_bone m.top.bus m.top.level m.top.sizes (skeletons m.kids) = bones in
        let bus : top.bus ≡ m.top.bus = cc in
        let sizes : top.sizes ≡ m.top.sizes = cc in
        kept-parts width m after leaf_paths bus_paths frame bus sizes (section-rooms section path words from at (item_count m.items) (root_of m) (dir_node top (nodes kids)) is leads is_parts.readable.ways is_parts.rooms) is_parts

    pub section-counts : tree_counts after ≡ tree_counts m
    section-counts = kept-counts m after frame

  pub section-made : (at : ℕ) (top : DirValue) (kids : List Node) → IsPut section path words from at (root_of m) (dir_node top (nodes kids)) → SectionRead section words from m (machine_of m.code m.items top kids m.ops m.traffic) at
  section-made at top kids is = record { path = path; leads = leads; is_put = is; same = refl }

  pub section-refused : (e : StateRefusal) (new : Node) → PartRead section path words from (root_of m) new (Err e) → SectionRefused section words from m e
  section-refused e new is = record { path = path; leads = leads; read = is }
