-- Which node has a name, and which children a bus has, is a fact of a machine's skeleton.
-- Letters: c is the name of a leaf or a bus, n a node, b and bs are bones, m is a machine, t a turn.
use Rattle.std.proofs.Common.{◌≡◌, ◌∙◌, ◌<◌, ℕ, zero, suc, ◌+◌, Bool, true, false, ◌||◌, nat_eq, List, [], ◌∷◌, map, length, Option, Some, None, option_map, refl, sym, ap, subst, if◌then◌else◌, arith}
use Rattle.std.specs.Prelude.{slice_get, slice_index_or, unwrap_or}
use Rattle.std.specs.List.{list_any}
use Rattle.std.proofs.lemmas.Bool.{eqb-true}
use Rattle.ddm_types.specs.declared.turns.Turn.{Turn}
use Rattle.recording_model.specs.TreeModel.State.Child.{child_label}
use Rattle.recording_model.specs.TreeModel.State.Place.{Where, at_child, at_top, spot_in, where_path}
use Rattle.recording_model.specs.TreeModel.State.Shape.{Skeleton, Skeletons, leaf_bone, dir_bone, no_bones, more_bones, skeleton, skeletons}
use Rattle.recording_model.specs.TreeModel.State.Values.{DirValue, MachineValue, Node, Nodes, children, dir_node, leaf_node, more_nodes, no_nodes, root_of}
use Rattle.recording_model.specs.TreeModel.Turns.Children.{child_at}
use Rattle.recording_model.specs.TreeModel.Turns.Machine.{child_count, child_of}
use Rattle.recording_model.specs.TreeModel.Turns.Tree.{Name, bus_of_number, has_among, has_node, is_named, leaf_of_number, of_dir, read_among, read_in}
use Rattle.tree_model.specs.declared.TreeChild.{TreeChild}
use Rattle.measure_model.specs.Near.{is_near, names_near}
use Rattle.measuring.specs.Seen.{labels_of}

-- ---- names

abbrev pub label_is : Name → TreeChild → Bool
label_is (leaf_of_number j) (TreeChild.LeafChild k) = nat_eq k j
label_is (leaf_of_number j) (TreeChild.BusChild b) = false
label_is (bus_of_number j) (TreeChild.LeafChild k) = false
label_is (bus_of_number j) (TreeChild.BusChild b) = nat_eq b j

abbrev pub bone_label : Skeleton → TreeChild
bone_label (leaf_bone number sizes) = TreeChild.LeafChild number
bone_label (dir_bone bus level sizes bs) = TreeChild.BusChild bus

label-bones : (n : Node) → child_label n ≡ bone_label (skeleton n)
label-bones (leaf_node v) = refl
label-bones (dir_node d ns) = refl

named-label : (c : Name) (n : Node) → is_named c n ≡ label_is c (child_label n)
named-label (leaf_of_number j) (leaf_node v) = refl
named-label (leaf_of_number j) (dir_node d ns) = refl
named-label (bus_of_number j) (leaf_node v) = refl
named-label (bus_of_number j) (dir_node d ns) = refl

named-bones : (c : Name) (n : Node) → is_named c n ≡ label_is c (bone_label (skeleton n))
named-bones c n = named-label c n ∙ ap (label_is c) (label-bones n)

-- ---- the bone with a name

module _ (c : Name) where
  abbrev mutual
    pub bone_has : Skeleton → Bool
    bone_has (leaf_bone number sizes) = label_is c (TreeChild.LeafChild number)
    bone_has (dir_bone bus level sizes bs) = label_is c (TreeChild.BusChild bus) || bone_has_among bs

    pub bone_has_among : Skeletons → Bool
    bone_has_among no_bones = false
    bone_has_among (more_bones b bs) = bone_has b || bone_has_among bs

  abbrev mutual
    pub bone_in : Skeleton → Option Skeleton
    bone_in (leaf_bone number sizes) = if label_is c (TreeChild.LeafChild number) then Some (leaf_bone number sizes) else None
    bone_in (dir_bone bus level sizes bs) = if label_is c (TreeChild.BusChild bus) then Some (dir_bone bus level sizes bs) else bone_among bs

    pub bone_among : Skeletons → Option Skeleton
    bone_among no_bones = None
    bone_among (more_bones b bs) = if bone_has b then bone_in b else bone_among bs

  mutual
    pub has-bones : (n : Node) → has_node c n ≡ bone_has (skeleton n)
    has-bones (leaf_node v) = named-bones c (leaf_node v)
    has-bones (dir_node d ns) = ap (λ b. b || has_among c ns) (named-bones c (dir_node d ns)) ∙ ap (λ b. label_is c (TreeChild.BusChild d.bus) || b) (has-bones_among ns)

    has-bones_among : (ns : Nodes) → has_among c ns ≡ bone_has_among (skeletons ns)
    has-bones_among no_nodes = refl
    has-bones_among (more_nodes n ns) = ap (λ b. b || has_among c ns) (has-bones n) ∙ ap (λ b. bone_has (skeleton n) || b) (has-bones_among ns)

  module _ {A : Type 0} (f : Skeleton → A) (read : Where → Node → A) (free : (w : Where) (n : Node) → read w n ≡ f (skeleton n)) where
    either : (b : Bool) (x : A) (k : Skeleton) (rest : Option A) (o : Option Skeleton) → x ≡ f k → rest ≡ option_map f o → (if b then Some x else rest) ≡ option_map f (if b then Some k else o)
    either true x k rest o here there = ap Some here
    either false x k rest o here there = there

    first : (b : Bool) (x rest : Option A) (p o : Option Skeleton) → x ≡ option_map f p → rest ≡ option_map f o → (if b then x else rest) ≡ option_map f (if b then p else o)
    first true x rest p o here there = here
    first false x rest p o here there = there

    mutual
      pub read-bones : (w : Where) (n : Node) → read_in c read w n ≡ option_map f (bone_in (skeleton n))
      read-bones w (leaf_node v) =
          ap (λ b. if b then Some (read w (leaf_node v)) else None) (named-bones c (leaf_node v))
          ∙ either (label_is c (TreeChild.LeafChild v.number)) (read w (leaf_node v)) (skeleton (leaf_node v)) None None (free w (leaf_node v)) refl
      read-bones w (dir_node d ns) =
          ap (λ b. if b then Some (read w (dir_node d ns)) else read_among c read (where_path w) d 0 ns) (named-bones c (dir_node d ns))
          ∙ either (label_is c (TreeChild.BusChild d.bus)) (read w (dir_node d ns)) (skeleton (dir_node d ns)) (read_among c read (where_path w) d 0 ns) (bone_among (skeletons ns)) (free w (dir_node d ns)) (read-bones_among (where_path w) d 0 ns)

      read-bones_among : (path : List ℕ) (d : DirValue) (i : ℕ) (ns : Nodes) → read_among c read path d i ns ≡ option_map f (bone_among (skeletons ns))
      read-bones_among path d i no_nodes = refl
      read-bones_among path d i (more_nodes n ns) =
          ap (λ b. if b then read_in c read (at_child (spot_in path d i)) n else read_among c read path d (i + 1) ns) (has-bones n)
          ∙ first (bone_has (skeleton n)) (read_in c read (at_child (spot_in path d i)) n) (read_among c read path d (i + 1) ns) (bone_in (skeleton n)) (bone_among (skeletons ns)) (read-bones (at_child (spot_in path d i)) n) (read-bones_among path d (i + 1) ns)

  -- it has that name
  own-either : (b : Bool) (k x : Skeleton) (o : Option Skeleton) → label_is c (bone_label k) ≡ b → (o ≡ Some x → label_is c (bone_label x) ≡ true) → (if b then Some k else o) ≡ Some x → label_is c (bone_label x) ≡ true
  own-either true k x o named rest is = let same : k ≡ x = cc in ap (λ z. label_is c (bone_label z)) (sym same) ∙ named
  own-either false k x o named rest is = rest is

  own-first : (b : Bool) (p o : Option Skeleton) (x : Skeleton) → (p ≡ Some x → label_is c (bone_label x) ≡ true) → (o ≡ Some x → label_is c (bone_label x) ≡ true) → (if b then p else o) ≡ Some x → label_is c (bone_label x) ≡ true
  own-first true p o x here there is = here is
  own-first false p o x here there is = there is

  mutual
    pub bone-named : (b x : Skeleton) → bone_in b ≡ Some x → label_is c (bone_label x) ≡ true
    bone-named (leaf_bone number sizes) x is = own-either (label_is c (TreeChild.LeafChild number)) (leaf_bone number sizes) x None refl (λ none. cc) is
    bone-named (dir_bone bus level sizes bs) x is = own-either (label_is c (TreeChild.BusChild bus)) (dir_bone bus level sizes bs) x (bone_among bs) refl (bone-named_among bs x) is

    bone-named_among : (bs : Skeletons) (x : Skeleton) → bone_among bs ≡ Some x → label_is c (bone_label x) ≡ true
    bone-named_among no_bones x is = cc
    bone-named_among (more_bones b bs) x is = own-first (bone_has b) (bone_in b) (bone_among bs) x (bone-named b x) (bone-named_among bs x) is

-- what it has, the whole has
module _ (c e : Name) where
  or-later : (a b : Bool) → b ≡ true → (a || b) ≡ true
  or-later true b is = refl
  or-later false b is = is

  or-sooner : (a b : Bool) → a ≡ true → (a || b) ≡ true
  or-sooner true b is = refl
  or-sooner false b is = cc

  part-either : (b : Bool) (k x : Skeleton) (o : Option Skeleton) → bone_has e x ≡ true → (o ≡ Some x → bone_has e k ≡ true) → (if b then Some k else o) ≡ Some x → bone_has e k ≡ true
  part-either true k x o has rest is = let same : k ≡ x = cc in ap (bone_has e) same ∙ has
  part-either false k x o has rest is = rest is

  part-first : (b : Bool) (p o : Option Skeleton) (x k : Skeleton) (ks : Skeletons) → (p ≡ Some x → bone_has e k ≡ true) → (o ≡ Some x → bone_has_among e ks ≡ true) → (if b then p else o) ≡ Some x → (bone_has e k || bone_has_among e ks) ≡ true
  part-first true p o x k ks here there is = or-sooner (bone_has e k) (bone_has_among e ks) (here is)
  part-first false p o x k ks here there is = or-later (bone_has e k) (bone_has_among e ks) (there is)

  mutual
    pub bone-part : (b x : Skeleton) → bone_in c b ≡ Some x → bone_has e x ≡ true → bone_has e b ≡ true
    bone-part (leaf_bone number sizes) x is has = part-either (label_is c (TreeChild.LeafChild number)) (leaf_bone number sizes) x None has (λ none. cc) is
    bone-part (dir_bone bus level sizes bs) x is has =
        part-either (label_is c (TreeChild.BusChild bus)) (dir_bone bus level sizes bs) x (bone_among c bs) has (λ there. or-later (label_is e (TreeChild.BusChild bus)) (bone_has_among e bs) (bone-part_among bs x there has)) is

    bone-part_among : (bs : Skeletons) (x : Skeleton) → bone_among c bs ≡ Some x → bone_has e x ≡ true → bone_has_among e bs ≡ true
    bone-part_among no_bones x is has = cc
    bone-part_among (more_bones b bs) x is has = part-first (bone_has c b) (bone_in c b) (bone_among c bs) x b bs (λ here. bone-part b x here has) (λ there. bone-part_among bs x there has) is

-- ---- the children of a bus

abbrev labels_among : Skeletons → List TreeChild
labels_among no_bones = []
labels_among (more_bones b bs) = bone_label b ∷ labels_among bs

abbrev bone_labels : Skeleton → List TreeChild
bone_labels (leaf_bone number sizes) = []
bone_labels (dir_bone bus level sizes bs) = labels_among bs

labels-bones : (ns : Nodes) → map child_label (children ns) ≡ labels_among (skeletons ns)
labels-bones no_nodes = refl
labels-bones (more_nodes n ns) = ap (λ c. c ∷ map child_label (children ns)) (label-bones n) ∙ ap (λ cs. bone_label (skeleton n) ∷ cs) (labels-bones ns)

labels-free : (w : Where) (n : Node) → of_dir (λ w d ns. map child_label ns) [] w n ≡ bone_labels (skeleton n)
labels-free w (leaf_node v) = refl
labels-free w (dir_node d ns) = labels-bones ns

-- a machine's node with a name, as a bone
abbrev pub bone_of : Name → MachineValue → Option Skeleton
bone_of c m = bone_in c (skeleton (root_of m))

pub labels-are : (b : ℕ) (m : MachineValue) → labels_of b m ≡ unwrap_or (option_map bone_labels (bone_of (bus_of_number b) m)) []
labels-are b m = ap (λ o. unwrap_or o []) (read-bones (bus_of_number b) bone_labels (of_dir (λ w d ns. map child_label ns) []) labels-free at_top (root_of m))

kids-counted : (ns : Nodes) → length (children ns) ≡ length (labels_among (skeletons ns))
kids-counted no_nodes = refl
kids-counted (more_nodes n ns) = ap suc (kids-counted ns)

count-free : (w : Where) (n : Node) → of_dir (λ w d ns. length ns) 0 w n ≡ length (bone_labels (skeleton n))
count-free w (leaf_node v) = refl
count-free w (dir_node d ns) = kids-counted ns

count-are : (b : ℕ) (m : MachineValue) → child_count b m ≡ option_map (λ k. length (bone_labels k)) (bone_of (bus_of_number b) m)
count-are b m = read-bones (bus_of_number b) (λ k. length (bone_labels k)) (of_dir (λ w d ns. length ns) 0) count-free at_top (root_of m)

-- as many as are counted
pub labels-counted : (b count : ℕ) (m : MachineValue) → Some count ≡ child_count b m → length (labels_of b m) ≡ count
labels-counted b count m is = ap length (labels-are b m) ∙ by_bone (bone_of (bus_of_number b) m) (is ∙ count-are b m) where
  by_bone : (o : Option Skeleton) → Some count ≡ option_map (λ k. length (bone_labels k)) o → length (unwrap_or (option_map bone_labels o) []) ≡ count
  by_bone None same = cc
  by_bone (Some k) same = cc

-- the child of a number is the one at that place
abbrev bone_child : ℕ → Skeleton → TreeChild
bone_child i (leaf_bone number sizes) = TreeChild.BusChild 0
bone_child i (dir_bone bus level sizes bs) = slice_index_or (labels_among bs) i (child_label (child_at i []))

child-among : (i : ℕ) (ns : Nodes) → child_label (child_at i (children ns)) ≡ slice_index_or (labels_among (skeletons ns)) i (child_label (child_at i []))
child-among i no_nodes = refl
child-among zero (more_nodes n ns) = label-bones n
child-among (suc i) (more_nodes n ns) = child-among i ns

child-free : (i : ℕ) (w : Where) (n : Node) → of_dir (λ w d ns. child_label (child_at i ns)) (TreeChild.BusChild 0) w n ≡ bone_child i (skeleton n)
child-free i w (leaf_node v) = refl
child-free i w (dir_node d ns) = child-among i ns

there-at : (cs : List TreeChild) (i : ℕ) (other : TreeChild) → i < length cs → slice_get cs i ≡ Some (slice_index_or cs i other)
there-at [] i other l = absurd (omega (arith, l))
there-at (c ∷ cs) zero other l = refl
there-at (c ∷ cs) (suc i) other l = there-at cs i other (omega (arith, l))

pub child-there : (b i : ℕ) (c : TreeChild) (m : MachineValue) → i < length (labels_of b m) → Some c ≡ child_of b i m → slice_get (labels_of b m) i ≡ Some c
child-there b i c m below is =
    ap (λ cs. slice_get cs i) (labels-are b m)
    ∙ by_bone (bone_of (bus_of_number b) m) (subst (λ cs. i < length cs) (labels-are b m) below) (is ∙ read-bones (bus_of_number b) (bone_child i) (of_dir (λ w d ns. child_label (child_at i ns)) (TreeChild.BusChild 0)) (child-free i) at_top (root_of m)) where
      by_bone : (o : Option Skeleton) → i < length (unwrap_or (option_map bone_labels o) []) → Some c ≡ option_map (bone_child i) o → slice_get (unwrap_or (option_map bone_labels o) []) i ≡ Some c
      by_bone None l same = cc
      by_bone (Some (leaf_bone number sizes)) l same = absurd (omega (arith, l))
      by_bone (Some (dir_bone bus level sizes bs)) l same = there-at (labels_among bs) i (child_label (child_at i [])) l ∙ sym same

own-has : (e : Name) (b : Skeleton) → label_is e (bone_label b) ≡ true → bone_has e b ≡ true
own-has e (leaf_bone number sizes) named = named
own-has e (dir_bone bus level sizes bs) named = or-sooner e e (label_is e (TreeChild.BusChild bus)) (bone_has_among e bs) named

-- a child of a bus is a part of the machine
label-has : (e : Name) (bs : Skeletons) (i : ℕ) (c : TreeChild) → slice_get (labels_among bs) i ≡ Some c → label_is e c ≡ true → bone_has_among e bs ≡ true
label-has e no_bones i c is named = cc
label-has e (more_bones b bs) zero c is named =
    let same : bone_label b ≡ c = cc in
    or-sooner e e (bone_has e b) (bone_has_among e bs) (own-has e b (ap (label_is e) same ∙ named))
label-has e (more_bones b bs) (suc i) c is named = or-later e e (bone_has e b) (bone_has_among e bs) (label-has e bs i c is named)

pub child-part : (b i : ℕ) (c : TreeChild) (e : Name) (m : MachineValue) → slice_get (labels_of b m) i ≡ Some c → label_is e c ≡ true → has_node e (root_of m) ≡ true
child-part b i c e m is named =
    has-bones e (root_of m) ∙ by_bone (bone_of (bus_of_number b) m) refl (sym (ap (λ cs. slice_get cs i) (labels-are b m)) ∙ is) where
      by_bone : (o : Option Skeleton) → bone_of (bus_of_number b) m ≡ o → slice_get (unwrap_or (option_map bone_labels o) []) i ≡ Some c → bone_has e (skeleton (root_of m)) ≡ true
      by_bone None at same = cc
      by_bone (Some (leaf_bone number sizes)) at same = cc
      by_bone (Some (dir_bone bus level sizes bs)) at same =
          bone-part (bus_of_number b) e (skeleton (root_of m)) (dir_bone bus level sizes bs) at (or-later e e (label_is e (TreeChild.BusChild bus)) (bone_has_among e bs) (label-has e bs i c same named))

-- ---- which nodes are near a turn

unfoldable pub nearby : Name → Turn → MachineValue → Bool
nearby c (Turn.Hart hart victim) m = label_is c (TreeChild.LeafChild hart)
nearby c (Turn.Down bus) m = label_is c (TreeChild.BusChild bus) || list_any (label_is c) (labels_of bus m)
nearby c (Turn.Request bus child) m = label_is c (TreeChild.BusChild bus) || list_any (label_is c) (labels_of bus m)
nearby c (Turn.Reply bus child) m = label_is c (TreeChild.BusChild bus) || list_any (label_is c) (labels_of bus m)
nearby c (Turn.Leave bus child choice) m = label_is c (TreeChild.BusChild bus) || list_any (label_is c) (labels_of bus m)

module _ (c : Name) where
  abbrev bone_near : Skeleton → Bool
  bone_near (leaf_bone number sizes) = label_is c (TreeChild.LeafChild number)
  bone_near (dir_bone bus level sizes bs) = label_is c (TreeChild.BusChild bus) || list_any (label_is c) (labels_among bs)

  any-label : (ns : List Node) → list_any (is_named c) ns ≡ list_any (label_is c) (map child_label ns)
  any-label [] = refl
  any-label (n ∷ ns) = ap (λ b. b || list_any (is_named c) ns) (named-label c n) ∙ ap (λ b. label_is c (child_label n) || b) (any-label ns)

  near-free : (w : Where) (n : Node) → names_near c n ≡ bone_near (skeleton n)
  near-free w (leaf_node v) = named-bones c (leaf_node v)
  near-free w (dir_node d ns) =
      ap (λ b. b || list_any (is_named c) (children ns)) (named-bones c (dir_node d ns)) ∙ ap (λ b. label_is c (TreeChild.BusChild d.bus) || b) (any-label (children ns) ∙ ap (list_any (label_is c)) (labels-bones ns))

  near-is : (e : Name) (m : MachineValue) → read_in e (λ w n. names_near c n) at_top (root_of m) ≡ option_map bone_near (bone_of e m)
  near-is e m = read-bones e bone_near (λ w n. names_near c n) near-free at_top (root_of m)

  -- of a bus
  bus-far : (b : ℕ) (m : MachineValue) (labels : List TreeChild) → labels ≡ labels_of b m → (label_is c (TreeChild.BusChild b) || list_any (label_is c) labels) ≡ false
      → unwrap_or (read_in (bus_of_number b) (λ w n. names_near c n) at_top (root_of m)) false ≡ false
  bus-far b m labels same far = ap (λ o. unwrap_or o false) (near-is (bus_of_number b) m) ∙ by_bone (bone_of (bus_of_number b) m) refl where
    by_bone : (o : Option Skeleton) → bone_of (bus_of_number b) m ≡ o → unwrap_or (option_map bone_near o) false ≡ false
    by_bone None at = refl
    by_bone (Some (leaf_bone number sizes)) at = let wrong = bone-named (bus_of_number b) (skeleton (root_of m)) (leaf_bone number sizes) at in cc
    by_bone (Some (dir_bone bus level sizes bs)) at =
        let own : bus ≡ b = eqb-true bus b (bone-named (bus_of_number b) (skeleton (root_of m)) (dir_bone bus level sizes bs) at) in
        let these : labels ≡ labels_among bs = same ∙ labels-are b m ∙ ap (λ p. unwrap_or (option_map bone_labels p) []) at in
        ap (λ n. label_is c (TreeChild.BusChild n) || list_any (label_is c) (labels_among bs)) own ∙ ap (λ cs. label_is c (TreeChild.BusChild b) || list_any (label_is c) cs) (sym these) ∙ far

  -- and of a leaf
  leaf-far : (h : ℕ) (m : MachineValue) → label_is c (TreeChild.LeafChild h) ≡ false → unwrap_or (read_in (leaf_of_number h) (λ w n. names_near c n) at_top (root_of m)) false ≡ false
  leaf-far h m far = ap (λ o. unwrap_or o false) (near-is (leaf_of_number h) m) ∙ by_bone (bone_of (leaf_of_number h) m) refl where
    by_bone : (o : Option Skeleton) → bone_of (leaf_of_number h) m ≡ o → unwrap_or (option_map bone_near o) false ≡ false
    by_bone None at = refl
    by_bone (Some (leaf_bone number sizes)) at =
        let own : number ≡ h = eqb-true number h (bone-named (leaf_of_number h) (skeleton (root_of m)) (leaf_bone number sizes) at) in
        ap (λ n. label_is c (TreeChild.LeafChild n)) own ∙ far
    by_bone (Some (dir_bone bus level sizes bs)) at = let wrong = bone-named (leaf_of_number h) (skeleton (root_of m)) (dir_bone bus level sizes bs) at in cc

-- machines of one skeleton have the same children
pub same-labels : (b : ℕ) (m n : MachineValue) → skeleton (root_of m) ≡ skeleton (root_of n) → labels_of b m ≡ labels_of b n
same-labels b m n same = labels-are b m ∙ ap (λ s. unwrap_or (option_map bone_labels (bone_in (bus_of_number b) s)) []) same ∙ sym (labels-are b n)

-- what isn't near the turn as the machine after it has it wasn't before
pub far-before : (c : Name) (t : Turn) (m k : MachineValue) → skeleton (root_of k) ≡ skeleton (root_of m) → nearby c t k ≡ false → is_near c t m ≡ false
unfolding nearby
far-before c (Turn.Hart hart victim) m k same far = leaf-far c hart m far
far-before c (Turn.Down bus) m k same far = bus-far c bus m (labels_of bus k) (same-labels bus k m same) far
far-before c (Turn.Request bus child) m k same far = bus-far c bus m (labels_of bus k) (same-labels bus k m same) far
far-before c (Turn.Reply bus child) m k same far = bus-far c bus m (labels_of bus k) (same-labels bus k m same) far
far-before c (Turn.Leave bus child choice) m k same far = bus-far c bus m (labels_of bus k) (same-labels bus k m same) far
