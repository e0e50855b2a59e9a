-- Two trees of one skeleton: their leaves have the same numbers and sizes one by one, and so have their directories by their numbers.
-- Letters: n and p are nodes, ns and ps are nodes in a row.
use Rattle.std.specs.Prelude.{◌≡◌, ℕ, ◌+◌, Bool, true, false, nat_eq, ◌||◌, List, [], ◌∷◌, length, Option, Some, None, option_map, slice_index_or, refl, if◌then◌else◌}
use Rattle.std.proofs.Common.{ap, sym, ◌∙◌, arith}
use Rattle.spelling_laws.specs.TreeModel.State.Values.{LeafValue, DirValue, DirSizes, Node, Nodes, leaf_node, dir_node, no_nodes, more_nodes, children}
use Rattle.spelling_laws.specs.TreeModel.State.Place.{Where, at_top, at_child, where_path, spot_in}
use Rattle.spelling_laws.specs.TreeModel.State.Shape.{Skeleton, Skeletons, leaf_bone, dir_bone, no_bones, more_bones, skeleton, skeletons, bone_count}
use Rattle.spelling_laws.specs.TreeModel.Turns.Tree.{bus_of_number, has_node, has_among, of_dir, read_in, read_among}
use Rattle.spelling_laws.specs.TreeModel.Turns.Machine.{leaves_of, leaves_among}
use Rattle.spelling_laws.specs.StateReading.Machine.{refilled, refilled_among}
use Rattle.spelling_laws.proofs.ByNumber.{AllParts, AllPartsAmong}
use Rattle.spelling_laws.proofs.Refilled.{DirOver}

-- ---- leaves, one by one

abbrev pub Framed : List LeafValue → List LeafValue → Type 0
Framed [] [] = Unit {0}
Framed [] (v ∷ vs) = ⊥
Framed (u ∷ us) [] = ⊥
Framed (u ∷ us) (v ∷ vs) = (v.number ≡ u.number) × (v.sizes ≡ u.sizes) × Framed us vs

mutual
  pub leaves-framed : (n p : Node) (us vs : List LeafValue) → skeleton p ≡ skeleton n → Framed us vs → Framed (leaves_of n us) (leaves_of p vs)
  leaves-framed (leaf_node u) (leaf_node v) us vs e more = ((cc), (cc), more)
  leaves-framed (leaf_node u) (dir_node d ps) us vs e more = cc
  leaves-framed (dir_node d ns) (leaf_node v) us vs e more = cc
  leaves-framed (dir_node d ns) (dir_node f ps) us vs e more = leaves-framed_among ns ps us vs (cc) more

  pub leaves-framed_among : (ns ps : Nodes) (us vs : List LeafValue) → skeletons ps ≡ skeletons ns → Framed us vs → Framed (leaves_among ns us) (leaves_among ps vs)
  leaves-framed_among no_nodes no_nodes us vs e more = more
  leaves-framed_among no_nodes (more_nodes p ps) us vs e more = cc
  leaves-framed_among (more_nodes n ns) no_nodes us vs e more = cc
  leaves-framed_among (more_nodes n ns) (more_nodes p ps) us vs e more = leaves-framed n p (leaves_among ns us) (leaves_among ps vs) (cc) (leaves-framed_among ns ps us vs (cc) more)

-- ---- directories, by number

-- what no turn changes of a directory, and how many children it has
pub record Face : Type 0 where
  pub bus : ℕ
  pub level : ℕ
  pub sizes : DirSizes
  pub kids : ℕ

abbrev pub face_of : DirOver → Face
face_of o = record { bus = o.0.bus; level = o.0.level; sizes = o.0.sizes; kids = o.1 }

module _ (k : ℕ) where
  abbrev mutual
    bone_has : Skeleton → Bool
    bone_has (leaf_bone number sizes) = false
    bone_has (dir_bone bus level sizes bones) = nat_eq bus k || bones_have bones

    bones_have : Skeletons → Bool
    bones_have no_bones = false
    bones_have (more_bones b bs) = bone_has b || bones_have bs

  abbrev mutual
    bone_face : Skeleton → Option Face
    bone_face (leaf_bone number sizes) = None
    bone_face (dir_bone bus level sizes bones) = if nat_eq bus k then Some (record { bus = bus; level = level; sizes = sizes; kids = bone_count bones }) else bones_face bones

    bones_face : Skeletons → Option Face
    bones_face no_bones = None
    bones_face (more_bones b bs) = if bone_has b then bone_face b else bones_face bs

  mutual
    has-bone : (n : Node) → has_node (bus_of_number k) n ≡ bone_has (skeleton n)
    has-bone (leaf_node v) = refl
    has-bone (dir_node d ns) = ap (λ b. nat_eq d.bus k || b) (have-bones ns)

    have-bones : (ns : Nodes) → has_among (bus_of_number k) ns ≡ bones_have (skeletons ns)
    have-bones no_nodes = refl
    have-bones (more_nodes n ns) = ap (λ b. b || has_among (bus_of_number k) ns) (has-bone n) ∙ ap (λ b. bone_has (skeleton n) || b) (have-bones ns)

  pub kids-counted : (ns : Nodes) → length (children ns) ≡ bone_count (skeletons ns)
  kids-counted no_nodes = refl
  kids-counted (more_nodes n ns) = omega (arith, kids-counted ns)

  abbrev asked : DirOver → Where → Node → DirOver
  asked other = of_dir (λ w d ns. (d, length ns)) other

  mutual
    face-asked : (other : DirOver) (w : Where) (n : Node) → option_map face_of (read_in (bus_of_number k) (asked other) w n) ≡ bone_face (skeleton n)
    face-asked other w (leaf_node v) = refl
    face-asked other w (dir_node d ns) =
        elim (nat_eq d.bus k) as (λ b. option_map face_of (if b then Some (d, length (children ns)) else read_among (bus_of_number k) (asked other) (where_path w) d 0 ns)
        ≡ (if b then Some (record { bus = d.bus; level = d.level; sizes = d.sizes; kids = bone_count (skeletons ns) }) else bones_face (skeletons ns))) [
          | true ↦ ap (λ c. Some (record { bus = d.bus; level = d.level; sizes = d.sizes; kids = c })) (kids-counted ns)
          | false ↦ face-asked_among other (where_path w) d 0 ns
        ]

    face-asked_among : (other : DirOver) (path : List ℕ) (d : DirValue) (i : ℕ) (ns : Nodes) → option_map face_of (read_among (bus_of_number k) (asked other) path d i ns) ≡ bones_face (skeletons ns)
    face-asked_among other path d i no_nodes = refl
    face-asked_among other path d i (more_nodes n ns) =
        ap (λ b. option_map face_of (if b then read_in (bus_of_number k) (asked other) (at_child (spot_in path d i)) n else read_among (bus_of_number k) (asked other) path d (i + 1) ns)) (has-bone n)
        ∙ (elim (bone_has (skeleton n)) as (λ b. option_map face_of (if b then read_in (bus_of_number k) (asked other) (at_child (spot_in path d i)) n else read_among (bus_of_number k) (asked other) path d (i + 1) ns)
        ≡ (if b then bone_face (skeleton n) else bones_face (skeletons ns))) [
          | true ↦ face-asked other (at_child (spot_in path d i)) n
          | false ↦ face-asked_among other path d (i + 1) ns
        ])

  -- the same in trees of one skeleton
  pub faces-same : (n p : Node) (other another : DirOver) → skeleton p ≡ skeleton n → option_map face_of (read_in (bus_of_number k) (asked other) at_top p) ≡ option_map face_of (read_in (bus_of_number k) (asked another) at_top n)
  faces-same n p other another e = face-asked other at_top p ∙ ap bone_face e ∙ sym (face-asked another at_top n)

-- ---- a tree filled with the parts of another one

module _ (leaves : List LeafValue) (dirs : List DirValue) where
  -- it is put in at its number
  abbrev pub LeafPut : LeafValue → Type 0
  LeafPut v = (d : LeafValue) → slice_index_or leaves v.number d ≡ v

  abbrev pub DirPut : DirOver → Type 0
  DirPut o = (d : DirValue) → slice_index_or dirs o.0.bus d ≡ o.0

  mutual
    pub filled-back : (n p : Node) → skeleton p ≡ skeleton n → AllParts LeafPut DirPut p → refilled leaves dirs n ≡ p
    filled-back (leaf_node u) (leaf_node v) e put =
        let same : u.number ≡ v.number = cc in
        ap (λ w. leaf_node w) (ap (λ k. slice_index_or leaves k u) same ∙ put u)
    filled-back (leaf_node u) (dir_node d ps) e put = cc
    filled-back (dir_node d ns) (leaf_node v) e put = cc
    filled-back (dir_node d ns) (dir_node f ps) e put =
        let same : d.bus ≡ f.bus = cc in
        let below = filled-back_among ns ps (cc) put.1 in
        ap (λ g. dir_node g (refilled_among leaves dirs ns)) (ap (λ k. slice_index_or dirs k d) same ∙ put.0 d) ∙ ap (dir_node f) below

    pub filled-back_among : (ns ps : Nodes) → skeletons ps ≡ skeletons ns → AllPartsAmong LeafPut DirPut ps → refilled_among leaves dirs ns ≡ ps
    filled-back_among no_nodes no_nodes e put = refl
    filled-back_among no_nodes (more_nodes p ps) e put = cc
    filled-back_among (more_nodes n ns) no_nodes e put = cc
    filled-back_among (more_nodes n ns) (more_nodes p ps) e put =
        ap (λ q. more_nodes q (refilled_among leaves dirs ns)) (filled-back n p (cc) put.0) ∙ ap (more_nodes p) (filled-back_among ns ps (cc) put.1)
