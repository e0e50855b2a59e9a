-- A section is read into the node at the end of a path: at the node itself, at one child of a directory, and one step further up.
use Rattle.std.proofs.Common.{◌≡◌, ◌<◌, ℕ, true, List, [], ◌∷◌, length, map, get_or, drop, refl, sym, ap, ◌∙◌, arith}
use Rattle.std.specs.Prelude.{slice_set, Result, Ok, Err}
use Rattle.std.proofs.lemmas.List.{get_or-map, length-map}
use Rattle.ddm_tree.specs.TreeModel.State.Blank.{no_node}
use Rattle.ddm_tree.specs.TreeModel.State.Shape.{skeleton, widths_fit}
use Rattle.ddm_tree.specs.TreeModel.State.Values.{LeafValue, DirValue, Node, leaf_node, dir_node, nodes, children}
use Rattle.ddm_tree.specs.TreeModel.Turns.Children.{child_at}
use Rattle.ddm_tree.specs.TreeModel.Turns.Tree.{Name}
use Rattle.ddm_tree.proofs.TreeModel.Children.{children-nodes}
use Rattle.ddm_tree.specs.StateReading.declared.StateRefusal.{StateRefusal}
use Rattle.ddm_tree.specs.StateReading.Gives.{IsRead}
use Rattle.ddm_tree.specs.StateReading.Reading.{Read, and_then, given}
use Rattle.ddm_tree.specs.StateReading.Parts.{read_hart, read_leaf, read_dir}
use Rattle.ddm_tree.specs.declared.section.Section.{Section}
use Rattle.ddm_tree.specs.Path.{put_at}
use Rattle.ddm_tree.specs.ReadBack.{ChildRead, PartRead, node_read, section_name}
use Rattle.ddm_tree.specs.Ready.{Leads}
use Rattle.ddm_tree.proofs.Along.{some_if-same}
use Rattle.ddm_tree.proofs.Steps.{kids-fit, leaf-on, node-down, put-down, set-child, step-inside}

-- ---- at a leaf

pub leaf-ends : (name : Name) (path : List ℕ) (v : LeafValue) → Leads name path (leaf_node v) → path ≡ []
leaf-ends name path v leads = sym (some_if-same _ path leads)

abbrev to_leaf : LeafValue → ℕ → List ℕ → Result (Read Node) StateRefusal
to_leaf v k ws = given (leaf_node v) k ws

module _ (leaf : ℕ) (path words : List ℕ) (from : ℕ) (old new : LeafValue) (own : path ≡ []) where
  pub hart-put : (r : Result ℕ StateRefusal) → IsRead (read_hart old from (drop from words)) words new r → PartRead (Section.Hart leaf) path words from (leaf_node old) (leaf_node new) r
  hart-put (Ok at) is = rw own (record { node = leaf_node new; read = ap (λ r. and_then r to_leaf) is; put = refl })
  hart-put (Err e) is = rw own (ap (λ r. and_then r to_leaf) is)

  pub rest-put : (r : Result ℕ StateRefusal) → IsRead (read_leaf (length old.ways) old from (drop from words)) words new r → PartRead (Section.Leaf leaf) path words from (leaf_node old) (leaf_node new) r
  rest-put (Ok at) is = rw own (record { node = leaf_node new; read = ap (λ r. and_then r to_leaf) is; put = refl })
  rest-put (Err e) is = rw own (ap (λ r. and_then r to_leaf) is)

pub none-put : (bus : ℕ) (path words : List ℕ) (from : ℕ) (v : LeafValue) → path ≡ [] → PartRead (Section.Bus bus) path words from (leaf_node v) (leaf_node v) (Ok from)
none-put bus path words from v own = rw own (record { node = leaf_node v; read = refl; put = refl })

-- ---- at the directory over a bus

module _ {A : Type 0} (f : A → Node) (xs : List A) (path words : List ℕ) (from : ℕ) (old new : DirValue) (own : path ≡ []) where
  kids-counted : length (children (nodes (map f xs))) ≡ length xs
  kids-counted = ap length (children-nodes (map f xs)) ∙ length-map xs f

  abbrev to_dir : DirValue → ℕ → List ℕ → Result (Read Node) StateRefusal
  to_dir d k ws = given (dir_node d (nodes (map f xs))) k ws

  bus-put : (bus kids : ℕ) → kids ≡ length xs → (r : Result ℕ StateRefusal) → IsRead (read_dir (length old.items) kids old from (drop from words)) words new r → PartRead (Section.Bus bus) path words from (dir_node old (nodes (map f xs))) (dir_node new (nodes (map f xs))) r
  bus-put bus kids count (Ok at) is =
      let whole : kids ≡ length (children (nodes (map f xs))) = count ∙ sym kids-counted in
      rw own (record { node = dir_node new (nodes (map f xs)); read = ap (λ r. and_then r to_dir) (rw whole at is); put = refl })
  bus-put bus kids count (Err e) is =
      let whole : kids ≡ length (children (nodes (map f xs))) = count ∙ sym kids-counted in
      rw own (ap (λ r. and_then r to_dir) (rw whole at is))

  -- only a bus is at the end of no path
  pub own-put : (section : Section) (kids : ℕ) → kids ≡ length xs → Leads (section_name section) path (dir_node old (nodes (map f xs))) → (r : Result ℕ StateRefusal) → IsRead (read_dir (length old.items) kids old from (drop from words)) words new r → PartRead section path words from (dir_node old (nodes (map f xs))) (dir_node new (nodes (map f xs))) r
  own-put (Section.Hart leaf) kids count leads r is = absurd (omega (arith, leaf-on leaf path old (map f xs) leads, ap length own))
  own-put (Section.Leaf leaf) kids count leads r is = absurd (omega (arith, leaf-on leaf path old (map f xs) leads, ap length own))
  own-put (Section.Bus bus) kids count leads r is = bus-put bus kids count r is

-- ---- at one child

module _ {A : Type 0} (f : A → Node) (xs : List A) (c i : ℕ) (x y : A) (same : i ≡ c) (within : c < length xs) (section : Section) (path words : List ℕ) (from : ℕ) where
  was : f (get_or xs i x) ≡ child_at c (map f xs)
  was = rw same (sym (get_or-map f xs c x no_node within))

  pub child-read : (r : Result ℕ StateRefusal) → PartRead section path words from (f (get_or xs i x)) (f y) r → ChildRead section c path words from (map f xs) (map f (slice_set xs i y)) r
  child-read (Ok at) is = (is.node, rw was at is.read, set-child f xs c i (λ n. put_at path is.node n) x y same within is.put)
  child-read (Err e) is = rw was at is

-- ---- one step further up

module _ {A : Type 0} (f : A → Node) (d : DirValue) (xs : List A) (section : Section) (path : List ℕ) (i : ℕ) (rest : List ℕ) (on : path ≡ i ∷ rest) (leads : Leads (section_name section) path (dir_node d (nodes (map f xs)))) where
  pub kid-fits : widths_fit (skeleton (dir_node d (nodes (map f xs)))) ≡ true → widths_fit (skeleton (child_at i (map f xs))) ≡ true
  kid-fits fit = kids-fit f d xs fit i no_node (omega (arith, step-inside f d xs (section_name section) path i rest on leads, length-map xs f))

  pub under-read : (words : List ℕ) (from : ℕ) (kids : List Node) (r : Result ℕ StateRefusal) → ChildRead section i rest words from (map f xs) kids r → PartRead section path words from (dir_node d (nodes (map f xs))) (dir_node d (nodes kids)) r
  under-read words from kids (Ok at) is = record {
    node = is.0;
    read = ap (λ n. node_read section n from (drop from words)) (node-down f d xs (section_name section) path i rest on leads) ∙ is.1;
    put = ap (λ ms. dir_node d (nodes ms)) is.2 ∙ put-down f d xs (section_name section) path i rest on leads is.0;
  }
  under-read words from kids (Err e) is = ap (λ n. node_read section n from (drop from words)) (node-down f d xs (section_name section) path i rest on leads) ∙ is
