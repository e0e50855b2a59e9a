-- Reading a section of each leaf in order of number: what is read so far, and the tree with it at its places.
-- Letters: m is the machine before, now after some leaves, us are the leaves that were read.
use Rattle.std.proofs.Common.{◌≡◌, ◌<◌, ◌≤◌, ℕ, zero, suc, ◌+◌, ◌++◌, Bool, true, false, List, [], ◌∷◌, length, map, drop, Some, refl, sym, ap, ◌∙◌, subst, arith, true≢false, add-one}
use Rattle.std.specs.Prelude.{slice_get, slice_index_or, Result, Ok, Err}
use Rattle.std.proofs.lemmas.Bool.{eqb-true, eq-eqb}
use Rattle.std.proofs.lemmas.List.{append_assoc, append-nil, length_push, drop_all}
use Rattle.ddm_tree.specs.DdmTypes.ItemTable.{item_count}
use Rattle.ddm_tree.specs.TreeModel.State.Values.{LeafValue, DirValue, Node, Nodes, leaf_node, dir_node, no_nodes, more_nodes, MachineValue, root_of}
use Rattle.ddm_tree.specs.TreeModel.State.Place.{Where, at_top}
use Rattle.ddm_tree.specs.TreeModel.State.Rooms.{all_within}
use Rattle.ddm_tree.specs.TreeModel.State.Shape.{IsShaped, frame_of, skeleton}
use Rattle.ddm_tree.specs.TreeModel.Turns.Machine.{machine_leaves, with_root}
use Rattle.ddm_tree.specs.TreeModel.Turns.Tree.{leaf_of_number, is_named, of_leaf}
use Rattle.ddm_tree.specs.StateReading.declared.StateRefusal.{StateRefusal}
use Rattle.ddm_tree.specs.StateReading.Reading.{Read, and_then, given}
use Rattle.ddm_tree.specs.StateReading.Machine.{read_each, refilled, refilled_among}
use Rattle.state_judging.specs.Read.{CanRead}
use Rattle.state_judging.proofs.Inverted.{and_then-ok}
use Rattle.ddm_tree.specs.declared.section.Section.{Section}
use Rattle.ddm_tree.specs.Parts.{LeavesRead, SectionRead, SectionRefused, leaf_read, leaf_section}
use Rattle.ddm_tree.specs.Path.{node_at, path_to, put_at}
use Rattle.ddm_tree.specs.ReadBack.{node_read, section_name}
use Rattle.ddm_tree.specs.Ready.{Leads}
use Rattle.ddm_tree.proofs.Along.{where_end}
use Rattle.ddm_tree.proofs.LeafList.{leaf-listed, leaf-number}
use Rattle.ddm_tree.proofs.NamedOnce.{leaf-once}
use Rattle.ddm_tree.proofs.PartsKept.{section-bones}
use Rattle.ddm_tree.proofs.Reading.{named-there, read-is}
use Rattle.ddm_tree.proofs.Refilled.{dir_by_bus, leaf_by_number, mapped, mapped-at, put-mapped, refilled-mapped}

-- ---- lists

get-some : {X : Type 0} (xs : List X) (k : ℕ) → k < length xs → (x : X) × (slice_get xs k ≡ Some x) × (drop k xs ≡ x ∷ drop (suc k) xs)
get-some [] k l = absurd (omega (arith, l))
get-some (x ∷ xs) zero l = (x, refl, refl)
get-some (x ∷ xs) (suc k) l = get-some xs k (omega (arith, l))

map-same : {X : Type 0} (xs : List X) → map (λ (x : X). x) xs ≡ xs
map-same [] = refl
map-same (x ∷ xs) = ap (λ ys. x ∷ ys) (map-same xs)

beyond : {X : Type 0} (xs : List X) (k : ℕ) (d : X) → length xs ≤ k → slice_index_or xs k d ≡ d
beyond [] k d l = refl
beyond (x ∷ xs) zero d l = absurd (omega (arith, l))
beyond (x ∷ xs) (suc k) d l = beyond xs k d (omega (arith, l))

pushed-here : {X : Type 0} (xs : List X) (x : X) (k : ℕ) (d : X) → k ≡ length xs → slice_index_or (xs ++ x ∷ []) k d ≡ x
pushed-here [] x zero d e = refl
pushed-here [] x (suc k) d e = absurd (omega (arith, e))
pushed-here (y ∷ xs) x zero d e = absurd (omega (arith, e))
pushed-here (y ∷ xs) x (suc k) d e = pushed-here xs x k d (omega (arith, e))

pushed-other : {X : Type 0} (xs : List X) (x : X) (k : ℕ) (d : X) → (k ≡ length xs → ⊥) → slice_index_or xs k d ≡ slice_index_or (xs ++ x ∷ []) k d
pushed-other [] x zero d e = absurd (e refl)
pushed-other [] x (suc k) d e = refl
pushed-other (y ∷ xs) x zero d e = refl
pushed-other (y ∷ xs) x (suc k) d e = pushed-other xs x k d (λ same. e (ap suc same))

-- ---- readings one after the other, behind those that were read

module _ {A B : Type 0} (read : A → ℕ → List ℕ → Result (Read B) StateRefusal) where
  unfoldable pub each_behind : List B → List A → ℕ → List ℕ → Result (Read (List B)) StateRefusal
  each_behind before xs k ws = and_then (read_each read xs k ws) (λ more k ws. given (before ++ more) k ws)

  alone : (r : Result (Read (List B)) StateRefusal) → r ≡ and_then r (λ more k ws. given ([] ++ more) k ws)
  alone (Ok r) = refl
  alone (Err e) = refl

  pub each-begun : (xs : List A) (k : ℕ) (ws : List ℕ) → read_each read xs k ws ≡ each_behind [] xs k ws
  unfolding each_behind
  each-begun xs k ws = alone (read_each read xs k ws)

  pub each-done : (before : List B) (k : ℕ) (ws : List ℕ) → each_behind before [] k ws ≡ given (before ++ []) k ws
  unfolding each_behind read_each
  each-done before k ws = refl

  one_behind : (before : List B) (b : B) (r : Result (Read (List B)) StateRefusal)
      → and_then (and_then r (λ more k ws. given (b ∷ more) k ws)) (λ more k ws. given (before ++ more) k ws) ≡ and_then r (λ more k ws. given ((before ++ b ∷ []) ++ more) k ws)
  one_behind before b (Ok r) = ap (λ l. given l r.at r.rest) (sym (append_assoc before (b ∷ []) r.value))
  one_behind before b (Err e) = refl

  pub each-more : (before : List B) (a : A) (xs : List A) (k : ℕ) (ws : List ℕ) (b : B) (j : ℕ) (vs : List ℕ) → read a k ws ≡ Ok (record { value = b; at = j; rest = vs }) → each_behind before (a ∷ xs) k ws ≡ each_behind (before ++ b ∷ []) xs j vs
  unfolding each_behind read_each
  each-more before a xs k ws b j vs is =
      ap (λ r. and_then (and_then r (λ b k ws. and_then (read_each read xs k ws) (λ more k ws. given (b ∷ more) k ws))) (λ more k ws. given (before ++ more) k ws)) is
      ∙ one_behind before b (read_each read xs j vs)

  pub each-refused : (before : List B) (a : A) (xs : List A) (k : ℕ) (ws : List ℕ) (e : StateRefusal) → read a k ws ≡ Err e → each_behind before (a ∷ xs) k ws ≡ Err e
  unfolding each_behind read_each
  each-refused before a xs k ws e is =
      ap (λ r. and_then (and_then r (λ b k ws. and_then (read_each read xs k ws) (λ more k ws. given (b ∷ more) k ws))) (λ more k ws. given (before ++ more) k ws)) is

-- ---- the node at the path to a leaf

leaf-value : (w : Where) (n : Node) (v : LeafValue) → is_named (leaf_of_number v.number) n ≡ true → of_leaf (λ w u. u) v w n ≡ v → n ≡ leaf_node v
leaf-value w (leaf_node u) v named same = ap leaf_node same
leaf-value w (dir_node d ns) v named same = absurd (true≢false (sym named))

some-same : {X : Type 0} {x y : X} → Some x ≡ Some y → x ≡ y
some-same e = cc

pub leaf-at-path : (m : MachineValue) (k : ℕ) (path : List ℕ) (v : LeafValue) → IsShaped m → Leads (leaf_of_number k) path (root_of m) → slice_get (machine_leaves m) k ≡ Some v → node_at path (root_of m) ≡ leaf_node v
leaf-at-path m k path v shaped leads is =
    let number : v.number ≡ k = leaf-number k m v shaped is in
    let listed : slice_get (map (λ (u : LeafValue). u) (machine_leaves m)) k ≡ Some v = ap (λ vs. slice_get vs k) (map-same (machine_leaves m)) ∙ is in
    let read = read-is m (leaf_of_number k) path leads (of_leaf (λ w u. u) v) ∙ sym (leaf-listed (λ u. u) v k m shaped) ∙ listed in
    leaf-value (where_end at_top path (root_of m)) (node_at path (root_of m)) v (rw number (named-there m (leaf_of_number k) path leads)) (some-same read)

-- ---- so far

pub record LeavesSoFar (harts : Bool) (words : List ℕ) (from : ℕ) (m now : MachineValue) (leaf at : ℕ) : Type 0 where
  pub leaves : List LeafValue
  pub count : length leaves ≡ leaf
  pub left : read_each (leaf_read harts) (machine_leaves m) from (drop from words) ≡ each_behind (leaf_read harts) leaves (drop leaf (machine_leaves m)) at (drop at words)
  pub is : now ≡ with_root (refilled leaves [] (root_of m)) m
  pub frame : frame_of now ≡ frame_of m
  pub inside : at ≤ length words

abbrev to_leaf : LeafValue → ℕ → List ℕ → Result (Read Node) StateRefusal
to_leaf v k ws = given (leaf_node v) k ws

pub section-leaf : (harts : Bool) (leaf : ℕ) → section_name (leaf_section harts leaf) ≡ leaf_of_number leaf
section-leaf true leaf = refl
section-leaf false leaf = refl

section-node : (harts : Bool) (leaf : ℕ) (v : LeafValue) (k : ℕ) (ws : List ℕ) → node_read (leaf_section harts leaf) (leaf_node v) k ws ≡ and_then (leaf_read harts v k ws) to_leaf
section-node true leaf v k ws = refl
section-node false leaf v k ws = refl

given-parts : {A : Type 0} (a b : A) (i j : ℕ) (us vs : List ℕ) → given a i us ≡ Ok (record { value = b; at = j; rest = vs }) → (a ≡ b) × (i ≡ j) × (us ≡ vs)
given-parts {A = A} a b i j us vs e =
    let same : record { value = a; at = i; rest = us } ≡ record { value = b; at = j; rest = vs } = cc in
    (ap (λ (r : Read A). r.value) same, ap (λ (r : Read A). r.at) same, ap (λ (r : Read A). r.rest) same)

leaf-only : (k : ℕ) (d : DirValue) (ns : Nodes) → is_named (leaf_of_number k) (dir_node d ns) ≡ true → ⊥
leaf-only k d ns e = true≢false (sym e)

module _ (harts : Bool) (words : List ℕ) (from : ℕ) (m now : MachineValue) (leaf at : ℕ) (shaped : IsShaped m) (within : leaf < length (machine_leaves m)) (so_far : LeavesSoFar harts words from m now leaf at) where
  found : (v : LeafValue) × (slice_get (machine_leaves m) leaf ≡ Some v) × (drop leaf (machine_leaves m) ≡ v ∷ drop (suc leaf) (machine_leaves m))
  found = get-some (machine_leaves m) leaf within

  v : LeafValue
  v = found.0

  abbrev us : List LeafValue
  us = so_far.leaves

  abbrev f : LeafValue → LeafValue
  f = leaf_by_number us []

  abbrev g : DirValue → DirValue
  g = dir_by_bus us []

  root-now : root_of now ≡ mapped f g (root_of m)
  root-now = ap root_of so_far.is ∙ refilled-mapped us [] (root_of m)

  bones-now : skeleton (root_of now) ≡ skeleton (root_of m)
  bones-now = ap (λ f. f.bones) so_far.frame

  bones : skeleton (mapped f g (root_of m)) ≡ skeleton (root_of m)
  bones = ap skeleton (sym root-now) ∙ bones-now

  number : v.number ≡ leaf
  unfolding v
  number = leaf-number leaf m found.0 shaped found.1

  module _ (path : List ℕ) (named : Leads (section_name (leaf_section harts leaf)) path (root_of now)) where
    leads-now : Leads (leaf_of_number leaf) path (root_of now)
    leads-now = subst (λ name. Leads name path (root_of now)) (section-leaf harts leaf) named

    leads : Leads (leaf_of_number leaf) path (root_of m)
    leads = subst (λ b. path_to (leaf_of_number leaf) b ≡ Some path) bones-now leads-now

    leads-mapped : Leads (leaf_of_number leaf) path (mapped f g (root_of m))
    leads-mapped = subst (λ n. Leads (leaf_of_number leaf) path n) root-now leads-now

    node-mapped : node_at path (mapped f g (root_of m)) ≡ leaf_node v
    unfolding v
    node-mapped =
        let own : slice_index_or us found.0.number found.0 ≡ found.0 = beyond us found.0.number found.0 (omega (arith, so_far.count, leaf-number leaf m found.0 shaped found.1)) in
        mapped-at f g (leaf_of_number leaf) path (root_of m) leads ∙ ap (mapped f g) (leaf-at-path m leaf path found.0 shaped leads found.1) ∙ ap leaf_node own

    node-now : node_at path (root_of now) ≡ leaf_node v
    node-now = ap (node_at path) root-now ∙ node-mapped

  rest : drop leaf (machine_leaves m) ≡ v ∷ drop (leaf + 1) (machine_leaves m)
  unfolding v
  rest = rw add-one found.2

  pub leaf-refused : (e : StateRefusal) → SectionRefused (leaf_section harts leaf) words at now e → read_each (leaf_read harts) (machine_leaves m) from (drop from words) ≡ Err e
  leaf-refused e s =
      let read : and_then (leaf_read harts v at (drop at words)) to_leaf ≡ Err e = sym (section-node harts leaf v at (drop at words)) ∙ ap (λ n. node_read (leaf_section harts leaf) n at (drop at words)) (sym (node-now s.path s.leads)) ∙ s.read in
      so_far.left ∙ ap (λ vs. each_behind (leaf_read harts) us vs at (drop at words)) rest ∙ each-refused (leaf_read harts) us v (drop (leaf + 1) (machine_leaves m)) at (drop at words) e (only-first (leaf_read harts v at (drop at words)) read)
    where
      only-first : (r : Result (Read LeafValue) StateRefusal) → and_then r to_leaf ≡ Err e → r ≡ Err e
      only-first (Ok r) e = cc
      only-first (Err x) e = cc

  module _ (next : MachineValue) (after : ℕ) (s : SectionRead (leaf_section harts leaf) words at now next after) (inside : after ≤ length words) where
    node-read : and_then (leaf_read harts v at (drop at words)) to_leaf ≡ Ok (record { value = s.is_put.node; at = after; rest = drop after words })
    node-read = sym (section-node harts leaf v at (drop at words)) ∙ ap (λ n. node_read (leaf_section harts leaf) n at (drop at words)) (sym (node-now s.path s.leads)) ∙ s.is_put.read

    got : (u : Read LeafValue) × (leaf_read harts v at (drop at words) ≡ Ok u) × (given (leaf_node u.value) u.at u.rest ≡ Ok (record { value = s.is_put.node; at = after; rest = drop after words }))
    got = and_then-ok (leaf_read harts v at (drop at words)) to_leaf (record { value = s.is_put.node; at = after; rest = drop after words }) node-read

    w : LeafValue
    w = got.0.value

    node-is : s.is_put.node ≡ leaf_node w
    unfolding w
    node-is = sym (given-parts (leaf_node got.0.value) s.is_put.node got.0.at after got.0.rest (drop after words) got.2).0

    leaf-is : leaf_read harts v at (drop at words) ≡ Ok (record { value = w; at = after; rest = drop after words })
    unfolding w
    leaf-is =
        let same = given-parts (leaf_node got.0.value) s.is_put.node got.0.at after got.0.rest (drop after words) got.2 in
        got.1 ∙ ap (λ k. Ok (record { value = got.0.value; at = k; rest = got.0.rest })) same.1 ∙ ap (λ ws. Ok (record { value = got.0.value; at = after; rest = ws })) same.2

    abbrev more : List LeafValue
    more = us ++ w ∷ []

    others : (u : LeafValue) → is_named (leaf_of_number leaf) (leaf_node u) ≡ false → f u ≡ leaf_by_number more [] u
    others u other = pushed-other us w u.number u (λ same. true≢false (sym (eq-eqb u.number leaf (same ∙ so_far.count)) ∙ other))

    own : (u : LeafValue) → is_named (leaf_of_number leaf) (leaf_node u) ≡ true → leaf_by_number more [] u ≡ w
    own u named = pushed-here us w u.number u (eqb-true u.number leaf named ∙ sym so_far.count)

    put : root_of next ≡ refilled more [] (root_of m)
    put =
        let placed = put-mapped (leaf_of_number leaf) f (leaf_by_number more []) g (dir_by_bus more []) others (λ d ns other. refl) w m.top own (λ d ns named. absurd (leaf-only leaf d ns named)) s.path (root_of m) (leaf-once m leaf shaped) bones (leads-mapped s.path s.leads) in
        let swapped : put_at s.path (leaf_node w) (mapped f g (root_of m)) ≡ mapped (leaf_by_number more []) (dir_by_bus more []) (root_of m) = rw (node-mapped s.path s.leads) at placed in
        s.is_put.put ∙ ap (λ n. put_at s.path n (root_of now)) node-is ∙ ap (put_at s.path (leaf_node w)) root-now ∙ swapped ∙ sym (refilled-mapped more [] (root_of m))

    machine : next ≡ with_root (refilled more [] (root_of m)) m
    machine = s.same ∙ ap (λ n. with_root n now) put ∙ ap (with_root (refilled more [] (root_of m))) so_far.is

    pub leaf-more : frame_of next ≡ frame_of now → LeavesSoFar harts words from m next (leaf + 1) after
    leaf-more frame = record {
      leaves = more;
      count = length_push us w ∙ ap (λ n. n + 1) so_far.count;
      left = so_far.left ∙ ap (λ vs. each_behind (leaf_read harts) us vs at (drop at words)) rest ∙ each-more (leaf_read harts) us v (drop (leaf + 1) (machine_leaves m)) at (drop at words) w after (drop after words) leaf-is;
      is = machine;
      frame = frame ∙ so_far.frame;
      inside = inside;
    }

-- ---- at the first and at the last

mutual
  untouched : (n : Node) → refilled [] [] n ≡ n
  untouched (leaf_node v) = refl
  untouched (dir_node d ns) = ap (dir_node d) (untouched-among ns)

  untouched-among : (ns : Nodes) → refilled_among [] [] ns ≡ ns
  untouched-among no_nodes = refl
  untouched-among (more_nodes n ns) = rw (untouched n, untouched-among ns) refl

pub leaves-begun : (harts : Bool) (words : List ℕ) (from : ℕ) (m : MachineValue) → from ≤ length words → LeavesSoFar harts words from m m 0 from
leaves-begun harts words from m inside = record {
  leaves = [];
  count = refl;
  left = each-begun (leaf_read harts) (machine_leaves m) from (drop from words);
  is = ap (λ n. with_root n m) (sym (untouched (root_of m)));
  frame = refl;
  inside = inside;
}

pub leaves-done : (harts : Bool) (words : List ℕ) (from : ℕ) (m now : MachineValue) (leaf at : ℕ) → length (machine_leaves m) ≤ leaf → LeavesSoFar harts words from m now leaf at → LeavesRead harts words from m now at
leaves-done harts words from m now leaf at past s = record {
  leaves = s.leaves;
  read = s.left ∙ ap (λ vs. each_behind (leaf_read harts) s.leaves vs at (drop at words)) (drop_all leaf (machine_leaves m) past) ∙ each-done (leaf_read harts) s.leaves at (drop at words) ∙ ap (λ vs. given vs at (drop at words)) (append-nil s.leaves);
  is = s.is;
  frame = s.frame;
}

-- ---- a section keeps the frame, and a leaf by its number is there

pub read-frame : (section : Section) (words : List ℕ) (from at : ℕ) (m after : MachineValue) → CanRead m → all_within (item_count m.items) (root_of m) ≡ true → SectionRead section words from m after at → frame_of after ≡ frame_of m
read-frame section words from at m after can within s =
    let bones = section-bones section s.path words from at (item_count m.items) (root_of m) (root_of after) s.is_put s.leads can.ways within in
    ap frame_of s.same ∙ as-root (root_of after) bones
  where
    as-root : (n : Node) → skeleton n ≡ skeleton (root_of m) → frame_of (with_root n m) ≡ frame_of m
    as-root (leaf_node v) e = refl
    as-root (dir_node d ns) e = ap (λ b. record { bones = b; code = m.code; items = m.items; counted = length m.traffic }) e
