-- The reading of a text is that of the grammar: a shape's text reads as the shape, and a place is the length of the longest
-- prefix with which some shape begins.
use Rattle.std.proofs.Common.{ℕ, suc, ◌≡◌, ◌+◌, ◌≤◌, ◌∙◌, List, [], ◌∷◌, ◌++◌, length, take, drop, Option, Some, None, Result, Ok, Err, ap, sym, refl, add-zero, arith}
use Rattle.std.specs.Option.{option_map_or}
use Rattle.std.proofs.lemmas.List.{length-take-le, take-append-drop}
use Rattle.tree_config.specs.ShapeText.{Tree, Trees, leaf_tree, group_tree, no_trees, more_trees, leaf_byte, open_byte, close_byte, node_text, nodes_text, push_tree, Reading, nothing_read, open_groups, whole_shape, after_byte, at_end, read_from, shape_of}
use Rattle.tree_config.specs.ShapeGrammar.{IsTextOf, Begins, IsLongestBeginning}
use Rattle.tree_config.proofs.GrammarScans.{err_ok, shape_of-text}

-- ---- a shape's text reads as the shape

abbrev mutual
  node_size : Tree → ℕ
  node_size leaf_tree = 1
  node_size (group_tree t ts) = 1 + node_size t + nodes_size ts + 1

  nodes_size : Trees → ℕ
  nodes_size no_trees = 0
  nodes_size (more_trees t ts) = node_size t + nodes_size ts

abbrev append_trees : Trees → Trees → Trees
append_trees no_trees us = us
append_trees (more_trees t ts) us = more_trees t (append_trees ts us)

append_trees-none : (ts : Trees) → append_trees ts no_trees ≡ ts
append_trees-none no_trees = refl
append_trees-none (more_trees t ts) = ap (more_trees t) (append_trees-none ts)

append_trees-push : (ts : Trees) (n : Tree) (us : Trees) → append_trees (push_tree ts n) us ≡ append_trees ts (more_trees n us)
append_trees-push no_trees n us = refl
append_trees-push (more_trees t ts) n us = ap (more_trees t) (append_trees-push ts n us)

mutual
  unfolding read_from

  read_from-node : (ts : Trees) (outer : List Trees) (at : ℕ) (n : Tree) (rest : List ℕ) → read_from (open_groups ts outer) at (node_text n rest) ≡ read_from (open_groups (push_tree ts n) outer) (at + node_size n) rest
  read_from-node ts outer at leaf_tree rest = refl
  read_from-node ts outer at (group_tree t us) rest =
      let size : at + 1 + node_size t + nodes_size us + 1 ≡ at + (1 + node_size t + nodes_size us + 1) = omega arith in
      read_from-node no_trees (ts ∷ outer) (at + 1) t (nodes_text us (close_byte ∷ rest))
      ∙ read_from-nodes (more_trees t no_trees) (ts ∷ outer) (at + 1 + node_size t) us (close_byte ∷ rest)
      ∙ ap (λ n. read_from (open_groups (push_tree ts (group_tree t us)) outer) n rest) size

  read_from-nodes : (ts : Trees) (outer : List Trees) (at : ℕ) (us : Trees) (rest : List ℕ) → read_from (open_groups ts outer) at (nodes_text us rest) ≡ read_from (open_groups (append_trees ts us) outer) (at + nodes_size us) rest
  read_from-nodes ts outer at no_trees rest = rw (append_trees-none ts, add-zero at)
  read_from-nodes ts outer at (more_trees n us) rest =
      let size : at + node_size n + nodes_size us ≡ at + (node_size n + nodes_size us) = omega arith in
      read_from-node ts outer at n (nodes_text us rest)
      ∙ read_from-nodes (push_tree ts n) outer (at + node_size n) us rest
      ∙ ap (λ r. read_from (open_groups r outer) (at + node_size n + nodes_size us) rest) (append_trees-push ts n us)
      ∙ ap (λ m. read_from (open_groups (append_trees ts (more_trees n us)) outer) m rest) size

pub shape_of-group : (t : Tree) (ts : Trees) → shape_of (node_text (group_tree t ts) []) ≡ Ok (group_tree t ts)
unfolding read_from
shape_of-group t ts =
    read_from-node no_trees [] 1 t (nodes_text ts (close_byte ∷ []))
    ∙ read_from-nodes (more_trees t no_trees) [] (1 + node_size t) ts (close_byte ∷ [])

-- ---- no shape begins with more of the text

abbrev error_of : Result Tree ℕ → ℕ
error_of (Ok t) = 0
error_of (Err n) = n

end_place : (r : Reading) (at p : ℕ) → at_end r at ≡ Err p → at ≡ p
end_place nothing_read at p h = ap error_of h
end_place (open_groups ts outer) at p h = ap error_of h
end_place (whole_shape t) at p h = absurd (err_ok (sym h))

option_place : (at : ℕ) (bs : List ℕ) (p : ℕ) (o : Option Reading) → option_map_or (λ next. read_from next (at + 1) bs) o (Err at) ≡ Err p
    → ((next : Reading) → read_from next (at + 1) bs ≡ Err p → at + 1 ≤ p) → at ≤ p
option_place at bs p None h further = let same : at ≡ p = ap error_of h in omega (arith, same)
option_place at bs p (Some next) h further = omega (arith, further next h)

place_at_least : (r : Reading) (at : ℕ) (text : List ℕ) (p : ℕ) → read_from r at text ≡ Err p → at ≤ p
unfolding read_from
place_at_least r at [] p h = omega (arith, end_place r at p h)
place_at_least r at (b ∷ bs) p h = option_place at bs p (after_byte r b) h (λ next. place_at_least next (at + 1) bs p)

option_same : (at : ℕ) (xs ys zs : List ℕ) (t : Tree) (p : ℕ) (o : Option Reading) → option_map_or (λ next. read_from next (at + 1) (xs ++ ys)) o (Err at) ≡ Ok t → option_map_or (λ next. read_from next (at + 1) (xs ++ zs)) o (Err at) ≡ Err p
    → ((next : Reading) → read_from next (at + 1) (xs ++ ys) ≡ Ok t → read_from next (at + 1) (xs ++ zs) ≡ Err p → at + 1 + length xs ≤ p) → at + 1 + length xs ≤ p
option_same at xs ys zs t p None ok bad further = absurd (err_ok ok)
option_same at xs ys zs t p (Some next) ok bad further = further next ok bad

same_beginning : (r : Reading) (at : ℕ) (xs ys zs : List ℕ) (t : Tree) (p : ℕ) → read_from r at (xs ++ ys) ≡ Ok t → read_from r at (xs ++ zs) ≡ Err p → at + length xs ≤ p
unfolding read_from
same_beginning r at [] ys zs t p ok bad = omega (arith, place_at_least r at zs p bad)
same_beginning r at (b ∷ xs) ys zs t p ok bad =
    omega (arith, option_same at xs ys zs t p (after_byte r b) ok bad (λ next. same_beginning next (at + 1) xs ys zs t p))

-- ---- some shape begins with what is read

record Completed (r : Reading) (at : ℕ) : Type 0 where
  rest : List ℕ
  tree : Tree
  reads : read_from r at rest ≡ Ok tree

close_all : (t : Tree) (ts : Trees) (outer : List Trees) (at : ℕ) → Completed (open_groups (more_trees t ts) outer) at
unfolding read_from
close_all t ts [] at = record { rest = close_byte ∷ []; tree = group_tree t ts; reads = refl }
close_all t ts (no_trees ∷ outer) at =
    let more = close_all (group_tree t ts) no_trees outer (at + 1) in
    record { rest = close_byte ∷ more.rest; tree = more.tree; reads = more.reads }
close_all t ts (more_trees u us ∷ outer) at =
    let more = close_all u (push_tree us (group_tree t ts)) outer (at + 1) in
    record { rest = close_byte ∷ more.rest; tree = more.tree; reads = more.reads }

completed : (r : Reading) (at : ℕ) → Completed r at
unfolding read_from
completed nothing_read at = record { rest = open_byte ∷ leaf_byte ∷ close_byte ∷ []; tree = group_tree leaf_tree no_trees; reads = refl }
completed (open_groups no_trees outer) at =
    let more = close_all leaf_tree no_trees outer (at + 1) in
    record { rest = leaf_byte ∷ more.rest; tree = more.tree; reads = more.reads }
completed (open_groups (more_trees t ts) outer) at = close_all t ts outer at
completed (whole_shape t) at = record { rest = []; tree = t; reads = refl }

record Viable (r : Reading) (at : ℕ) (text : List ℕ) (p : ℕ) : Type 0 where
  count : ℕ
  place : p ≡ at + count
  within : count ≤ length text
  rest : List ℕ
  tree : Tree
  reads : read_from r at (take count text ++ rest) ≡ Ok tree

viable_here : (r : Reading) (at : ℕ) (text : List ℕ) (p : ℕ) → at ≡ p → Viable r at text p
viable_here r at text p same =
    let done = completed r at in
    record { count = 0; place = omega (arith, same); within = omega arith; rest = done.rest; tree = done.tree; reads = done.reads }

option_viable : (r : Reading) (at b : ℕ) (bs : List ℕ) (p : ℕ) (o : Option Reading) → after_byte r b ≡ o → option_map_or (λ next. read_from next (at + 1) bs) o (Err at) ≡ Err p
    → ((next : Reading) → read_from next (at + 1) bs ≡ Err p → Viable next (at + 1) bs p) → Viable r at (b ∷ bs) p
unfolding read_from
option_viable r at b bs p None is h further = viable_here r at (b ∷ bs) p (ap error_of h)
option_viable r at b bs p (Some next) is h further =
    let v = further next h in
    record {
      count = suc v.count;
      place = omega (arith, v.place);
      within = omega (arith, v.within);
      rest = v.rest;
      tree = v.tree;
      reads = ap (λ o. option_map_or (λ r. read_from r (at + 1) (take v.count bs ++ v.rest)) o (Err at)) is ∙ v.reads;
    }

viable : (r : Reading) (at : ℕ) (text : List ℕ) (p : ℕ) → read_from r at text ≡ Err p → Viable r at text p
unfolding read_from
viable r at [] p h = viable_here r at [] p (end_place r at p h)
viable r at (b ∷ bs) p h = option_viable r at b bs p (after_byte r b) refl h (λ next. viable next (at + 1) bs p)

-- ---- the reading, by the grammar

lone_leaf : shape_of (leaf_byte ∷ []) ≡ Err 0
unfolding read_from
lone_leaf = refl

pub IsTextOf-reads : (text : List ℕ) (t : Tree) → shape_of text ≡ Ok t → IsTextOf t text
IsTextOf-reads text leaf_tree h = absurd (err_ok (sym lone_leaf ∙ ap shape_of (sym (shape_of-text text leaf_tree h)) ∙ h))
IsTextOf-reads text (group_tree t ts) h = record { first = t; others = ts; group = refl; spells = shape_of-text text (group_tree t ts) h }

pub reads-IsTextOf : (text : List ℕ) (t : Tree) → IsTextOf t text → shape_of text ≡ Ok t
reads-IsTextOf text t is = ap shape_of (is.spells ∙ ap (λ u. node_text u []) is.group) ∙ shape_of-group is.first is.others ∙ ap Ok (sym is.group)

begins_from : (bytes rest : List ℕ) (t : Tree) → shape_of (bytes ++ rest) ≡ Ok t → Begins bytes
begins_from bytes rest t h =
    let is = IsTextOf-reads (bytes ++ rest) t h in
    record { first = is.first; others = is.others; rest = rest; whole = is.spells ∙ ap (λ u. node_text u []) is.group }

longer : (text : List ℕ) (p : ℕ) → shape_of text ≡ Err p → (n : ℕ) → n ≤ length text → Begins (take n text) → n ≤ p
longer text p h n few begun =
    let ok = ap shape_of begun.whole ∙ shape_of-group begun.first begun.others in
    let bad = ap shape_of (take-append-drop n text) ∙ h in
    omega (arith, length-take-le n text few, same_beginning nothing_read 0 (take n text) begun.rest (drop n text) (group_tree begun.first begun.others) p ok bad)

pub IsLongestBeginning-reads : (text : List ℕ) (p : ℕ) → shape_of text ≡ Err p → IsLongestBeginning text p
IsLongestBeginning-reads text p h =
    let v = viable nothing_read 0 text p h in
    let same : p ≡ v.count = omega (arith, v.place) in
    record {
      within = omega (arith, same, v.within);
      begins = rw same (begins_from (take v.count text) v.rest v.tree v.reads);
      longest = longer text p h;
    }
