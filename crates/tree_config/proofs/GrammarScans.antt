-- What a text reads as is a shape of that text, and what the scans find in it.
use Rattle.std.proofs.Common.{ℕ, ◌≡◌, ◌+◌, ◌∙◌, cond, Bool, true, false, List, [], ◌∷◌, length, Option, Some, None, Result, Ok, Err, ap, sym, refl, inl, inr, option_map, is_some, is_ok, add-one, arith}
use Rattle.std.specs.Option.{option_map_or}
use Rattle.std.specs.Prelude.{nat_eq}
use Rattle.std.proofs.lemmas.Bool.{cases_Bool, false≢true}
use Rattle.std.proofs.lemmas.Bool.Decides.{nat_tests}
use Rattle.tree_config.specs.declared.shape_text.Progress.{Progress}
use Rattle.tree_config.specs.declared.shape_text.Progress.TheVariants as progress
use Rattle.tree_config.specs.ShapeText.{Tree, Trees, leaf_tree, group_tree, no_trees, more_trees, leaf_byte, open_byte, close_byte, node_text, nodes_text, push_tree, Reading, nothing_read, open_groups, whole_shape, after_close, after_byte, at_end, read_from, shape_of}
use Rattle.tree_config.specs.ShapeScan.{closed, is_whole, place_from, progress_after}

none_some : {A : Type 0} {x : A} → None ≡ Some x → ⊥
none_some h = false≢true (ap is_some h)

pub err_ok : {A E : Type 0} {x : A} {e : E} → Err e ≡ Ok x → ⊥
err_ok h = false≢true (ap is_ok h)

abbrev result_tree : Result Tree ℕ → List ℕ → List ℕ
result_tree (Ok t) rest = node_text t rest
result_tree (Err place) rest = []

-- ---- how far a reading is

abbrev is_empty : Trees → Bool
is_empty no_trees = true
is_empty (more_trees t ts) = false

abbrev pub progress_of : Reading → Progress
progress_of nothing_read = progress.Nothing
progress_of (open_groups ts outer) = progress.Open (length outer) (is_empty ts)
progress_of (whole_shape t) = progress.Whole

is_empty-push : (ts : Trees) (t : Tree) → is_empty (push_tree ts t) ≡ false
is_empty-push no_trees t = refl
is_empty-push (more_trees u us) t = refl

-- the place that keeps a text from being a shape
abbrev pub place_of : Result Tree ℕ → Option ℕ
place_of (Ok t) = None
place_of (Err place) = Some place

progress_after-close : (ts : Trees) (outer : List Trees) → cond (is_empty ts) None (Some (closed (length outer))) ≡ option_map progress_of (after_close ts outer)
progress_after-close no_trees outer = refl
progress_after-close (more_trees t ts) [] = refl
progress_after-close (more_trees t ts) (us ∷ outer) = rw (is_empty-push us (group_tree t ts))

progress_after-of : (r : Reading) (b : ℕ) → progress_after (progress_of r) b ≡ option_map progress_of (after_byte r b)
progress_after-of nothing_read b =
    elim (cases_Bool (nat_eq b open_byte)) [
      | inl opens ↦ rw opens
      | inr other ↦ rw other
    ]
progress_after-of (open_groups ts outer) b =
    elim (cases_Bool (nat_eq b leaf_byte)) [
      | inl leaf ↦ rw (leaf, is_empty-push ts leaf_tree)
      | inr other ↦ elim (cases_Bool (nat_eq b open_byte)) [
        | inl opens ↦ rw (other, opens, add-one)
        | inr neither ↦ elim (cases_Bool (nat_eq b close_byte)) [
          | inl closes ↦ rw (other, neither, closes) (progress_after-close ts outer)
          | inr none ↦ rw (other, neither, none)
        ]
      ]
    ]
progress_after-of (whole_shape t) b = refl

place_after : (f : Progress → Option ℕ) (g : Reading → Result Tree ℕ) (at : ℕ) → ((r : Reading) → f (progress_of r) ≡ place_of (g r)) → (o : Option Reading)
    → option_map_or f (option_map progress_of o) (Some at) ≡ place_of (option_map_or g o (Err at))
place_after f g at same None = refl
place_after f g at same (Some r) = same r

place_at_end : (r : Reading) (at : ℕ) → cond (is_whole (progress_of r)) None (Some at) ≡ place_of (at_end r at)
place_at_end nothing_read at = refl
place_at_end (open_groups ts outer) at = refl
place_at_end (whole_shape t) at = refl

-- the scan finds the place of the reading
pub place_from-of : (r : Reading) (at : ℕ) (text : List ℕ) → place_from (progress_of r) at text ≡ place_of (read_from r at text)
unfolding place_from read_from
place_from-of r at [] = place_at_end r at
place_from-of r at (b ∷ bs) =
    ap (λ o. option_map_or (λ next. place_from next (at + 1) bs) o (Some at)) (progress_after-of r b)
    ∙ place_after (λ next. place_from next (at + 1) bs) (λ next. read_from next (at + 1) bs) at (λ next. place_from-of next (at + 1) bs) (after_byte r b)

-- ---- a text that reads as a shape is the text of that shape

-- the text of what is read, before the rest
opened : List Trees → List ℕ → List ℕ
opened [] rest = rest
opened (ts ∷ outer) rest = opened outer (open_byte ∷ nodes_text ts rest)

before : Reading → List ℕ → List ℕ
before nothing_read rest = rest
before (open_groups ts outer) rest = opened (ts ∷ outer) rest
before (whole_shape t) rest = node_text t rest

nodes_text-push : (ts : Trees) (t : Tree) (rest : List ℕ) → nodes_text (push_tree ts t) rest ≡ nodes_text ts (node_text t rest)
nodes_text-push no_trees t rest = refl
nodes_text-push (more_trees u us) t rest = ap (node_text u) (nodes_text-push us t rest)

before-close : (ts : Trees) (outer : List Trees) (next : Reading) (rest : List ℕ) → after_close ts outer ≡ Some next → opened (ts ∷ outer) (close_byte ∷ rest) ≡ before next rest
unfolding opened before
before-close no_trees outer next rest h = cc
before-close (more_trees t ts) [] next rest h = ap (λ o. option_map_or (λ r. before r rest) o []) h
before-close (more_trees t ts) (us ∷ outer) next rest h =
    ap (λ ns. opened outer (open_byte ∷ ns)) (sym (nodes_text-push us (group_tree t ts) rest)) ∙ ap (λ o. option_map_or (λ r. before r rest) o []) h

before-some : (x next : Reading) (rest : List ℕ) → Some x ≡ Some next → before x rest ≡ before next rest
before-some x next rest h = ap (λ o. option_map_or (λ r. before r rest) o []) h

before-byte : (r : Reading) (b : ℕ) (next : Reading) (rest : List ℕ) → after_byte r b ≡ Some next → before r (b ∷ rest) ≡ before next rest
unfolding opened before
before-byte nothing_read b next rest h =
    elim (cases_Bool (nat_eq b open_byte)) [
      | inl opens ↦ (let is : b ≡ open_byte = grind (arith, nat_tests, opens) in rw is (before-some (open_groups no_trees []) next rest (rw opens at h)))
      | inr other ↦ absurd (none_some (rw other at h))
    ]
before-byte (open_groups ts outer) b next rest h =
    elim (cases_Bool (nat_eq b leaf_byte)) [
      | inl leaf ↦
          (let is : b ≡ leaf_byte = grind (arith, nat_tests, leaf) in
          rw is (ap (λ ns. opened outer (open_byte ∷ ns)) (sym (nodes_text-push ts leaf_tree rest)) ∙ before-some (open_groups (push_tree ts leaf_tree) outer) next rest (rw leaf at h)))
      | inr other ↦ elim (cases_Bool (nat_eq b open_byte)) [
        | inl opens ↦ (let is : b ≡ open_byte = grind (arith, nat_tests, opens) in rw is (before-some (open_groups no_trees (ts ∷ outer)) next rest (rw (other, opens) at h)))
        | inr neither ↦ elim (cases_Bool (nat_eq b close_byte)) [
          | inl closes ↦ (let is : b ≡ close_byte = grind (arith, nat_tests, closes) in rw is (before-close ts outer next rest (rw (other, neither, closes) at h)))
          | inr none ↦ absurd (none_some (rw (other, neither, none) at h))
        ]
      ]
    ]
before-byte (whole_shape t) b next rest h = absurd (none_some h)

before-end : (r : Reading) (at : ℕ) (t : Tree) → at_end r at ≡ Ok t → before r [] ≡ node_text t []
unfolding before
before-end nothing_read at t h = absurd (err_ok h)
before-end (open_groups ts outer) at t h = absurd (err_ok h)
before-end (whole_shape u) at t h = ap (λ r. result_tree r []) h

before-option : (r : Reading) (at b : ℕ) (bs : List ℕ) (t : Tree) (o : Option Reading) → after_byte r b ≡ o → option_map_or (λ next. read_from next (at + 1) bs) o (Err at) ≡ Ok t
    → ((next : Reading) → read_from next (at + 1) bs ≡ Ok t → before next bs ≡ node_text t []) → before r (b ∷ bs) ≡ node_text t []
before-option r at b bs t None is h further = absurd (err_ok h)
before-option r at b bs t (Some next) is h further = before-byte r b next bs is ∙ further next h

before-read : (r : Reading) (at : ℕ) (text : List ℕ) (t : Tree) → read_from r at text ≡ Ok t → before r text ≡ node_text t []
unfolding read_from
before-read r at [] t h = before-end r at t h
before-read r at (b ∷ bs) t h = before-option r at b bs t (after_byte r b) refl h (λ next. before-read next (at + 1) bs t)

pub shape_of-text : (text : List ℕ) (t : Tree) → shape_of text ≡ Ok t → text ≡ node_text t []
unfolding before
shape_of-text text t h = before-read nothing_read 0 text t h
