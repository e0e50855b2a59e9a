-- Over a leaf that holds an item Exclusive, each directory's claim on it is the moment of the leaf's bus, with which the key of
-- an instruction that completes there begins.
use Rattle.std.proofs.Common.{◌≡◌, ℕ, ◌+◌, ◌<◌, Bool, true, false, not, List, [], ◌∷◌, ◌++◌, Some, None, refl, sym, ap, subst, ◌∙◌, if◌then◌else◌}
use Rattle.std.specs.List.{AllByRecursion, list_any}
use Rattle.std.proofs.lemmas.Bool.{or_parts, or_left, or_right, not-true, true≢false}
use Rattle.order_lists.specs.DdmTypes.declared.answers.TxKind.{TxKind}
use Rattle.order_lists.specs.DdmTypes.declared.answers.TxKind.TheVariants.{ReadTx, DataTx, EraseTx, ExclusiveTx, InjectTx, OutTx}
use Rattle.order_lists.specs.TreeModel.State.Kinds.{is_kind, has_kind}
use Rattle.order_lists.specs.TreeModel.State.States.{is_exclusive}
use Rattle.order_lists.specs.TreeModel.State.Values.{DownValue, DirValue, Node, Nodes, leaf_node, dir_node, no_nodes, more_nodes, children}
use Rattle.order_lists.specs.TreeModel.State.Leaf.{leaf_hold}
use Rattle.order_lists.specs.TreeModel.State.Directory.{queue_of, dir_hold}
use Rattle.order_lists.specs.TreeModel.State.Place.{Spot, spot_path, spot_in}
use Rattle.tree_rules.specs.Bus.Faces.{parent_face, child_face, faces_of}
use Rattle.tree_rules.specs.Bus.Item.{holds_it, holds_exclusive, one_holds, copies_in, ItemRules}
use Rattle.tree_rules.specs.Bus.Rules.{IsTreeOk, AreTreesOk}
use Rattle.tree_rules.specs.Order.Claims.{last_exclusive, child_is_exclusive, claim, first_claim}
use Rattle.tree_rules.specs.Order.Places.{LeafAt, leaf_now, leaves_in, placed_leaves}
use Rattle.order_lists.proofs.Filters.{each-weaker, each-append}
use Rattle.order_lists.proofs.NoHold.{kinds, seen_hold}
use Rattle.order_lists.proofs.AboveExclusive.{IsAboveExclusive, above_exclusive, holder_of_exclusive, exclusive_held}

no_exclusive : (above : List ℕ) (q : List DownValue) → copies_in (kinds q) ≡ [] → has_kind ExclusiveTx (kinds q) ≡ false → last_exclusive above q ≡ None
no_exclusive above [] h k = refl
no_exclusive above (e ∷ es) h k = go e.kind refl h (or_parts _ _ k) (no_exclusive above es) where
  go : (t : TxKind) → e.kind ≡ t → copies_in (t ∷ kinds es) ≡ [] → ((is_kind ExclusiveTx t ≡ false) × (has_kind ExclusiveTx (kinds es) ≡ false)) → (copies_in (kinds es) ≡ [] → has_kind ExclusiveTx (kinds es) ≡ false → last_exclusive above es ≡ None) → last_exclusive above (e ∷ es) ≡ None
  go ReadTx i h k rest = rw i (rw (rest h k.1) refl)
  go DataTx i h k rest = absurd (let no_list : ⊥ = cc in no_list)
  go EraseTx i h k rest = absurd (let no_list : ⊥ = cc in no_list)
  go ExclusiveTx i h k rest = absurd (true≢false k.0)
  go InjectTx i h k rest = absurd (let no_list : ⊥ = cc in no_list)
  go OutTx i h k rest = rw i (rw (rest h k.1) refl)

-- the key of an instruction that completes now at the leaf begins with this moment
abbrev pub BeginsNow : List ℕ → LeafAt → Type 0
BeginsNow moment a = (r : List ℕ) × (leaf_now a ≡ moment ++ r)

abbrev pub IsExclusiveAt : ℕ → LeafAt → Type 0
IsExclusiveAt x a = is_exclusive (leaf_hold x a.leaf) ≡ true

-- of a child: it holds the item Exclusive, and its claim begins that key
abbrev pub ClaimedBy : ℕ → Spot → Node → LeafAt → Type 0
ClaimedBy x c n a = IsExclusiveAt x a → (child_is_exclusive x n ≡ true) × BeginsNow (claim x c n) a

-- the first claim of children begins it
abbrev pub FirstClaimBegins : ℕ → List ℕ → DirValue → ℕ → Nodes → LeafAt → Type 0
FirstClaimBegins x path d i ns a = (t : List ℕ) × (first_claim x path d i ns ≡ Some t) × BeginsNow t a

-- of children: one holds it Exclusive, and where there is just one holder the first claim is that one's
abbrev pub ClaimedAmong : ℕ → List ℕ → DirValue → ℕ → Nodes → LeafAt → Type 0
ClaimedAmong x path d i ns a = IsExclusiveAt x a → (list_any holds_exclusive (faces_of x (children ns)) ≡ true) × (one_holds (faces_of x (children ns)) ≡ true → FirstClaimBegins x path d i ns a)

-- what is above a child that holds the item Exclusive
pub record DirAbove (x : ℕ) (d : DirValue) (ns : Nodes) : Type 0 where
  pub hold : is_exclusive (dir_hold x d) ≡ true
  pub one : one_holds (faces_of x (children ns)) ≡ true
  pub no_exclusive : (above : List ℕ) → last_exclusive above (queue_of x d.down) ≡ None

pub dir_above : (x : ℕ) (d : DirValue) (ns : Nodes) → ItemRules (parent_face x d) (faces_of x (children ns)) → list_any holds_exclusive (faces_of x (children ns)) ≡ true → DirAbove x d ns
dir_above x d ns rules l = record { hold = over.hold; one = over.one; no_exclusive = λ above. no_exclusive above (queue_of x d.down) over.copies over.no_exclusive } where
  over : IsAboveExclusive (parent_face x d) (faces_of x (children ns))
  over = above_exclusive (parent_face x d) (faces_of x (children ns)) rules l

dir_claim : (x : ℕ) (c : Spot) (d : DirValue) (ns : Nodes) (t : List ℕ) → last_exclusive c.above (queue_of x d.down) ≡ None → first_claim x (spot_path c) d 0 ns ≡ Some t → claim x c (dir_node d ns) ≡ t
dir_claim x c d ns t h k = rw h (rw k refl)

seen_exclusive : (x : ℕ) (n : Node) → child_is_exclusive x n ≡ true → holds_exclusive (child_face x n) ≡ true
seen_exclusive x n h = subst (λ k. is_exclusive k ≡ true) (sym (seen_hold x n)) h

exclusive_here : (x : ℕ) (n : Node) (ns : List Node) → child_is_exclusive x n ≡ true → list_any holds_exclusive (faces_of x (n ∷ ns)) ≡ true
exclusive_here x n ns h = or_left (holds_exclusive (child_face x n)) _ (seen_exclusive x n h)

exclusive_later : (x : ℕ) (n : Node) (ns : List Node) → list_any holds_exclusive (faces_of x ns) ≡ true → list_any holds_exclusive (faces_of x (n ∷ ns)) ≡ true
exclusive_later x n ns h = or_right (holds_exclusive (child_face x n)) _ h

-- where a later child is exclusive and there is one holder, this one holds nothing
pub first_other : (x : ℕ) (n : Node) (ns : List Node) → list_any holds_exclusive (faces_of x ns) ≡ true → one_holds (faces_of x (n ∷ ns)) ≡ true → (child_is_exclusive x n ≡ false) × (one_holds (faces_of x ns) ≡ true)
first_other x n ns h one = go (holds_it (child_face x n)) refl one where
  not_exclusive : holds_it (child_face x n) ≡ false → (t : Bool) → child_is_exclusive x n ≡ t → child_is_exclusive x n ≡ false
  not_exclusive e true i = absurd (true≢false (sym (exclusive_held (child_face x n).hold (seen_exclusive x n i)) ∙ e))
  not_exclusive e false i = i

  go : (t : Bool) → holds_it (child_face x n) ≡ t → (if t then not (list_any holds_it (faces_of x ns)) else one_holds (faces_of x ns)) ≡ true → (child_is_exclusive x n ≡ false) × (one_holds (faces_of x ns) ≡ true)
  go true e one = absurd (true≢false (sym (holder_of_exclusive (faces_of x ns) h) ∙ not-true _ one))
  go false e one = (not_exclusive e (child_is_exclusive x n) refl, one)

claimed_here : (x : ℕ) (path : List ℕ) (d : DirValue) (i : ℕ) (n : Node) (ns : Nodes) (a : LeafAt) → ClaimedBy x (spot_in path d i) n a → ClaimedAmong x path d i (more_nodes n ns) a
claimed_here x path d i n ns a h e = (exclusive_here x n (children ns) (h e).0, λ one. (claim x (spot_in path d i) n, rw (h e).0 refl, (h e).1))

claimed_later : (x : ℕ) (path : List ℕ) (d : DirValue) (i : ℕ) (n : Node) (ns : Nodes) (a : LeafAt) → ClaimedAmong x path d (i + 1) ns a → ClaimedAmong x path d i (more_nodes n ns) a
claimed_later x path d i n ns a h e = (exclusive_later x n (children ns) (h e).0, λ one. go (first_other x n (children ns) (h e).0 one)) where
  go : ((child_is_exclusive x n ≡ false) × (one_holds (faces_of x (children ns)) ≡ true)) → FirstClaimBegins x path d i (more_nodes n ns) a
  go p = let f : FirstClaimBegins x path d (i + 1) ns a = (h e).1 p.1 in (f.0, rw p.0 f.1, f.2)

claimed_dir : (x : ℕ) (c : Spot) (d : DirValue) (ns : Nodes) → ItemRules (parent_face x d) (faces_of x (children ns)) → (a : LeafAt) → ClaimedAmong x (spot_path c) d 0 ns a → ClaimedBy x c (dir_node d ns) a
claimed_dir x c d ns rules a h e =
    let up : DirAbove x d ns = dir_above x d ns rules (h e).0 in
    let f : FirstClaimBegins x (spot_path c) d 0 ns a = (h e).1 up.one in
    (up.hold, (f.2.0, f.2.1 ∙ ap (λ t. t ++ f.2.0) (sym (dir_claim x c d ns f.0 (up.no_exclusive c.above) f.1))))

mutual
  pub claimed_by : (items x : ℕ) (c : Spot) (n : Node) → x < items → IsTreeOk items n → AllByRecursion (ClaimedBy x c n) (leaves_in c n)
  claimed_by items x c (leaf_node v) l ok = ((λ e. (e, (c.number ∷ v.done ∷ [], refl))), tt)
  claimed_by items x c (dir_node d ns) l ok = each-weaker _ _ (claimed_dir x c d ns (ok.0.rules x l)) _ (claimed_among items x (spot_path c) d 0 ns l ok.1)

  pub claimed_among : (items x : ℕ) (path : List ℕ) (d : DirValue) (i : ℕ) (ns : Nodes) → x < items → AreTreesOk items ns → AllByRecursion (ClaimedAmong x path d i ns) (placed_leaves path d i ns)
  claimed_among items x path d i no_nodes l ok = tt
  claimed_among items x path d i (more_nodes n ns) l ok =
      each-append _ (leaves_in (spot_in path d i) n) (placed_leaves path d (i + 1) ns) (each-weaker _ _ (claimed_here x path d i n ns) _ (claimed_by items x (spot_in path d i) n l ok.0))
      (each-weaker _ _ (claimed_later x path d i n ns) _ (claimed_among items x path d (i + 1) ns l ok.1))
