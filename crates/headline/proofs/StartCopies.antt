-- The copies of an item before the first turn: they have no end and the start's words; who doesn't hold the item has neither a copy
-- of it nor a claim.
use Rattle.std.proofs.Common.{◌≡◌, ℕ, ◌+◌, ◌<◌, Bool, true, false, inl, inr, List, [], ◌∷◌, length, map, Option, Some, None, is_some, option_map, refl, sym, ap, subst, ◌∙◌, arith}
use Rattle.std.specs.Prelude.{slice_index_or, nat_eq}
use Rattle.std.specs.List.{AllByRecursion, list_any}
use Rattle.std.proofs.lemmas.Bool.{and_parts, or_parts, true≢false, false≢true}
use Rattle.headline.specs.DdmTypes.declared.sizes.Start.{Start}
use Rattle.headline.specs.DdmTypes.declared.sizes.Hold.{Hold}
use Rattle.headline.specs.DdmTypes.declared.sizes.LeafState.{LeafState}
use Rattle.headline.specs.TreeModel.State.Lists.{first_some}
use Rattle.headline.specs.TreeModel.State.States.{entry_hold, is_held, is_exclusive}
use Rattle.headline.specs.TreeModel.State.Values.{WayValue, LeafValue, DirValue, Node, Nodes, leaf_node, dir_node, no_nodes, more_nodes, children}
use Rattle.headline.specs.TreeModel.State.Leaf.{words_of_item, LeafEntry, entry_state, entry_at, leaf_entry, way_at, way_entry, buffer_entry, buffered, leaf_hold}
use Rattle.headline.specs.TreeModel.State.Directory.{queue_of, dir_hold}
use Rattle.headline.specs.TreeModel.State.Child.{child_hold, child_replies}
use Rattle.headline.specs.TreeModel.State.Place.{Spot, spot_path, spot_in}
use Rattle.headline.specs.TreeRules.Bus.Faces.{child_face, parent_face, faces_of}
use Rattle.headline.specs.TreeRules.Bus.Item.{holds_it, holds_exclusive, ItemRules}
use Rattle.headline.specs.TreeRules.Bus.Rules.{IsTreeOk, AreTreesOk}
use Rattle.headline.specs.TreeRules.Order.Moments.{is_under, parted, moment_at, spot_moment}
use Rattle.headline.specs.TreeRules.Order.Copies.{CopyAt, cut, first_erase, downs, copies_here, entry_copies, inner, handed}
use Rattle.headline.specs.TreeRules.Order.Claims.{child_is_exclusive, claims_in, claims_among}
use Rattle.headline.proofs.OrderLists.Filters.{each-append}
use Rattle.headline.proofs.OrderLists.NoHold.{HasEnd, seen_hold, none_held, none_counted}
use Rattle.headline.proofs.OrderLists.ExclusiveClaims.{dir_above}
use Rattle.headline.proofs.StartFresh.{IsFreshLeaf, IsFreshDir, IsFresh, AreFresh}

-- ---- paths

pub parted-under : (p q : List ℕ) → is_under p q ≡ true → parted p q ≡ length p
parted-under [] q h = refl
parted-under (c ∷ p) [] h = absurd (false≢true h)
parted-under (c ∷ p) (d ∷ q) h =
    let parts : (nat_eq c d ≡ true) × (is_under p q ≡ true) = and_parts (nat_eq c d) _ h in
    let rest = parted-under p q parts.1 in
    rw parts.0 (omega (arith, rest))

module _ (start : Start) (words : List (List ℕ)) (items x : ℕ) (below : x < items) where
  abbrev pub Fresh : Node → Type 0
  Fresh n = IsFresh start words n

  abbrev pub AllFresh : Nodes → Type 0
  AllFresh ns = AreFresh start words ns

  -- ---- entries

  fresh-entry : (v : LeafValue) → IsFreshLeaf start words v → (e : LeafEntry) → leaf_entry x v ≡ Some e → (e.state ≡ LeafState.Exclusive) × (e.words ≡ slice_index_or words x [])
  unfolding entry_at
  fresh-entry v f e there = go (way_at x v.ways) refl where
    go : (o : Option WayValue) → way_at x v.ways ≡ o → (e.state ≡ LeafState.Exclusive) × (e.words ≡ slice_index_or words x [])
    go (Some w) is =
        let same : Some (way_entry w) ≡ Some e = sym (ap (λ o. first_some (option_map way_entry o) (option_map buffer_entry (buffered x v.buffer))) is) ∙ there in
        let one : way_entry w ≡ e = cc in
        subst (λ (u : LeafEntry). (u.state ≡ LeafState.Exclusive) × (u.words ≡ slice_index_or words x [])) one (f.entries x w is)
    go None is =
        let none : None ≡ Some e = sym (ap (λ o. first_some (option_map way_entry o) (option_map buffer_entry (buffered x v.buffer))) is ∙ ap (λ b. option_map buffer_entry (buffered x b)) f.buffer) ∙ there in
        absurd (let wrong : ⊥ = cc in wrong)

  -- a fresh node that doesn't hold the item Exclusive doesn't hold it
  pub not_held : (n : Node) → Fresh n → is_exclusive (child_hold x n) ≡ false → is_held (child_hold x n) ≡ false
  unfolding leaf_hold
  not_held (leaf_node v) f h = go (leaf_entry x v) refl where
    go : (o : Option LeafEntry) → leaf_entry x v ≡ o → is_held (leaf_hold x v) ≡ false
    go None is = ap (λ o. is_held (entry_hold (option_map entry_state o))) is
    go (Some e) is =
        let held : leaf_hold x v ≡ Hold.Exclusive = ap (λ o. entry_hold (option_map entry_state o)) is ∙ ap (λ s. entry_hold (Some s)) (fresh-entry v f e is).0 in
        absurd (true≢false (sym (ap is_exclusive held) ∙ h))
  not_held (dir_node d ns) f h =
      elim (f.0.items x) as (λ _. is_held (dir_hold x d) ≡ false) [
        | inl held ↦ absurd (true≢false (sym (ap is_exclusive held) ∙ h))
        | inr none ↦ ap is_held none
      ]

  -- ---- a copy has no end, and the start's words

  abbrev pub IsStartCopy : CopyAt → Type 0
  IsStartCopy k = (k.end ≡ None) × (k.words ≡ slice_index_or words x [])

  no_queue : (d : DirValue) → IsFreshDir d → queue_of x d.down ≡ []
  unfolding queue_of
  no_queue d f = rw f.down refl

  entry-start : (path clock : List ℕ) (v : LeafValue) → IsFreshLeaf start words v → (o : Option LeafEntry) → leaf_entry x v ≡ o → AllByRecursion IsStartCopy (entry_copies path clock o)
  entry-start path clock v f None is = tt
  entry-start path clock v f (Some e) is = go (is_held (entry_hold (Some e.state))) refl where
    go : (t : Bool) → is_held (entry_hold (Some e.state)) ≡ t → AllByRecursion IsStartCopy (entry_copies path clock (Some e))
    go true k = rw k ((refl, (fresh-entry v f e is).1), tt)
    go false k = rw k tt

  cut-start : (o : Option (List ℕ)) → o ≡ None → (ks : List CopyAt) → AllByRecursion IsStartCopy ks → AllByRecursion IsStartCopy (map (cut o) ks)
  cut-start o is [] h = tt
  cut-start o is (k ∷ ks) h = ((ap (λ e. first_some e o) h.0.0 ∙ is, h.0.1), cut-start o is ks h.1)

  pub none_parked : (P : CopyAt → Type 0) (path clock : List ℕ) (ws : List (List ℕ)) → ws ≡ [] → AllByRecursion P (copies_here path clock ws)
  none_parked P path clock ws e = rw e tt

  pub no_words : (d : DirValue) → IsFreshDir d → words_of_item x d.parked ≡ []
  unfolding words_of_item
  no_words d f = rw f.parked refl

  no_replies : (n : Node) → Fresh n → words_of_item x (child_replies n) ≡ []
  unfolding words_of_item
  no_replies (leaf_node v) f = rw f.replies refl
  no_replies (dir_node d ns) f = rw f.0.replies refl

  -- of a directory, from what its children hand to it
  pub dir-each : (P : CopyAt → Type 0) → ((ks : List CopyAt) → AllByRecursion P ks → (o : Option (List ℕ)) → o ≡ None → AllByRecursion P (map (cut o) ks)) → (c : Spot) (d : DirValue) (ns : Nodes) → IsFreshDir d → AllByRecursion P (handed x (spot_path c) (moment_at c.above d.epoch) d 0 ns) → AllByRecursion P (inner x c (dir_node d ns))
  dir-each P cuts c d ns f h =
      each-append P _ (downs (spot_path c) c.above (queue_of x d.down))
      (cuts _ (each-append P (handed x (spot_path c) (moment_at c.above d.epoch) d 0 ns) _ h (none_parked P (spot_path c) (moment_at c.above d.epoch) (words_of_item x d.parked) (no_words d f))) (first_erase c.above (queue_of x d.down)) (ap (first_erase c.above) (no_queue d f)))
      (subst (λ q. AllByRecursion P (downs (spot_path c) c.above q)) (sym (no_queue d f)) tt)

  -- of a child and those behind it
  pub child-each : (P : CopyAt → Type 0) (path bound : List ℕ) (d : DirValue) (i : ℕ) (n : Node) (ns : Nodes) → Fresh n → AllByRecursion P (inner x (spot_in path d i) n) → AllByRecursion P (handed x path bound d (i + 1) ns) → AllByRecursion P (handed x path bound d i (more_nodes n ns))
  child-each P path bound d i n ns f h k = each-append P _ (handed x path bound d (i + 1) ns) (each-append P (inner x (spot_in path d i) n) _ h (none_parked P path bound (words_of_item x (child_replies n)) (no_replies n f))) k

  mutual
    inner-start : (c : Spot) (n : Node) → Fresh n → AllByRecursion IsStartCopy (inner x c n)
    inner-start c (leaf_node v) f = entry-start (spot_path c) (spot_moment c) v f (leaf_entry x v) refl
    inner-start c (dir_node d ns) f = dir-each IsStartCopy (λ ks h o e. cut-start o e ks h) c d ns f.0 (handed-start (spot_path c) (moment_at c.above d.epoch) d 0 ns f.1)

    pub handed-start : (path bound : List ℕ) (d : DirValue) (i : ℕ) (ns : Nodes) → AllFresh ns → AllByRecursion IsStartCopy (handed x path bound d i ns)
    handed-start path bound d i no_nodes f = tt
    handed-start path bound d i (more_nodes n ns) f = child-each IsStartCopy path bound d i n ns f.0 (inner-start (spot_in path d i) n f.0) (handed-start path bound d (i + 1) ns f.1)

  -- ---- who doesn't hold the item has no copy and no claim

  no_end : (ks : List CopyAt) → AllByRecursion HasEnd ks → AllByRecursion IsStartCopy ks → ks ≡ []
  no_end [] h s = refl
  no_end (k ∷ ks) h s = absurd (true≢false (sym h.0 ∙ ap (λ o. is_some o) s.0.0))

  pub no_copies : (c : Spot) (n : Node) → Fresh n → IsTreeOk items n → is_held (child_hold x n) ≡ false → inner x c n ≡ []
  no_copies c n f ok h = no_end (inner x c n) (none_held items x c n below ok h) (inner-start c n f)

  pub none-handed : (path bound : List ℕ) (d : DirValue) (i : ℕ) (ns : Nodes) → AllFresh ns → AreTreesOk items ns → list_any holds_it (faces_of x (children ns)) ≡ false → handed x path bound d i ns ≡ []
  none-handed path bound d i no_nodes f ok h = refl
  none-handed path bound d i (more_nodes n ns) f ok h =
      let none : (is_held (child_hold x n) ≡ false) × (list_any holds_it (faces_of x (children ns)) ≡ false) = none_counted x n (children ns) h in
      rw (no_copies (spot_in path d i) n f.0 ok.0 none.0) (rw (no_replies n f.0) (none-handed path bound d (i + 1) ns f.1 ok.1 none.1))

  none_exclusive : (d : DirValue) (ns : Nodes) → ItemRules (parent_face x d) (faces_of x (children ns)) → is_exclusive (dir_hold x d) ≡ false → list_any holds_exclusive (faces_of x (children ns)) ≡ false
  none_exclusive d ns rules h = go (list_any holds_exclusive (faces_of x (children ns))) refl where
    go : (t : Bool) → list_any holds_exclusive (faces_of x (children ns)) ≡ t → list_any holds_exclusive (faces_of x (children ns)) ≡ false
    go true e = absurd (true≢false (sym (dir_above x d ns rules e).hold ∙ h))
    go false e = e

  mutual
    pub no_claims : (c : Spot) (n : Node) → IsTreeOk items n → child_is_exclusive x n ≡ false → claims_in x c n ≡ []
    no_claims c (leaf_node v) ok h = rw h refl
    no_claims c (dir_node d ns) ok h = rw h (none-claimed (spot_path c) d 0 ns ok.1 (none_exclusive d ns (ok.0.rules x below) h))

    pub none-claimed : (path : List ℕ) (d : DirValue) (i : ℕ) (ns : Nodes) → AreTreesOk items ns → list_any holds_exclusive (faces_of x (children ns)) ≡ false → claims_among x path d i ns ≡ []
    none-claimed path d i no_nodes ok h = refl
    none-claimed path d i (more_nodes n ns) ok h =
        let none : (holds_exclusive (child_face x n) ≡ false) × (list_any holds_exclusive (faces_of x (children ns)) ≡ false) = or_parts _ _ h in
        let here : child_is_exclusive x n ≡ false = subst (λ k. is_exclusive k ≡ false) (seen_hold x n) none.0 in
        rw (no_claims (spot_in path d i) n ok.0 here) (none-claimed path d (i + 1) ns ok.1 none.1)
