-- The claim of a bus's parent: as far as the bus above knows it doesn't fall.
-- Letters: c is where the parent stands, p the parent, q after it, ns and ms its children, x the item, n the number of items.
use Rattle.std.proofs.Common.{◌≡◌, ℕ, ◌+◌, ◌<◌, true, false, List, [], ◌∷◌, length, take, Option, Some, None, IfSome, refl, sym, ap, subst, ◌∙◌, ◌⊎◌, inl, inr, arith}
use Rattle.std.specs.Prelude.{unwrap_or, if◌then◌else◌}
use Rattle.std.specs.List.{AllByRecursion, list_any}
use Rattle.std.proofs.lemmas.List.{length-append, take_all, take-take}
use Rattle.order_laws.specs.DdmTypes.declared.keys.Stamp.{Stamp}
use Rattle.order_laws.specs.DdmTypes.declared.sizes.Hold.{Hold}
use Rattle.order_laws.specs.TreeModel.State.Blank.{no_node}
use Rattle.order_laws.specs.TreeModel.State.Lists.{first_some}
use Rattle.order_laws.specs.TreeModel.State.States.{is_held, is_exclusive}
use Rattle.order_laws.specs.TreeModel.State.Values.{DirValue, Node, dir_node, nodes, children}
use Rattle.order_laws.specs.TreeModel.State.Directory.{is_top, queue_of, stamp_of}
use Rattle.order_laws.specs.TreeModel.State.Place.{Spot, spot_path, spot_in}
use Rattle.order_laws.specs.TreeModel.Turns.Children.{child_at}
use Rattle.order_laws.specs.TreeRules.Bus.Faces.{parent_face, child_face, faces_of}
use Rattle.order_laws.specs.TreeRules.Bus.Item.{holds_exclusive, exclusive_alone, ItemRules, bits_of}
use Rattle.order_laws.specs.TreeRules.Bus.Rules.{IsBusOk, IsChildOk}
use Rattle.order_laws.proofs.TreeRules.Implying.{implies-use}
use Rattle.order_laws.specs.TreeRules.Order.Claims.{last_exclusive, child_is_exclusive, claim, first_claim}
use Rattle.order_laws.specs.TreeRules.Order.Directories.{IsClocked, IsOrdered}
use Rattle.order_laws.specs.TreeRules.Order.Moments.{less, less_at, moment_at, moment_length, GoesOn}
use Rattle.order_laws.specs.TreeRules.Order.Places.{placed_dirs}
use Rattle.bus_laws.proofs.Answering.{child-hold}
use Rattle.bus_laws.proofs.BitsOf.{any-true}
use Rattle.bus_laws.proofs.OneChild.{others-absent}
use Rattle.order_laws.proofs.Moves.Below.{dir_above, below_goes_on, shallow, first_claim_goes_on}
use Rattle.order_laws.proofs.TreeModel.Children.{children-nodes}
use Rattle.order_lists.proofs.Clocks.{here}
use Rattle.order_lists.proofs.Moments.{less-irreflexive, at_most-at, at_most-transitive, at_most_at-fewer, GoesOn-at}
use Rattle.order_lists.proofs.Stamps.{moment_at-length}
use Rattle.order_laws.proofs.Moves.BusClaims.{KidOwn, first-from, first-only}
use Rattle.order_laws.proofs.Moves.RowClaims.{QueueClaim, queue_same, queue_taken, queue_pushed}

-- ---- values

abbrev value : Option (List ℕ) → Option (List ℕ) → List ℕ → List ℕ
value l f b = unwrap_or (first_some l f) b

module _ (n : ℕ) where
  -- no less in the first numbers
  abbrev AtLeast : List ℕ → List ℕ → Type 0
  AtLeast b a = less_at n b a ≡ false

  chain : (a b c : List ℕ) → AtLeast b a → AtLeast c b → AtLeast c a
  chain a b c h k = at_most-transitive (take n a) (take n b) (take n c) h k

  itself : (a : List ℕ) → AtLeast a a
  itself a = less-irreflexive (take n a)

  value-kept : (l l' f f' : Option (List ℕ)) (b b' : List ℕ) → AtLeast b' b → (l ≡ None → AtLeast b (value None f b)) → ((t' : List ℕ) → f' ≡ Some t' → AtLeast t' b' ⊎ ((l ≡ None) × ((t : List ℕ) × ((f ≡ Some t) × AtLeast t' t)))) → (l' ≡ l) ⊎ (((l' ≡ None) × (l ≡ Some b')) ⊎ ((l ≡ None) × ((m : List ℕ) × ((l' ≡ Some m) × AtLeast m b)))) → AtLeast (value l' f' b') (value l f b)
  value-kept l l' f f' b b' rise upper lower (inr (inr pushed)) =
      let m : List ℕ = pushed.1.0 in
      let after : value l' f' b' ≡ m = ap (λ o. value o f' b') pushed.1.1.0 in
      let before : value l f b ≡ value None f b = ap (λ o. value o f b) pushed.0 in
      subst (λ u. AtLeast u (value l f b)) (sym after) (subst (AtLeast m) (sym before) (chain (value None f b) b m (upper pushed.0) pushed.1.1.1))
  value-kept l l' f f' b b' rise upper lower (inr (inl taken)) =
      let before : value l f b ≡ b' = ap (λ o. value o f b) taken.1 in
      subst (AtLeast (value l' f' b')) (sym before) (subst (λ o. AtLeast (value o f' b') b') (sym taken.0) (after f' refl)) where
        after : (o : Option (List ℕ)) → f' ≡ o → AtLeast (value None o b') b'
        after None e = itself b'
        after (Some t') e =
            elim (lower t' e) as (λ _. AtLeast t' b') [
              | inl h ↦ h
              | inr h ↦ absurd (let no : None ≡ Some b' = sym h.0 ∙ taken.1 in cc)
            ]
  value-kept l l' f f' b b' rise upper lower (inl same) = subst (λ o. AtLeast (value o f' b') (value l f b)) (sym same) (by l refl) where
    by : (o : Option (List ℕ)) → l ≡ o → AtLeast (value l f' b') (value l f b)
    by (Some m) e = subst (λ o. AtLeast (value o f' b') (value o f b)) (sym e) (itself m)
    by None e = subst (λ o. AtLeast (value o f' b') (value o f b)) (sym e) (after f' refl) where
      low : AtLeast b' (value None f b)
      low = chain (value None f b) b b' (upper e) rise

      after : (o : Option (List ℕ)) → f' ≡ o → AtLeast (value None o b') (value None f b)
      after None i = low
      after (Some t') i =
          elim (lower t' i) as (λ _. AtLeast t' (value None f b)) [
            | inl h ↦ chain (value None f b) b' t' low h
            | inr h ↦ subst (λ o. AtLeast t' (value None o b)) (sym h.1.1.0) h.1.1.1
          ]

-- ---- the parent

module _ (n x : ℕ) (c : Spot) (p q : DirValue) (ns ms : List Node) (bus : IsBusOk n p ns) (kids : AllByRecursion (IsChildOk n) ns) (within : x < n) (clocked : IsClocked (here c p)) (ordered : AllByRecursion IsOrdered (placed_dirs (spot_path c) p 0 (nodes ns))) where
  abbrev far : ℕ
  far = moment_length (length c.above)

  abbrev b : List ℕ
  b = moment_at c.above p.epoch

  abbrev b' : List ℕ
  b' = moment_at c.above q.epoch

  exclusive-face : (i : ℕ) → child_is_exclusive x (child_at i ns) ≡ true → is_exclusive (child_face x (child_at i ns)).hold ≡ true
  exclusive-face i is = ap is_exclusive (sym (child-hold x (child_at i ns))) ∙ is

  some : (i : ℕ) → i < length ns → child_is_exclusive x (child_at i ns) ≡ true → (bits_of (parent_face x p) (faces_of x ns)).exclusive ≡ true
  some i l is = any-true (child_face x) no_node holds_exclusive ns i l (exclusive-face i is)

  held-exclusive : (h : Hold) → is_exclusive h ≡ true → is_held h ≡ true
  held-exclusive Hold.Invalid e = cc
  held-exclusive Hold.Shared e = cc
  held-exclusive Hold.Exclusive e = refl

  not-held-exclusive : (h : Hold) → is_held h ≡ false → is_exclusive h ≡ false
  not-held-exclusive Hold.Invalid e = refl
  not-held-exclusive Hold.Shared e = cc
  not-held-exclusive Hold.Exclusive e = cc

  -- an exclusive child is alone, and nothing comes down
  alone : (i : ℕ) → i < length ns → child_is_exclusive x (child_at i ns) ≡ true → first_claim x (spot_path c) p 0 (nodes ns) ≡ Some (claim x (spot_in (spot_path c) p (0 + i)) (child_at i ns))
  alone i l is =
      let sole = implies-use (bits_of (parent_face x p) (faces_of x ns)).exclusive _ ((bus.rules x within).each exclusive_alone) (some i l is) in
      first-only x (spot_path c) p 0 i ns l is (λ j lj ne. ap is_exclusive (child-hold x (child_at j ns)) ∙ not-held-exclusive (child_face x (child_at j ns)).hold (others-absent n x p ns bus kids within i l (held-exclusive (child_face x (child_at i ns)).hold (exclusive-face i is)) sole j lj ne))

  empty : (i : ℕ) → i < length ns → child_is_exclusive x (child_at i ns) ≡ true → last_exclusive c.above (queue_of x p.down) ≡ None
  empty i l is =
      let rules : ItemRules (parent_face x p) (faces_of x (children (nodes ns))) = subst (λ ks. ItemRules (parent_face x p) (faces_of x ks)) (sym (children-nodes ns)) (bus.rules x within) in
      let found : list_any holds_exclusive (faces_of x (children (nodes ns))) ≡ true = subst (λ ks. list_any holds_exclusive (faces_of x ks) ≡ true) (sym (children-nodes ns)) (some i l is) in
      (dir_above x p (nodes ns) rules found).1.1 c.above

  short : (s : Stamp) → length (moment_at c.above s) ≡ far
  short s = moment_at-length c.above s (shallow c p clocked)

  -- a claim below is no greater than what the bus took over last
  upper : (f : Option (List ℕ)) → first_claim x (spot_path c) p 0 (nodes ns) ≡ f → less_at far b (value None f b) ≡ false
  upper None e = less-irreflexive (take far b)
  upper (Some t) e =
      let on : IfSome (first_claim x (spot_path c) p 0 (nodes ns)) (λ t. GoesOn t b) = first_claim_goes_on x (spot_path c) b p 0 (nodes ns) (λ f g. (below_goes_on c p clocked f g).0) ordered in
      let g : GoesOn t b = subst (λ o. IfSome o (λ t. GoesOn t b)) e on in
      GoesOn-at far t b g (let size : length b ≡ far = short p.epoch in omega (arith, size))

  module _ (new : List ℕ) (begins : take (length b') new ≡ b') (many : length ms ≡ length ns) (own : (i : ℕ) → i < length ns → KidOwn x (spot_path c) new (stamp_of p) (stamp_of q) (0 + i) (child_at i ns) (child_at i ms)) (rise : less b' b ≡ false) (queue : QueueClaim x c.above c.present p q) (below : is_top p ≡ false) where
    one : length (spot_path c) ≡ length c.above + 1
    one = length-append c.above (c.number ∷ [])

    -- a claim of the new moment is no less than what the bus takes over
    fresh : (t' : List ℕ) → take (moment_length (length (spot_path c))) t' ≡ new → less_at far t' b' ≡ false
    fresh t' is =
        let size : length b' ≡ far = short q.epoch in
        let first : take far t' ≡ b' = sym (take-take far (moment_length (length (spot_path c))) t' (omega (arith, one))) ∙ (ap (take far) is ∙ (ap (λ k. take k new) (sym size) ∙ begins)) in
        let whole : take far b' ≡ b' = take_all far b' (omega (arith, size)) in
        ap (λ u. less u (take far b')) first ∙ (ap (less b') whole ∙ less-irreflexive b')

    lower : (t' : List ℕ) → first_claim x (spot_path c) q 0 (nodes ms) ≡ Some t' → (less_at far t' b' ≡ false) ⊎ ((last_exclusive c.above (queue_of x p.down) ≡ None) × ((t : List ℕ) × ((first_claim x (spot_path c) p 0 (nodes ns) ≡ Some t) × (less_at far t' t ≡ false))))
    lower t' is =
        elim (first-from x (spot_path c) new p q 0 ns ms many own t' is) as (λ _. (less_at far t' b' ≡ false) ⊎ ((last_exclusive c.above (queue_of x p.down) ≡ None) × ((t : List ℕ) × ((first_claim x (spot_path c) p 0 (nodes ns) ≡ Some t) × (less_at far t' t ≡ false))))) [
          | inl f ↦ inl (fresh t' f)
          | inr k ↦ inr (empty k.number k.there k.exclusive, (claim x (spot_in (spot_path c) p (0 + k.number)) (child_at k.number ns), (alone k.number k.there k.exclusive, at_most_at-fewer far (moment_length (length (spot_path c))) (claim x (spot_in (spot_path c) p (0 + k.number)) (child_at k.number ns)) t' (omega (arith, one)) k.least)))
        ]

    queue-value : QueueClaim x c.above c.present p q → (last_exclusive c.above (queue_of x q.down) ≡ last_exclusive c.above (queue_of x p.down)) ⊎ (((last_exclusive c.above (queue_of x q.down) ≡ None) × (last_exclusive c.above (queue_of x p.down) ≡ Some b')) ⊎ ((last_exclusive c.above (queue_of x p.down) ≡ None) × ((m : List ℕ) × ((last_exclusive c.above (queue_of x q.down) ≡ Some m) × (less_at far m b ≡ false)))))
    queue-value (queue_same e) = inl e
    queue-value (queue_taken s epoch after before) =
        let at : q.epoch ≡ s = epoch ∙ ap (λ t. if t then p.epoch else s) below in
        inr (inl (after, before ∙ ap (λ t. Some (moment_at c.above t)) (sym at)))
    queue-value (queue_pushed epoch before after) = inr (inr (before, (moment_at c.above c.present, (after, at_most-at far b (moment_at c.above c.present) clocked.taken))))

    pub parent-claim : less_at far (claim x c (dir_node q (nodes ms))) (claim x c (dir_node p (nodes ns))) ≡ false
    parent-claim = value-kept far (last_exclusive c.above (queue_of x p.down)) (last_exclusive c.above (queue_of x q.down)) (first_claim x (spot_path c) p 0 (nodes ns)) (first_claim x (spot_path c) q 0 (nodes ms)) b b' (at_most-at far b b' rise) (λ e. upper (first_claim x (spot_path c) p 0 (nodes ns)) refl) lower (queue-value queue)
