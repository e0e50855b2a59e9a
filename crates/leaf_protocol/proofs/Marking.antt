-- The tags of a memory mark the items that have an entry in a way.
-- Letters: h is a list of marks, m a memory, t a tag, x and y are items.
use Rattle.std.proofs.Common.{◌≡◌, ℕ, zero, suc, ◌+◌, ◌*◌, ◌/◌, ◌%◌, ◌<◌, ◌≤◌, ◌↔◌, Bool, true, false, ◌||◌, nat_eq, List, [], ◌∷◌, length, map, drop, get_or, set, Option, Some, None, IfSome, IsSomeAnd, refl, sym, ap, subst, ◌∙◌, inl, inr, arith, add-one, length-set}
use Rattle.std.specs.Prelude.{is_some, option_map, slice_index_or}
use Rattle.std.specs.List.{list_any}
use Rattle.std.proofs.Math.Bool.{or_assoc, or-true, or-false}
use Rattle.std.proofs.Math.Seq.{drop-cons}
use Rattle.std.proofs.lemmas.Bool.{eq-eqb, ne_eqb}
use Rattle.std.proofs.lemmas.List.{same_lists, drop_all, get_or-set_same, get_or-set_other, get_or_past, length-map, get_or-map, get_or_default}
use Rattle.std.proofs.lemmas.List.Folds.{list_any_at, list_any_none}
use Rattle.leaf_protocol.specs.DdmTypes.declared.sizes.LeafState.{LeafState}
use Rattle.leaf_protocol.specs.TreeModel.Start.Nodes.{or_each}
use Rattle.attraction_mem.specs.Memory.{EntryValue, MemoryValue, entry_of, StandsAs}
use Rattle.attraction_mem.proofs.Holding.{equal_or_not}
use Rattle.attraction_mem.proofs.Standing.{place_again}
use Rattle.leaf_protocol.specs.Entries.{way_value, way_of, ways_of, with_mark}
use Rattle.leaf_protocol.proofs.Ways.{below-or-past, ways_of-length, ways_of-inside}

abbrev pub Tag : Type 0
Tag = Option (ℕ × LeafState)

-- all tags of a list have marked
abbrev pub marked_by : List Tag → List Bool → List Bool
marked_by [] h = h
marked_by (t ∷ ts) h = marked_by ts (with_mark t h)

pub marked-next : (k : ℕ) (ts : List Tag) (t : Tag) (h : List Bool) → k < length ts → t ≡ get_or ts k None → marked_by (drop (k + 1) ts) (with_mark t h) ≡ marked_by (drop k ts) h
marked-next k ts t h inside is = sym (ap (λ us. marked_by us h) (drop-cons ts k None inside) ∙ ap (λ u. marked_by (drop (suc k) ts) (with_mark u h)) (sym is) ∙ ap (λ i. marked_by (drop i ts) (with_mark t h)) (sym (add-one k)))

pub marked-end : (k : ℕ) (ts : List Tag) (h : List Bool) → length ts ≤ k → marked_by (drop k ts) h ≡ h
marked-end k ts h past = ap (λ us. marked_by us h) (drop_all k ts past)

-- ---- one place of the list

abbrev pub is_of : ℕ → Tag → Bool
is_of x None = false
is_of x (Some t) = nat_eq t.0 x

mark-length : (t : Tag) (h : List Bool) → length (with_mark t h) ≡ length h
mark-length None h = refl
mark-length (Some t) h = length-set h t.0 true

mark-at : (t : Tag) (h : List Bool) (x : ℕ) (d : Bool) → x < length h → get_or (with_mark t h) x d ≡ (get_or h x d || is_of x t)
mark-at None h x d inside = sym (or-false (get_or h x d))
mark-at (Some t) h x d inside = elim (equal_or_not x t.0) [
  | inl same ↦
      let within : t.0 < length h = subst (λ y. y < length h) same inside in
      ap (λ y. get_or (set h t.0 true) y d) same ∙ get_or-set_same h t.0 true d within ∙ sym (or-true (get_or h x d)) ∙ ap (λ b. get_or h x d || b) (sym (eq-eqb t.0 x (sym same)))
  | inr other ↦
      get_or-set_other h t.0 x true d other ∙ sym (or-false (get_or h x d)) ∙ ap (λ b. get_or h x d || b) (sym (ne_eqb t.0 x (λ e. other (sym e))))
]

marked-length : (ts : List Tag) (h : List Bool) → length (marked_by ts h) ≡ length h
marked-length [] h = refl
marked-length (t ∷ ts) h = marked-length ts (with_mark t h) ∙ mark-length t h

marked-at : (ts : List Tag) (h : List Bool) (x : ℕ) (d : Bool) → x < length h → get_or (marked_by ts h) x d ≡ (get_or h x d || list_any (is_of x) ts)
marked-at [] h x d inside = sym (or-false (get_or h x d))
marked-at (t ∷ ts) h x d inside =
    let within : x < length (with_mark t h) = rw (mark-length t h) inside in
    marked-at ts (with_mark t h) x d within ∙ ap (λ b. b || list_any (is_of x) ts) (mark-at t h x d inside) ∙ or_assoc (get_or h x d) (is_of x t) (list_any (is_of x) ts)

pub each-length : (bs cs : List Bool) → length cs ≤ length bs → length (or_each bs cs) ≡ length bs
each-length [] [] fits = refl
each-length [] (c ∷ cs) fits = absurd (omega (arith, fits))
each-length (b ∷ bs) [] fits = refl
each-length (b ∷ bs) (c ∷ cs) fits =
    let rest = each-length bs cs (omega (arith, fits)) in
    omega (arith, rest)

each-at : (bs cs : List Bool) (x : ℕ) (d : Bool) → length bs ≡ length cs → x < length bs → get_or (or_each bs cs) x d ≡ (get_or bs x d || get_or cs x d)
each-at [] cs x d e inside = absurd (omega (arith, inside))
each-at (b ∷ bs) [] x d e inside = absurd (omega (arith, e))
each-at (b ∷ bs) (c ∷ cs) zero d e inside = refl
each-at (b ∷ bs) (c ∷ cs) (suc x) d e inside = each-at bs cs x d (omega (arith, e)) (omega (arith, inside))

-- ---- the items that have a tag are those with an entry

module _ (ways n : ℕ) (m : MemoryValue) (tags : List Tag) (some : 0 < ways) (standing : (set way x : ℕ) (s : LeafState) → way < ways → (slice_index_or tags (set * ways + way) None ≡ Some (x, s)) ↔ StandsAs m set way x s) (within : (x : ℕ) → IfSome (entry_of m x) (λ e. e.way < ways)) where
  tag-there : (x : ℕ) (e : EntryValue) → entry_of m x ≡ Some e → list_any (is_of x) tags ≡ true
  tag-there x e is =
      let way : e.way < ways = subst (λ o. IfSome o (λ f. f.way < ways)) is (within x) in
      let stands : IsSomeAnd (entry_of m x) (λ f. (f.way ≡ e.way) × (f.state ≡ e.state)) = subst (λ o. IsSomeAnd o (λ f. (f.way ≡ e.way) × (f.state ≡ e.state))) (sym is) (refl, refl) in
      let place = x % m.sets * ways + e.way in
      let tag : get_or tags place None ≡ Some (x, e.state) = (standing (x % m.sets) e.way x e.state way).1 (refl, stands) in
      let inside : place < length tags = inside-by place x e.state tag in
      list_any_at (is_of x) tags place None inside (ap (is_of x) tag ∙ eq-eqb x x refl)
    where
      inside-by : (p y : ℕ) (s : LeafState) → get_or tags p None ≡ Some (y, s) → p < length tags
      inside-by p y s tag = elim (below-or-past p (length tags)) [
        | inl inside ↦ inside
        | inr past ↦ let none : get_or tags p None ≡ None = get_or_past tags p None past in absurd cc
      ]

  -- who has a tag has an entry
  has-entry : (k x : ℕ) (s : LeafState) → get_or tags k None ≡ Some (x, s) → entry_of m x ≡ None → ⊥
  has-entry k x s tag none =
      let way : k % ways < ways = omega (arith, some) in
      let again : k / ways * ways + k % ways ≡ k = place_again k ways (k / ways) (k % ways) refl refl in
      let at : get_or tags (k / ways * ways + k % ways) None ≡ Some (x, s) = ap (λ i. get_or tags i None) again ∙ tag in
      subst (λ o. IsSomeAnd o (λ e. (e.way ≡ k % ways) × (e.state ≡ s))) none ((standing (k / ways) (k % ways) x s way).0 at).1

  not-of : (k x : ℕ) → entry_of m x ≡ None → (t : Tag) → get_or tags k None ≡ t → is_of x t ≡ false
  not-of k x none None is = refl
  not-of k x none (Some t) is = ne_eqb t.0 x (λ same. has-entry k t.0 t.1 is (ap (entry_of m) same ∙ none))

  no-tag : (x : ℕ) → entry_of m x ≡ None → list_any (is_of x) tags ≡ false
  no-tag x none = list_any_none (is_of x) tags (λ k d inside. subst (λ t. is_of x t ≡ false) (get_or_default tags k None d inside) (not-of k x none (get_or tags k None) refl))

  tags-are : (x : ℕ) → list_any (is_of x) tags ≡ is_some (way_of m x)
  tags-are x = go (entry_of m x) refl
    where
      go : (o : Option EntryValue) → entry_of m x ≡ o → list_any (is_of x) tags ≡ is_some (way_of m x)
      go None is = no-tag x is ∙ ap (λ o. is_some (option_map way_value o)) (sym is)
      go (Some e) is = tag-there x e is ∙ ap (λ o. is_some (option_map way_value o)) (sym is)

  pub tags-mark : (h : List Bool) → length h ≡ length (ways_of n m) → marked_by tags h ≡ or_each h (map is_some (ways_of n m))
  tags-mark h whole =
      let fits : length h ≡ length (map is_some (ways_of n m)) = whole ∙ sym (length-map (ways_of n m) is_some) in
      same_lists (marked_by tags h) (or_each h (map is_some (ways_of n m))) (marked-length tags h ∙ sym (each-length h (map is_some (ways_of n m)) (omega (arith, fits)))) (λ x d lt.
      let inside : x < length h = subst (λ l. x < l) (marked-length tags h) lt in
      let within : x < n = omega (arith, inside, whole, ways_of-length n m) in
      let there : x < length (ways_of n m) = omega (arith, inside, whole) in
      let way : get_or (map is_some (ways_of n m)) x d ≡ is_some (way_of m x) = get_or-map is_some (ways_of n m) x None d there ∙ ap is_some (ways_of-inside n m x None within) in
      marked-at tags h x d inside ∙ ap (λ b. get_or h x d || b) (tags-are x ∙ sym way) ∙ sym (each-at h (map is_some (ways_of n m)) x d fits inside))
