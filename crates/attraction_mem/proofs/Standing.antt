-- Where an item stands, in the list of tags and in the memory that is stored so.
use Rattle.std.proofs.Common.{◌≡◌, ℕ, zero, suc, ◌+◌, ◌*◌, ◌/◌, ◌%◌, ◌<◌, List, [], ◌∷◌, length, get_or, Option, Some, None, IfNone, IfSome, IsSomeAnd, refl, sym, ◌∙◌, ap, arith}
use Rattle.std.specs.Prelude.{option_map}
use Rattle.std.proofs.lemmas.Nat.{div-mul-add, mod-mul-add, div-add-mod'}
use Rattle.std.proofs.Math.Nat.{mod-lt}
use Rattle.ddm_types.specs.declared.sizes.LeafState.{LeafState}
use Rattle.attraction_mem.specs.Memory.{EntryValue, entry_of, place_of, StandsAs}
use Rattle.attraction_mem.specs.Places.{entry_at, memory_of, HasTag, HasNoTag, IsKept}
use Rattle.attraction_mem.proofs.Holding.{entry_of_tagged, entry_of_untagged, tagged}

-- a place is that of its way in its set
pub place_again : (p ways set way : ℕ) → set ≡ p / ways → way ≡ p % ways → set * ways + way ≡ p
place_again p ways set way a b = rw (a, b) (div-add-mod' p ways)

module _ {ways sets : ℕ} {tags : List (Option (ℕ × LeafState))} {words : List (List ℕ)} (kept : IsKept ways sets tags words) where
  -- an item that has no tag in its set has none at all
  pub no_tag : (item : ℕ) → HasNoTag tags (item % sets * ways) ways item → (p : ℕ) (s : LeafState) → HasTag tags p item s → ⊥
  no_tag item none p s tag =
      let again = place_again p ways (item % sets) (p % ways) (kept.own p item s tag) refl in
      let within : p % ways < ways = mod-lt p kept.sized.some_ways in
      none p s (omega arith) (omega arith) tag

  pub entry_of_absent : (item : ℕ) → HasNoTag tags (item % sets * ways) ways item → entry_of (memory_of ways sets tags words) item ≡ None
  entry_of_absent item none = entry_of_untagged ways sets tags words item (no_tag item none)

  pub entry_of_found : (p item : ℕ) (s : LeafState) → HasTag tags p item s → entry_of (memory_of ways sets tags words) item ≡ Some (entry_at ways words p s)
  entry_of_found p item s tag = entry_of_tagged ways sets tags words p item s kept.once tag

  -- an item with no entry has no tag
  pub untagged : (item : ℕ) → entry_of (memory_of ways sets tags words) item ≡ None → (p : ℕ) (s : LeafState) → HasTag tags p item s → ⊥
  untagged item none p s tag = let found = entry_of_found p item s tag in cc

  -- a tag is that of the item that stands there
  pub stands : (set way item : ℕ) (s : LeafState) → way < ways → HasTag tags (set * ways + way) item s → StandsAs (memory_of ways sets tags words) set way item s
  unfolding memory_of
  stands set way item s within tag =
      let found = entry_of_found (set * ways + way) item s tag in
      (kept.own (set * ways + way) item s tag ∙ div-mul-add set ways way within, rw found (mod-mul-add set ways way within, refl))

  stood_at : (o : Option EntryValue) (set way item : ℕ) (s : LeafState) → entry_of (memory_of ways sets tags words) item ≡ o → item % sets ≡ set → IsSomeAnd o (λ e. (e.way ≡ way) × (e.state ≡ s)) → HasTag tags (set * ways + way) item s
  stood_at None set way item s is own there = absurd there
  stood_at (Some e) set way item s is own there =
      let t = tagged ways sets tags words item e is in
      let at_way : t.0 % ways ≡ way = sym (ap (λ d. d.way) t.3) ∙ there.0 in
      let in_state : t.1 ≡ s = sym (ap (λ d. d.state) t.3) ∙ there.1 in
      let again = place_again t.0 ways set way (sym own ∙ kept.own t.0 item t.1 t.2) (sym at_way) in
      rw (again, ← in_state) t.2

  pub tag_of_standing : (set way item : ℕ) (s : LeafState) → StandsAs (memory_of ways sets tags words) set way item s → HasTag tags (set * ways + way) item s
  unfolding memory_of
  tag_of_standing set way item s there = stood_at (entry_of (memory_of ways sets tags words) item) set way item s refl there.0 there.1

  -- the place of an item is that of its tag
  pub place_found : (p item : ℕ) (s : LeafState) → HasTag tags p item s → place_of ways (memory_of ways sets tags words) item ≡ Some p
  unfolding memory_of
  place_found p item s tag = rw (entry_of_found p item s tag) (ap Some (place_again p ways (item % sets) (p % ways) (kept.own p item s tag) refl))

  pub tag_at : (p item : ℕ) → place_of ways (memory_of ways sets tags words) item ≡ Some p → (s : LeafState) × HasTag tags p item s
  tag_at p item is = by_entry (entry_of (memory_of ways sets tags words) item) refl where
    by_entry : (o : Option EntryValue) → entry_of (memory_of ways sets tags words) item ≡ o → (s : LeafState) × HasTag tags p item s
    by_entry None none = let never : None ≡ Some p = rw none at is in absurd cc
    by_entry (Some e) some =
        let t = tagged ways sets tags words item e some in
        let same : Some t.0 ≡ Some p = sym (place_found t.0 item t.1 t.2) ∙ is in
        let here : t.0 ≡ p = cc in
        (t.1, ap (λ k. get_or tags k None) (sym here) ∙ t.2)

  -- what is found by the tags is the item's place and state
  pub sought_none : (item : ℕ) → entry_of (memory_of ways sets tags words) item ≡ None → (None ≡ place_of ways (memory_of ways sets tags words) item) × (None ≡ option_map (λ e. e.state) (entry_of (memory_of ways sets tags words) item))
  sought_none item none = rw none (refl, refl)

  pub sought : (item : ℕ) (r : Option (ℕ × LeafState)) → IfSome r (λ at. HasTag tags at.0 item at.1) → IfNone r (HasNoTag tags (item % sets * ways) ways item) → (option_map (λ at. at.0) r ≡ place_of ways (memory_of ways sets tags words) item) × (option_map (λ at. at.1) r ≡ option_map (λ e. e.state) (entry_of (memory_of ways sets tags words) item))
  sought item None has none = sought_none item (entry_of_absent item none)
  sought item (Some at) tag none = (sym (place_found at.0 item at.1 tag), rw (entry_of_found at.0 item at.1 tag) refl)

-- a tag is at one of the places
pub tag_inside : (tags : List (Option (ℕ × LeafState))) (p item : ℕ) (s : LeafState) → HasTag tags p item s → p < length tags
tag_inside [] p item s tag = absurd cc
tag_inside (t ∷ tags) zero item s tag = omega arith
tag_inside (t ∷ tags) (suc p) item s tag = let less = tag_inside tags p item s tag in omega (arith, less)
