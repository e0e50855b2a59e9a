-- What a memory holds after a change at one place.
use Rattle.std.proofs.Common.{◌≡◌, ℕ, ◌/◌, ◌%◌, List, [], length, get_or, cond, Option, Some, None, refl, sym, ◌∙◌, ap, subst, ◌⊎◌, inl, inr}
use Rattle.std.specs.Ordering.{nat_cmp, eq_by_cmp}
use Rattle.std.specs.FinMap.{same_map, get-insert, get-remove, nat_cmp-IsAntisymmetric}
use Rattle.std.specs.Cmp.{nat_cmp_total}
use Rattle.ddm_types.specs.declared.sizes.LeafState.{LeafState}
use Rattle.attraction_mem.specs.Memory.{MemoryValue, entry_of, with_entry, without_entry}
use Rattle.attraction_mem.specs.Places.{memory_of, HasTag, IsSized, IsKept}
use Rattle.attraction_mem.proofs.Holding.{IsOnce, IsWritten, equal_or_not, same_key, other_key, entry_of_other, entry_of_tagged, entry_of_untagged}

-- two tags are equal
abbrev pub SameTag : Option (ℕ × LeafState) → Option (ℕ × LeafState) → Type 0
SameTag a b = a ≡ b

-- the item of a tag
unfoldable item_in : Option (ℕ × LeafState) → ℕ
item_in None = 0
item_in (Some t) = t.0

-- a tag has one item
pub same_item : (x y : ℕ) (s t : LeafState) → SameTag (Some (x, s)) (Some (y, t)) → x ≡ y
unfolding item_in
same_item x y s t e = ap item_in e

-- two memories that hold the same are equal
same_memory : (m n : MemoryValue) → m.sets ≡ n.sets → ((q : ℕ) → entry_of m q ≡ entry_of n q) → m ≡ n
same_memory m n sets same =
    let entries : m.entries ≡ n.entries = same_map nat_cmp_total nat_cmp-IsAntisymmetric m.entries n.entries same in
    λ i. record { sets = sets i; entries = entries i }

pub sets_of : (ways sets : ℕ) (tags : List (Option (ℕ × LeafState))) (words : List (List ℕ)) → (memory_of ways sets tags words).sets ≡ sets
unfolding memory_of
sets_of ways sets tags words = refl

-- an item that has no tag may be taken out
pub without_absent : (m : MemoryValue) (item : ℕ) → entry_of m item ≡ None → without_entry m item ≡ m
without_absent m item absent = same_memory (without_entry m item) m refl (λ q. get-remove nat_cmp_total m.entries item q ∙ same q (equal_or_not q item)) where
  same : (q : ℕ) → (q ≡ item) ⊎ (q ≡ item → ⊥) → cond (eq_by_cmp nat_cmp q item) None (entry_of m q) ≡ entry_of m q
  same q (inl e) = rw (e, same_key item) (sym absent)
  same q (inr h) = rw (other_key q item h) refl

-- a list of as many places
pub sized_as : {ways sets n m : ℕ} → IsSized ways sets n → m ≡ n → IsSized ways sets m
sized_as h e = record { some_ways = h.some_ways; few_ways = h.few_ways; some_sets = h.some_sets; few_sets = h.few_sets; count = e ∙ h.count }

-- at place p stands the item or none, and the item stands nowhere else
pub record IsAlone (tags : List (Option (ℕ × LeafState))) (p item : ℕ) : Type 0 where
  pub no_other : (q : ℕ) (s : LeafState) → HasTag tags p q s → q ≡ item
  pub nowhere_else : (q : ℕ) (s : LeafState) → HasTag tags q item s → q ≡ p

module _ (ways sets : ℕ) (tags tags' : List (Option (ℕ × LeafState))) (words words' : List (List ℕ)) (p item : ℕ) (kept : IsKept ways sets tags words) (alone : IsAlone tags p item) where
  -- a tag of the new list is the written one, or one of another item at another place
  put_tag : (s : LeafState) → IsWritten None tags tags' p (Some (item, s)) → (q x : ℕ) (t : LeafState) → HasTag tags' q x t → ((q ≡ p) × (x ≡ item)) ⊎ ((q ≡ p → ⊥) × (x ≡ item → ⊥) × HasTag tags q x t)
  put_tag s w q x t tag = elim (equal_or_not q p) [
    | inl e ↦
        let written : SameTag (Some (item, s)) (Some (x, t)) = sym w.here ∙ ap (λ k. get_or tags' k None) (sym e) ∙ tag in
        inl (e, sym (same_item item x s t written))
    | inr h ↦
        let was : HasTag tags q x t = sym (w.elsewhere q h) ∙ tag in
        inr (h, (λ e. h (alone.nowhere_else q t (subst (λ k. HasTag tags q k t) e was))), was)
  ]

  -- a tag of the list without the item's is one of another item at another place
  free_tag : IsWritten None tags tags' p None → (q x : ℕ) (t : LeafState) → HasTag tags' q x t → (q ≡ p → ⊥) × (x ≡ item → ⊥) × HasTag tags q x t
  free_tag w q x t tag = elim (equal_or_not q p) [
    | inl e ↦
        let written : SameTag None (Some (x, t)) = sym w.here ∙ ap (λ k. get_or tags' k None) (sym e) ∙ tag in
        absurd cc
    | inr h ↦
        let was : HasTag tags q x t = sym (w.elsewhere q h) ∙ tag in
        (h, (λ e. h (alone.nowhere_else q t (subst (λ k. HasTag tags q k t) e was))), was)
  ]

  put_once : (s : LeafState) → IsWritten None tags tags' p (Some (item, s)) → IsOnce tags'
  put_once s w i j x a b first second = elim (put_tag s w i x a first) [
    | inl here ↦ elim (put_tag s w j x b second) [ inl there ↦ here.0 ∙ sym there.0 | inr there ↦ absurd (there.1 here.1) ]
    | inr here ↦ elim (put_tag s w j x b second) [ inl there ↦ absurd (here.1 there.1) | inr there ↦ kept.once i j x a b here.2 there.2 ]
  ]

  -- the memory is kept where the item's tag is written at a place of its set
  pub kept_put : (s : LeafState) → IsWritten None tags tags' p (Some (item, s)) → length words' ≡ length words → item % sets ≡ p / ways → IsKept ways sets tags' words'
  kept_put s w size own = record {
    sized = sized_as kept.sized w.size;
    word_places = size ∙ kept.word_places ∙ sym w.size;
    own = λ q x t tag. elim (put_tag s w q x t tag) [
      | inl here ↦ rw (here.0, here.1) own
      | inr there ↦ kept.own q x t there.2
    ];
    once = put_once s w;
  }

  -- and where the item's tag is taken away
  pub kept_free : IsWritten None tags tags' p None → IsKept ways sets tags' words
  kept_free w = record {
    sized = sized_as kept.sized w.size;
    word_places = kept.word_places ∙ sym w.size;
    own = λ q x t tag. kept.own q x t (free_tag w q x t tag).2;
    once = λ i j x a b first second. kept.once i j x a b (free_tag w i x a first).2 (free_tag w j x b second).2;
  }

  other_before : (x : ℕ) → (x ≡ item → ⊥) → (s : LeafState) → HasTag tags p x s → ⊥
  other_before x other s tag = other (alone.no_other x s tag)

  -- what is held then
  pub memory_put : (s : LeafState) (w : List ℕ) → IsWritten None tags tags' p (Some (item, s)) → IsWritten [] words words' p w → memory_of ways sets tags' words' ≡ with_entry (memory_of ways sets tags words) item (p % ways) s w
  memory_put s w written put =
      same_memory (memory_of ways sets tags' words') (with_entry (memory_of ways sets tags words) item (p % ways) s w)
      (sets_of ways sets tags' words' ∙ sym (sets_of ways sets tags words))
      (λ q. same q (equal_or_not q item) ∙ sym (get-insert nat_cmp_total (memory_of ways sets tags words).entries item (record { way = p % ways; state = s; words = w }) q)) where
        same : (q : ℕ) → (q ≡ item) ⊎ (q ≡ item → ⊥) → entry_of (memory_of ways sets tags' words') q ≡ cond (eq_by_cmp nat_cmp q item) (Some (record { way = p % ways; state = s; words = w })) (entry_of (memory_of ways sets tags words) q)
        same q (inl e) = rw (e, same_key item) (entry_of_tagged ways sets tags' words' p item s (put_once s written) written.here ∙ ap (λ k. Some (record { way = p % ways; state = s; words = k })) put.here)
        same q (inr h) = rw (other_key q item h) (entry_of_other ways sets tags tags' words words' p kept.once (put_once s written) written.elsewhere put.elsewhere q (other_before q h) (λ t tag. let e : SameTag (Some (item, s)) (Some (q, t)) = sym written.here ∙ tag in h (sym (same_item item q s t e))))

  pub memory_free : IsWritten None tags tags' p None → memory_of ways sets tags' words ≡ without_entry (memory_of ways sets tags words) item
  memory_free written =
      same_memory (memory_of ways sets tags' words) (without_entry (memory_of ways sets tags words) item)
      (sets_of ways sets tags' words ∙ sym (sets_of ways sets tags words))
      (λ q. same q (equal_or_not q item) ∙ sym (get-remove nat_cmp_total (memory_of ways sets tags words).entries item q)) where
        same : (q : ℕ) → (q ≡ item) ⊎ (q ≡ item → ⊥) → entry_of (memory_of ways sets tags' words) q ≡ cond (eq_by_cmp nat_cmp q item) None (entry_of (memory_of ways sets tags words) q)
        same q (inl e) = rw (e, same_key item) (entry_of_untagged ways sets tags' words item (λ k t tag. (free_tag written k item t tag).1 refl))
        same q (inr h) = rw (other_key q item h) (entry_of_other ways sets tags tags' words words p kept.once (kept_free written).once written.elsewhere (λ k other. refl) q (other_before q h) (λ t tag. h (absurd ((free_tag written p q t tag).0 refl))))

-- a free place is the item's alone where it has no tag
pub alone_free : (tags : List (Option (ℕ × LeafState))) (p item : ℕ) → get_or tags p None ≡ None → ((q : ℕ) (s : LeafState) → HasTag tags q item s → ⊥) → IsAlone tags p item
alone_free tags p item free absent = record {
  no_other = λ q s tag. let e : SameTag None (Some (q, s)) = sym free ∙ tag in absurd cc;
  nowhere_else = λ q s tag. absurd (absent q s tag);
}

-- and so is the place of its tag
pub alone_tagged : (tags : List (Option (ℕ × LeafState))) (p item : ℕ) (s : LeafState) → IsOnce tags → HasTag tags p item s → IsAlone tags p item
alone_tagged tags p item s once tag = record {
  no_other = λ q t other. sym (same_item item q s t (sym tag ∙ other));
  nowhere_else = λ q t there. once q p item t s there tag;
}
