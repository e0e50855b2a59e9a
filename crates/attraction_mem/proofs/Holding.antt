-- What a memory that is stored as tags and words holds.
use Rattle.std.proofs.Common.{◌≡◌, ℕ, zero, suc, ◌+◌, ◌%◌, ◌<◌, List, [], ◌∷◌, length, get_or, set, cond, Option, Some, None, refl, sym, ◌∙◌, ap, subst, arith, true, false, ◌⊎◌, inl, inr}
use Rattle.std.specs.Ordering.{nat_cmp, eq_by_cmp}
use Rattle.std.specs.FinMap.{find, get-from_entries}
use Rattle.std.specs.Cmp.{nat_cmp_total}
use Rattle.std.proofs.lemmas.Bool.Decides.{nat_tests}
use Rattle.std.proofs.lemmas.Grind.{common_steps}
use Rattle.std.proofs.lemmas.List.{get_or-set_same, get_or-set_other}
use Rattle.std.proofs.Math.ListN.{length-set}
use Rattle.ddm_types.specs.declared.sizes.LeafState.{LeafState}
use Rattle.attraction_mem.specs.Memory.{EntryValue, entry_of}
use Rattle.attraction_mem.specs.Places.{entry_at, entries_from, memory_of, HasTag}

-- no item has two tags
abbrev pub IsOnce : List (Option (ℕ × LeafState)) → Type 0
IsOnce tags = (p q item : ℕ) (s t : LeafState) → HasTag tags p item s → HasTag tags q item t → p ≡ q

-- an item ties with itself
pub same_key : (q : ℕ) → eq_by_cmp nat_cmp q q ≡ true
same_key q = grind (arith, nat_tests, common_steps)

-- and with no other
pub other_key : (q k : ℕ) → (q ≡ k → ⊥) → eq_by_cmp nat_cmp q k ≡ false
other_key q k h = grind (arith, nat_tests, common_steps)

-- keys that tie are one
pub tied_key : (q k : ℕ) → eq_by_cmp nat_cmp q k ≡ true → q ≡ k
tied_key q k h = grind (arith, nat_tests, common_steps)

-- the tail of a list in which no item has two tags
once-tail : (t : Option (ℕ × LeafState)) (tags : List (Option (ℕ × LeafState))) → IsOnce (t ∷ tags) → IsOnce tags
once-tail t tags once p q item s u a b = let e = once (suc p) (suc q) item s u a b in omega arith

-- the item of a tag has its entry
found_from : (ways : ℕ) (words : List (List ℕ)) (tags : List (Option (ℕ × LeafState))) (n p m q : ℕ) (s : LeafState) → m ≡ n + p → IsOnce tags → HasTag tags p q s → find nat_cmp q (entries_from ways words n tags) ≡ Some (entry_at ways words m s)
found_from ways words [] n p m q s e once h = cc
found_from ways words (None ∷ tags) n zero m q s e once h = cc
found_from ways words (None ∷ tags) n (suc p) m q s e once h = found_from ways words tags (n + 1) p m q s (omega arith) (once-tail None tags once) h
found_from ways words (Some t ∷ tags) n zero m q s e once h =
    let here : m ≡ n = omega arith in
    let item : t.0 ≡ q = cc in
    let state : t.1 ≡ s = cc in
    let tied : eq_by_cmp nat_cmp q t.0 ≡ true = rw item (same_key q) in
    rw tied (rw (here, state) refl)
found_from ways words (Some t ∷ tags) n (suc p) m q s e once h =
    let other : eq_by_cmp nat_cmp q t.0 ≡ false = other_key q t.0 (λ same. let twice = once 0 (suc p) q t.1 s (rw same refl) h in omega arith) in
    rw other (found_from ways words tags (n + 1) p m q s (omega arith) (once-tail (Some t) tags once) h)

-- where an item has an entry, there is its tag
pub record IsTagged (ways : ℕ) (words : List (List ℕ)) (tags : List (Option (ℕ × LeafState))) (n q : ℕ) (e : EntryValue) : Type 0 where
  pub place : ℕ
  pub state : LeafState
  pub tag : HasTag tags place q state
  pub entry : e ≡ entry_at ways words (n + place) state

-- one place further
later : (ways : ℕ) (words : List (List ℕ)) (t : Option (ℕ × LeafState)) (tags : List (Option (ℕ × LeafState))) (n q : ℕ) (e : EntryValue) → IsTagged ways words tags (n + 1) q e → IsTagged ways words (t ∷ tags) n q e
later ways words t tags n q e h =
    let here : n + 1 + h.place ≡ n + suc h.place = omega arith in
    record { place = suc h.place; state = h.state; tag = h.tag; entry = h.entry ∙ ap (λ m. entry_at ways words m h.state) here }

tagged_from : (ways : ℕ) (words : List (List ℕ)) (tags : List (Option (ℕ × LeafState))) (n q : ℕ) (e : EntryValue) → find nat_cmp q (entries_from ways words n tags) ≡ Some e → IsTagged ways words tags n q e
tagged_from ways words [] n q e h = cc
tagged_from ways words (None ∷ tags) n q e h = later ways words None tags n q e (tagged_from ways words tags (n + 1) q e h)
tagged_from ways words (Some t ∷ tags) n q e h =
    elim (eq_by_cmp nat_cmp q t.0) as (λ b. eq_by_cmp nat_cmp q t.0 ≡ b → cond b (Some (entry_at ways words n t.1)) (find nat_cmp q (entries_from ways words (n + 1) tags)) ≡ Some e → IsTagged ways words (Some t ∷ tags) n q e) [
      | true ↦ λ tied f.
          let key : q ≡ t.0 = tied_key q t.0 tied in
          let here : n ≡ n + 0 = omega arith in
          let is : entry_at ways words n t.1 ≡ e = cc in
          record { place = 0; state = t.1; tag = rw key refl; entry = sym is ∙ ap (λ m. entry_at ways words m t.1) here }
      | false ↦ λ other f. later ways words (Some t) tags n q e (tagged_from ways words tags (n + 1) q e f)
    ] refl h

-- two numbers are equal or not
pub equal_or_not : (a b : ℕ) → (a ≡ b) ⊎ (a ≡ b → ⊥)
equal_or_not zero zero = inl refl
equal_or_not zero (suc b) = inr (λ e. omega arith)
equal_or_not (suc a) zero = inr (λ e. omega arith)
equal_or_not (suc a) (suc b) = elim (equal_or_not a b) [ inl e ↦ inl (ap suc e) | inr h ↦ inr (λ e. h (omega arith)) ]

-- the list with this element at this place, and the others as they were
pub record IsWritten {A : Type 0} (d : A) (xs ys : List A) (p : ℕ) (x : A) : Type 0 where
  pub size : length ys ≡ length xs
  pub here : get_or ys p d ≡ x
  pub elsewhere : (q : ℕ) → (q ≡ p → ⊥) → get_or ys q d ≡ get_or xs q d

pub written-set : {A : Type 0} (d : A) (xs : List A) (p : ℕ) (x : A) → p < length xs → IsWritten d xs (set xs p x) p x
written-set d xs p x h = record { size = length-set xs p x; here = get_or-set_same xs p x d h; elsewhere = λ q other. get_or-set_other xs p q x d other }

pub written-same : {A : Type 0} (d : A) (xs : List A) (p : ℕ) → IsWritten d xs xs p (get_or xs p d)
written-same d xs p = record { size = refl; here = refl; elsewhere = λ q other. refl }

-- the entry of an item is the first one that is found
pub entry_of-memory_of : (ways sets : ℕ) (tags : List (Option (ℕ × LeafState))) (words : List (List ℕ)) (q : ℕ) → entry_of (memory_of ways sets tags words) q ≡ find nat_cmp q (entries_from ways words 0 tags)
unfolding memory_of
entry_of-memory_of ways sets tags words q = get-from_entries nat_cmp_total (entries_from ways words 0 tags) q

-- an item with a tag has the entry of the tag's place
pub entry_of_tagged : (ways sets : ℕ) (tags : List (Option (ℕ × LeafState))) (words : List (List ℕ)) (p q : ℕ) (s : LeafState) → IsOnce tags → HasTag tags p q s → entry_of (memory_of ways sets tags words) q ≡ Some (entry_at ways words p s)
entry_of_tagged ways sets tags words p q s once tag = entry_of-memory_of ways sets tags words q ∙ found_from ways words tags 0 p p q s (omega arith) once tag

-- an item with an entry has a tag
pub tagged : (ways sets : ℕ) (tags : List (Option (ℕ × LeafState))) (words : List (List ℕ)) (q : ℕ) (e : EntryValue) → entry_of (memory_of ways sets tags words) q ≡ Some e → (p : ℕ) × (s : LeafState) × HasTag tags p q s × (e ≡ entry_at ways words p s)
tagged ways sets tags words q e h =
    let t = tagged_from ways words tags 0 q e (sym (entry_of-memory_of ways sets tags words q) ∙ h) in
    (t.place, t.state, t.tag, t.entry ∙ ap (λ m. entry_at ways words m t.state) (omega arith))

-- an item with no tag has no entry
pub entry_of_untagged : (ways sets : ℕ) (tags : List (Option (ℕ × LeafState))) (words : List (List ℕ)) (q : ℕ) → ((p : ℕ) (s : LeafState) → HasTag tags p q s → ⊥) → entry_of (memory_of ways sets tags words) q ≡ None
entry_of_untagged ways sets tags words q untagged =
    elim (entry_of (memory_of ways sets tags words) q) as (λ o. entry_of (memory_of ways sets tags words) q ≡ o → o ≡ None) [
      | None ↦ λ is. refl
      | Some e ↦ λ is. let t = tagged ways sets tags words q e is in absurd (untagged t.0 t.1 t.2)
    ] refl

-- what is stored before and after a change at one place
module _ (ways sets : ℕ) (tags tags' : List (Option (ℕ × LeafState))) (words words' : List (List ℕ)) (p : ℕ) where
  -- an item whose tag is at neither has the entry that it had
  pub entry_of_other : IsOnce tags → IsOnce tags' → ((q : ℕ) → (q ≡ p → ⊥) → get_or tags' q None ≡ get_or tags q None) → ((q : ℕ) → (q ≡ p → ⊥) → get_or words' q [] ≡ get_or words q []) → (x : ℕ) → ((s : LeafState) → HasTag tags p x s → ⊥) → ((s : LeafState) → HasTag tags' p x s → ⊥) → entry_of (memory_of ways sets tags' words') x ≡ entry_of (memory_of ways sets tags words) x
  entry_of_other once once' same_tags same_words x before after =
      elim (entry_of (memory_of ways sets tags words) x) as (λ o. entry_of (memory_of ways sets tags words) x ≡ o → entry_of (memory_of ways sets tags' words') x ≡ o) [
        | None ↦ λ none. entry_of_untagged ways sets tags' words' x (λ q s tag.
            let apart : q ≡ p → ⊥ = λ e. after s (subst (λ k. HasTag tags' k x s) e tag) in
            let was = entry_of_tagged ways sets tags words q x s once (sym (same_tags q apart) ∙ tag) in cc)
        | Some e ↦ λ some.
            let t = tagged ways sets tags words x e some in
            let apart : t.0 ≡ p → ⊥ = λ e. before t.1 (subst (λ k. HasTag tags k x t.1) e t.2) in
            let now = entry_of_tagged ways sets tags' words' t.0 x t.1 once' (same_tags t.0 apart ∙ t.2) in
            let read = same_words t.0 apart in
            let is = t.3 in
            now ∙ ap (λ w. Some (record { way = t.0 % ways; state = t.1; words = w })) read ∙ ap Some (sym is)
      ] refl
