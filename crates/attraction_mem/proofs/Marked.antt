-- What is marked stays so, and an item that isn't marked doesn't stand in its set.
use Rattle.std.proofs.Common.{◌≡◌, ℕ, ◌%◌, ◌^◌, ◌<◌, true, false, true≢false, ◌⊎◌, inl, inr, List, length, get_or, set, Option, Some, None, sym, ◌∙◌, ap, arith}
use Rattle.std.specs.Prelude.{bit_or, nat_eq}
use Rattle.std.specs.Int.{bit_at}
use Rattle.std.proofs.lemmas.Bool.{eq-eqb, eqb-true}
use Rattle.std.proofs.lemmas.Nat.Bits.{bit_at-lt, bit_at_or, bit_at-pow_same, bit_at-pow_other}
use Rattle.std.proofs.lemmas.List.{get_or-set_same, get_or-set_other}
use Rattle.std.proofs.Math.ListN.{length-set}
use Rattle.ddm_types.specs.declared.sizes.LeafState.{LeafState}
use Rattle.attraction_mem.specs.Memory.{entry_of}
use Rattle.attraction_mem.specs.Marks.{AreMarked, class_of, is_marked, marked, marks_of}
use Rattle.attraction_mem.specs.Places.{HasTag, memory_of}
use Rattle.attraction_mem.proofs.Changing.{same_item}
use Rattle.attraction_mem.proofs.Holding.{IsWritten, entry_of_untagged, equal_or_not}

-- ---- a word of marks

has_own : (word c : ℕ) → nat_eq (bit_at (bit_or word (2 ^ c)) c) 1 ≡ true
has_own word c =
    let low = bit_at-lt word c in
    let one = bit_at-pow_same c in
    eq-eqb _ 1 (omega (arith, bit_at_or word (2 ^ c) c))

keeps : (word c i : ℕ) → nat_eq (bit_at word i) 1 ≡ true → nat_eq (bit_at (bit_or word (2 ^ c)) i) 1 ≡ true
keeps word c i is = by_class (equal_or_not c i) where
  by_class : ((c ≡ i) ⊎ (c ≡ i → ⊥)) → nat_eq (bit_at (bit_or word (2 ^ c)) i) 1 ≡ true
  by_class (inl same) = rw same (has_own word i)
  by_class (inr other) =
      let none = bit_at-pow_other c i (λ e. other (sym e)) in
      let had = eqb-true (bit_at word i) 1 is in
      eq-eqb _ 1 (omega (arith, bit_at_or word (2 ^ c) i, none, had))

-- ---- the marks of all sets

pub marked_own : (sets item : ℕ) (marks : List ℕ) → item % sets < length marks → is_marked sets item (marked sets item marks) ≡ true
marked_own sets item marks inside = rw (get_or-set_same marks (item % sets) (bit_or (marks_of sets item marks) (2 ^ class_of sets item)) 0 inside) (has_own (marks_of sets item marks) (class_of sets item))

pub marked_more : (sets item x : ℕ) (marks : List ℕ) → item % sets < length marks → is_marked sets x marks ≡ true → is_marked sets x (marked sets item marks) ≡ true
marked_more sets item x marks inside is = by_set (equal_or_not (x % sets) (item % sets)) where
  word : ℕ
  word = bit_or (marks_of sets item marks) (2 ^ class_of sets item)

  by_set : ((x % sets ≡ item % sets) ⊎ (x % sets ≡ item % sets → ⊥)) → nat_eq (bit_at (get_or (set marks (item % sets) word) (x % sets) 0) (class_of sets x)) 1 ≡ true
  by_set (inl same) =
      rw (same, get_or-set_same marks (item % sets) word 0 inside)
      (keeps (marks_of sets item marks) (class_of sets item) (class_of sets x) (ap (λ s. nat_eq (bit_at (get_or marks s 0) (class_of sets x)) 1) (sym same) ∙ is))
  by_set (inr other) = rw (get_or-set_other marks (item % sets) (x % sets) word 0 other) is

-- ---- what a memory keeps

-- no item stands anywhere
pub none_marked : (sets : ℕ) (tags : List (Option (ℕ × LeafState))) (marks : List ℕ) → length marks ≡ sets → ((place : ℕ) → get_or tags place None ≡ None) → AreMarked sets tags marks
none_marked sets tags marks count free = record { count = count; each = λ place item state tag. absurd (no_tag (sym (free place) ∙ tag)) } where
  no_tag : {t : ℕ × LeafState} → None ≡ Some t → ⊥
  no_tag e = cc

-- one item more stands somewhere
pub placed_marked : (sets : ℕ) (tags tags' : List (Option (ℕ × LeafState))) (marks : List ℕ) (item p : ℕ) (s : LeafState) → item % sets < sets → AreMarked sets tags marks → IsWritten None tags tags' p (Some (item, s)) → AreMarked sets tags' (marked sets item marks)
placed_marked sets tags tags' marks item p s low are written = record { count = length-set marks (item % sets) _ ∙ are.count; each = each } where
  inside : item % sets < length marks
  inside = omega (arith, low, are.count)

  each : (place x : ℕ) (t : LeafState) → HasTag tags' place x t → is_marked sets x (marked sets item marks) ≡ true
  each place x t tag = by_place (equal_or_not place p) where
    by_place : ((place ≡ p) ⊎ (place ≡ p → ⊥)) → is_marked sets x (marked sets item marks) ≡ true
    by_place (inl here) =
        let same : item ≡ x = same_item item x s t (sym written.here ∙ ap (λ k. get_or tags' k None) (sym here) ∙ tag) in
        ap (λ k. is_marked sets k (marked sets item marks)) (sym same) ∙ marked_own sets item marks inside
    by_place (inr other) = marked_more sets item x marks inside (are.each place x t (sym (written.elsewhere place other) ∙ tag))

-- an item that stood somewhere has another state there
pub restated_marked : (sets : ℕ) (tags tags' : List (Option (ℕ × LeafState))) (marks : List ℕ) (item p : ℕ) (s t : LeafState) → HasTag tags p item s → AreMarked sets tags marks → IsWritten None tags tags' p (Some (item, t)) → AreMarked sets tags' marks
restated_marked sets tags tags' marks item p s t stood are written = record { count = are.count; each = each } where
  each : (place x : ℕ) (u : LeafState) → HasTag tags' place x u → is_marked sets x marks ≡ true
  each place x u tag = by_place (equal_or_not place p) where
    by_place : ((place ≡ p) ⊎ (place ≡ p → ⊥)) → is_marked sets x marks ≡ true
    by_place (inl here) =
        let same : item ≡ x = same_item item x t u (sym written.here ∙ ap (λ k. get_or tags' k None) (sym here) ∙ tag) in
        ap (λ k. is_marked sets k marks) (sym same) ∙ are.each p item s stood
    by_place (inr other) = are.each place x u (sym (written.elsewhere place other) ∙ tag)

-- one stands there no longer
pub removed_marked : (sets : ℕ) (tags tags' : List (Option (ℕ × LeafState))) (marks : List ℕ) (p : ℕ) → AreMarked sets tags marks → IsWritten None tags tags' p None → AreMarked sets tags' marks
removed_marked sets tags tags' marks p are written = record { count = are.count; each = each } where
  no_tag : {t : ℕ × LeafState} → None ≡ Some t → ⊥
  no_tag e = cc

  each : (place x : ℕ) (u : LeafState) → HasTag tags' place x u → is_marked sets x marks ≡ true
  each place x u tag = by_place (equal_or_not place p) where
    by_place : ((place ≡ p) ⊎ (place ≡ p → ⊥)) → is_marked sets x marks ≡ true
    by_place (inl here) = absurd (no_tag (sym written.here ∙ ap (λ k. get_or tags' k None) (sym here) ∙ tag))
    by_place (inr other) = are.each place x u (sym (written.elsewhere place other) ∙ tag)

-- an item whose class isn't marked has no entry
pub unmarked_absent : (ways sets : ℕ) (tags : List (Option (ℕ × LeafState))) (words : List (List ℕ)) (marks : List ℕ) (item : ℕ) → AreMarked sets tags marks → is_marked sets item marks ≡ false → entry_of (memory_of ways sets tags words) item ≡ None
unmarked_absent ways sets tags words marks item are not = entry_of_untagged ways sets tags words item (λ p s tag. true≢false (sym (are.each p item s tag) ∙ not))
