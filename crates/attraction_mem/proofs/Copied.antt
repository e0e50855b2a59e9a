-- Sets are copied one after the other.
use Rattle.std.proofs.Common.{◌≡◌, ℕ, suc, ◌+◌, ◌*◌, ◌/◌, ◌%◌, ◌<◌, ◌≤◌, List, [], ◌∷◌, ◌++◌, drop, length, get_or, set, take, Option, Some, None, true, true≢false, refl, sym, ◌∙◌, ap, arith, ◌⊎◌, inl, inr}
use Rattle.std.specs.Prelude.{◌-◌, nat_eq}
use Rattle.std.specs.Int.{bit_at}
use Rattle.std.specs.FinMap.{from_entries}
use Rattle.std.proofs.lemmas.Bool.{cases_lt}
use Rattle.std.proofs.lemmas.List.{ext_get_or, get_or-set_same, get_or-set_other}
use Rattle.std.proofs.lemmas.Nat.{div-mul-add}
use Rattle.std.proofs.lemmas.Nat.Bits.{bit_at-zero}
use Rattle.std.proofs.Math.ListN.{length-set}
use Rattle.std.proofs.Math.Nat.{mul-le-mul_right}
use Rattle.std.proofs.Math.Seq.{take-append_seam}
use Rattle.ddm_types.specs.declared.sizes.LeafState.{LeafState}
use Rattle.attraction_mem.specs.Copying.{AgreeWhereTagged, IsCopied, IsFreeUnmarked}
use Rattle.attraction_mem.specs.Marks.{AreMarked, class_of, is_marked}
use Rattle.attraction_mem.specs.Places.{entries_from, memory_of, HasTag, IsKept}
use Rattle.attraction_mem.proofs.Holding.{equal_or_not}
use Rattle.attraction_mem.proofs.Standing.{tag_inside}

-- ---- places of a list

module _ {A : Type 0} {d : A} {old from : List A} where
  -- and one more
  pub copied_next : {new : List A} (n : ℕ) → IsCopied d old from new 0 n → n < length old → IsCopied d old from (set new n (get_or from n d)) 0 (n + 1)
  copied_next {new} n is inside = record { size = length-set new n _ ∙ is.size; here = here; elsewhere = elsewhere } where
    written : List A
    written = set new n (get_or from n d)

    here : (k : ℕ) → 0 ≤ k → k < 0 + (n + 1) → get_or written k d ≡ get_or from k d
    here k low high = by_place (equal_or_not k n) where
      by_place : ((k ≡ n) ⊎ (k ≡ n → ⊥)) → get_or written k d ≡ get_or from k d
      by_place (inl same) = rw same (get_or-set_same new n (get_or from n d) d (omega (arith, inside, is.size)))
      by_place (inr other) = get_or-set_other new n k _ d other ∙ is.here k low (omega (arith, high, other))

    elsewhere : (k : ℕ) → (0 ≤ k → k < 0 + (n + 1) → ⊥) → get_or written k d ≡ get_or old k d
    elsewhere k other =
        get_or-set_other new n k _ d (λ e. other (omega (arith, e)) (omega (arith, e)))
        ∙ is.elsewhere k (λ low high. other low (omega (arith, high)))

  -- these places and those after them
  pub copied_join : {mid new : List A} (n m : ℕ) → IsCopied d old from mid 0 n → IsCopied d mid from new n m → IsCopied d old from new 0 (n + m)
  copied_join {mid} {new} n m before after = record {
    size = after.size ∙ before.size;
    here = here;
    elsewhere = λ k other. after.elsewhere k (λ low high. other (omega arith) (omega (arith, high))) ∙ before.elsewhere k (λ low high. other low (omega (arith, high)));
  } where
    here : (k : ℕ) → 0 ≤ k → k < 0 + (n + m) → get_or new k d ≡ get_or from k d
    here k low high = by_place (cases_lt k n) where
      by_place : ((k < n) ⊎ (n ≤ k)) → get_or new k d ≡ get_or from k d
      by_place (inl less) = after.elsewhere k (λ from_n _. absurd (omega (arith, less, from_n))) ∙ before.here k low (omega (arith, less))
      by_place (inr more) = after.here k more (omega (arith, high))

  -- places that are equal already
  pub copied_equal : {new : List A} (n m : ℕ) → IsCopied d old from new 0 n → ((k : ℕ) → n ≤ k → k < n + m → get_or old k d ≡ get_or from k d) → IsCopied d old from new 0 (n + m)
  copied_equal {new} n m is equal = record { size = is.size; here = here; elsewhere = λ k other. is.elsewhere k (λ low high. other low (omega (arith, high))) } where
    here : (k : ℕ) → 0 ≤ k → k < 0 + (n + m) → get_or new k d ≡ get_or from k d
    here k low high = by_place (cases_lt k n) where
      by_place : ((k < n) ⊎ (n ≤ k)) → get_or new k d ≡ get_or from k d
      by_place (inl less) = is.here k low (omega (arith, less))
      by_place (inr more) = is.elsewhere k (λ _ less. absurd (omega (arith, less, more))) ∙ equal k more (omega (arith, high))

  -- all places
  pub copied_all : {new : List A} (n : ℕ) → IsCopied d old from new 0 n → n ≡ length from → length from ≡ length old → new ≡ from
  copied_all {new} n is whole same = ext_get_or d new from (is.size ∙ sym same) (λ k inside. is.here k (omega arith) (omega (arith, inside, is.size, same, whole)))

-- ---- words, which mean nothing where there is no tag

-- the words of the items below a place are copied
pub record AreCopiedBelow (tags : List (Option (ℕ × LeafState))) (old from new : List (List ℕ)) (n : ℕ) : Type 0 where
  pub size : length new ≡ length old
  pub here : (k item : ℕ) (s : LeafState) → k < n → HasTag tags k item s → get_or new k [] ≡ get_or from k []

pub below_none : (tags : List (Option (ℕ × LeafState))) (old from : List (List ℕ)) → AreCopiedBelow tags old from old 0
below_none tags old from = record { size = refl; here = λ k item s low tag. absurd (omega (arith, low)) }

module _ {tags : List (Option (ℕ × LeafState))} {old from mid : List (List ℕ)} where
  -- the next places are copied
  pub below_join : {new : List (List ℕ)} (n m : ℕ) → AreCopiedBelow tags old from mid n → IsCopied [] mid from new n m → AreCopiedBelow tags old from new (n + m)
  below_join {new} n m before after = record { size = after.size ∙ before.size; here = λ k item s low tag. by_place k item s low tag (cases_lt k n) } where
    by_place : (k item : ℕ) (s : LeafState) → k < n + m → HasTag tags k item s → ((k < n) ⊎ (n ≤ k)) → get_or new k [] ≡ get_or from k []
    by_place k item s low tag (inl less) = after.elsewhere k (λ from_n _. absurd (omega (arith, less, from_n))) ∙ before.here k item s less tag
    by_place k item s low tag (inr more) = after.here k more low

  -- the next places are free
  pub below_free : (n m : ℕ) → AreCopiedBelow tags old from mid n → ((k : ℕ) → n ≤ k → k < n + m → get_or tags k None ≡ None) → AreCopiedBelow tags old from mid (n + m)
  below_free n m is free = record { size = is.size; here = λ k item s low tag. by_place k item s low tag (cases_lt k n) } where
    by_place : (k item : ℕ) (s : LeafState) → k < n + m → HasTag tags k item s → ((k < n) ⊎ (n ≤ k)) → get_or mid k [] ≡ get_or from k []
    by_place k item s low tag (inl less) = is.here k item s less tag
    by_place k item s low tag (inr more) = absurd (no_tag (sym (free k more low) ∙ tag)) where
      no_tag : {t : ℕ × LeafState} → None ≡ Some t → ⊥
      no_tag e = cc

  -- all places are copied
  pub below_all : (n : ℕ) → AreCopiedBelow tags old from mid n → length tags ≤ n → AgreeWhereTagged tags from mid
  below_all n is whole place item s tag = is.here place item s (let inside = tag_inside tags place item s tag in omega (arith, inside, whole)) tag

-- ---- sets

-- the places of a set are free where it has no mark
pub free_in_set : (ways set : ℕ) (tags : List (Option (ℕ × LeafState))) (marks : List ℕ) → IsFreeUnmarked ways tags marks → get_or marks set 0 ≡ 0 → (k : ℕ) → set * ways ≤ k → k < set * ways + ways → get_or tags k None ≡ None
free_in_set ways set tags marks free none k low high = free k (ap (λ s. get_or marks s 0) of_set ∙ none) where
  of_set : k / ways ≡ set
  of_set = ap (λ p. p / ways) (omega (arith, low)) ∙ div-mul-add set ways (k - set * ways) (omega (arith, low, high))

-- the place after a set is that of the next one
pub next_set : (set ways : ℕ) → set * ways + ways ≡ (set + 1) * ways
next_set set ways = grind (arith)

-- a set with no mark holds nothing
pub unmarked_free : {ways sets : ℕ} {tags : List (Option (ℕ × LeafState))} {words : List (List ℕ)} {marks : List ℕ} → IsKept ways sets tags words → AreMarked sets tags marks → IsFreeUnmarked ways tags marks
unmarked_free {ways} {sets} {tags} {words} {marks} kept are place none = by_tag (get_or tags place None) refl where
  no_bit : (item : ℕ) → item % sets ≡ place / ways → is_marked sets item marks ≡ true → ⊥
  no_bit item own marked =
      let no_mark : get_or marks (item % sets) 0 ≡ 0 = ap (λ s. get_or marks s 0) own ∙ none in
      let bit : bit_at (get_or marks (item % sets) 0) (class_of sets item) ≡ 0 = ap (λ w. bit_at w (class_of sets item)) no_mark ∙ bit_at-zero (class_of sets item) in
      true≢false (sym marked ∙ ap (λ b. nat_eq b 1) bit)

  by_tag : (o : Option (ℕ × LeafState)) → get_or tags place None ≡ o → o ≡ None
  by_tag None is = refl
  by_tag (Some t) is = absurd (no_bit t.0 (kept.own place t.0 t.1 is) (are.each place t.0 t.1 is))

-- ---- memories

-- the same tags with words that agree where they mean something
agree_later : (ways n : ℕ) (words others : List (List ℕ)) (t : Option (ℕ × LeafState)) (tags : List (Option (ℕ × LeafState))) → ((p item : ℕ) (s : LeafState) → HasTag (t ∷ tags) p item s → get_or others (n + p) [] ≡ get_or words (n + p) []) → (p item : ℕ) (s : LeafState) → HasTag tags p item s → get_or others (n + 1 + p) [] ≡ get_or words (n + 1 + p) []
agree_later ways n words others t tags agree p item s tag =
    let further : n + 1 + p ≡ n + suc p = omega arith in
    ap (λ k. get_or others k []) further ∙ agree (suc p) item s tag ∙ ap (λ k. get_or words k []) (sym further)

agree_from : (ways n : ℕ) (words others : List (List ℕ)) (tags : List (Option (ℕ × LeafState))) → ((p item : ℕ) (s : LeafState) → HasTag tags p item s → get_or others (n + p) [] ≡ get_or words (n + p) []) → entries_from ways others n tags ≡ entries_from ways words n tags
agree_from ways n words others [] agree = refl
agree_from ways n words others (None ∷ tags) agree = agree_from ways (n + 1) words others tags (agree_later ways n words others None tags agree)
agree_from ways n words others (Some t ∷ tags) agree =
    let here : get_or others n [] ≡ get_or words n [] = ap (λ k. get_or others k []) (omega arith) ∙ agree 0 t.0 t.1 refl ∙ ap (λ k. get_or words k []) (omega arith) in
    let later = agree_from ways (n + 1) words others tags (agree_later ways n words others (Some t) tags agree) in
    rw (later, here) refl

pub agreed_memory : (ways sets : ℕ) (tags : List (Option (ℕ × LeafState))) (words others : List (List ℕ)) → AgreeWhereTagged tags words others → memory_of ways sets tags others ≡ memory_of ways sets tags words
unfolding memory_of
agreed_memory ways sets tags words others agree = ap (λ es. record { sets = sets; entries = from_entries es }) (agree_from ways 0 words others tags (λ p item s tag. ap (λ k. get_or others k []) (omega arith) ∙ agree p item s tag ∙ ap (λ k. get_or words k []) (omega arith)))

-- and the memory is kept with other words
pub agreed_kept : {ways sets : ℕ} {tags : List (Option (ℕ × LeafState))} {words others : List (List ℕ)} → length others ≡ length words → IsKept ways sets tags words → IsKept ways sets tags others
agreed_kept size kept = record { sized = kept.sized; word_places = size ∙ kept.word_places; own = kept.own; once = kept.once }

-- a slice of a whole list is written back whole
pub written_back : {A : Type 0} (n : ℕ) (after old : List A) → n ≡ length after → take n (after ++ drop (length after) old) ≡ after
written_back n after old whole = ap (λ k. take k (after ++ drop (length after) old)) whole ∙ take-append_seam after (drop (length after) old)

-- what is small for some elements is small for one
pub one_fits : {n size most : ℕ} → 0 < n → n * size < most → size < most
one_fits {n} {size} some small = let one = mul-le-mul_right {m = 1} {n = n} size some in grind (arith, one, small)
