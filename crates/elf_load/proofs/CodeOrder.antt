-- The code of disjoint segments, in whatever order they stand, is their code in order of address.
use Rattle.std.proofs.Common.{◌≡◌, ℕ, ◌+◌, ◌*◌, ◌<◌, ◌≤◌, suc, true, false, List, [], ◌∷◌, ◌++◌, length, Option, None, refl, sym, ap, ◌∙◌, arith, inl, inr, ◌⊎◌, ◌≢◌, All, AllPairs, fold}
use Rattle.std.specs.Prelude.{nat_lt}
use Rattle.std.specs.Option.{option_or}
use Rattle.std.specs.List.{flat_map}
use Rattle.std.proofs.lemmas.Bool.{cases_lt, cases_Bool}
use Rattle.std.proofs.lemmas.Bool.Decides.{nat_tests}
use Rattle.std.proofs.lemmas.List.Elements.{All-head, All-tail}
use Rattle.std.proofs.lemmas.List.FromFn.{length-map-range_with_len}
use Rattle.elf_load.specs.DdmTypes.CodeMap.{CodeWord, word_at, words_from, code_of}
use Rattle.elf_load.proofs.DdmTypes.Entries.{AreFrom, IsAscending, from-weaker, from-append, word_at-nil, word_at-other, word_at-append, word_at_below, option_or-none, code_of-unique}
use Rattle.tree_model.specs.Start.Sources.{SegmentValue, ImageValue, is_executable}
use Rattle.tree_model.specs.Start.Memory.{start_code}
use Rattle.elf_load.specs.ImageRule.{HasMemory, AreApart}
use Rattle.tree_model.specs.Start.Memory.{first_word, segment_code, put_segment}
use Rattle.elf_load.specs.CodeOf.{word_count, numbered_word, segment_words, IsInSegment}
use Rattle.elf_load.proofs.CodeParts.{apart-bytes}

pub start_code-is : (i : ImageValue) → start_code i ≡ flat_map segment_code (fold put_segment [] i.segments)
unfolding start_code
start_code-is i = refl

-- ---- words that lie one behind the other

words_above : (m start : ℕ) (ws : List ℕ) → m ≤ start → AreFrom m (words_from start ws)
unfolding words_from
words_above m start [] h = tt
words_above m start (w ∷ ws) h = (h, words_above m (start + 4) ws (omega arith))

words_past : (start : ℕ) (ws : List ℕ) (pc : ℕ) → start + 4 * length ws ≤ pc → word_at (words_from start ws) pc ≡ None
unfolding words_from
words_past start [] pc h = word_at-nil pc
words_past start (w ∷ ws) pc h =
    let past : start + 4 * suc (length ws) ≤ pc = h in
    let ne : start ≢ pc = omega (arith, past) in
    word_at-other (record { address = start; word = w }) (words_from (start + 4) ws) pc ne ∙ words_past (start + 4) ws pc (omega (arith, past))

words_ascend : (start : ℕ) (ws : List ℕ) (tail : List CodeWord) → AreFrom (start + 4 * length ws) tail → IsAscending tail → IsAscending (words_from start ws ++ tail)
unfolding words_from
words_ascend start [] tail far up = up
words_ascend start (w ∷ ws) tail far up =
    let near : AreFrom (start + 1) tail = from-weaker (start + 1) (start + 4 * suc (length ws)) tail (omega arith) far in
    let rest : AreFrom (start + 4 + 4 * length ws) tail = from-weaker (start + 4 + 4 * length ws) (start + 4 * suc (length ws)) tail (omega arith) far in
    (from-append (start + 1) (words_from (start + 4) ws) tail (words_above (start + 1) (start + 4) ws (omega arith)) near, words_ascend (start + 4) ws tail rest up)

no_words_ascend : (start : ℕ) (tail : List CodeWord) → IsAscending tail → IsAscending (words_from start [] ++ tail)
unfolding words_from
no_words_ascend start tail up = up

-- ---- one segment

abbrev segment_end : SegmentValue → ℕ
segment_end s = s.vaddr + s.memsz

code_above : (s : SegmentValue) (m : ℕ) → m ≤ s.vaddr → AreFrom m (segment_code s)
code_above s m h =
    elim (cases_Bool (is_executable s)) [
      | inl e ↦ rw e (words_above m (4 * first_word s) (segment_words s) (omega arith))
      | inr e ↦ rw e tt
    ]

-- outside the segment its code has no word
code_outside : (s : SegmentValue) (pc : ℕ) → (IsInSegment s pc → ⊥) → word_at (segment_code s) pc ≡ None
code_outside s pc out =
    elim (cases_Bool (is_executable s)) [
      | inl e ↦ rw e (by_place (cases_lt pc (4 * first_word s)))
      | inr e ↦ rw e (word_at-nil pc)
    ] where
      by_place : (pc < 4 * first_word s) ⊎ (4 * first_word s ≤ pc) → word_at (words_from (4 * first_word s) (segment_words s)) pc ≡ None
      by_place (inl below) = word_at_below (4 * first_word s) (words_from (4 * first_word s) (segment_words s)) pc below (words_above (4 * first_word s) (4 * first_word s) (segment_words s) (omega arith))
      by_place (inr above) = by_end (cases_lt pc (segment_end s)) where
        by_end : (pc < segment_end s) ⊎ (segment_end s ≤ pc) → word_at (words_from (4 * first_word s) (segment_words s)) pc ≡ None
        by_end (inl inside) = absurd (out (omega arith, inside))
        by_end (inr past) =
            let count = length-map-range_with_len (numbered_word s) (first_word s) (word_count s) in
            words_past (4 * first_word s) (segment_words s) pc (omega (arith, count))

-- a segment's code and then what lies behind the segment
code_ascends : (s : SegmentValue) (tail : List CodeWord) → AreFrom (segment_end s) tail → IsAscending tail → IsAscending (segment_code s ++ tail)
code_ascends s tail far up =
    elim (cases_Bool (is_executable s)) [
      | inl e ↦ rw e (by_count (cases_lt 0 (word_count s)))
      | inr e ↦ rw e up
    ] where
      count : length (segment_words s) ≡ word_count s
      count = length-map-range_with_len (numbered_word s) (first_word s) (word_count s)

      by_count : (0 < word_count s) ⊎ (word_count s ≤ 0) → IsAscending (words_from (4 * first_word s) (segment_words s) ++ tail)
      by_count (inl some) =
          let end : 4 * first_word s + 4 * length (segment_words s) ≤ segment_end s = omega (arith, count) in
          words_ascend (4 * first_word s) (segment_words s) tail (from-weaker (4 * first_word s + 4 * length (segment_words s)) (segment_end s) tail end far) up
      by_count (inr few) =
          let none : word_count s ≡ 0 = omega arith in
          rw none (no_words_ascend (4 * first_word s) tail up)

-- ---- segments in order

abbrev StartFrom : ℕ → List SegmentValue → Type 0
StartFrom n [] = Unit {0}
StartFrom n (s ∷ ss) = (n ≤ s.vaddr) × StartFrom n ss

-- each ends where the next ones begin or before
abbrev AreInOrder : List SegmentValue → Type 0
AreInOrder [] = Unit {0}
AreInOrder (s ∷ ss) = StartFrom (segment_end s) ss × AreInOrder ss

start-weaker : (m n : ℕ) (ss : List SegmentValue) → m ≤ n → StartFrom n ss → StartFrom m ss
start-weaker m n [] h a = tt
start-weaker m n (s ∷ ss) h a = (omega (arith, a.0), start-weaker m n ss h a.1)

codes_above : (n : ℕ) (ss : List SegmentValue) → StartFrom n ss → AreFrom n (flat_map segment_code ss)
codes_above n [] a = tt
codes_above n (s ∷ ss) a = from-append n (segment_code s) (flat_map segment_code ss) (code_above s n a.0) (codes_above n ss a.1)

codes_ascend : (ss : List SegmentValue) → AreInOrder ss → IsAscending (flat_map segment_code ss)
codes_ascend [] o = tt
codes_ascend (s ∷ ss) o = code_ascends s (flat_map segment_code ss) (codes_above (segment_end s) ss o.0) (codes_ascend ss o.1)

-- ---- one segment more

-- the segments have memory, and none of their bytes is in s
abbrev AreApartFrom : SegmentValue → List SegmentValue → Type 0
AreApartFrom s [] = Unit {0}
AreApartFrom s (r ∷ rs) = (AreApart r s × HasMemory r) × AreApartFrom s rs

-- of two that are apart, the one that begins first ends before the other begins
apart_order : (r s : SegmentValue) → AreApart r s → HasMemory r → HasMemory s → (segment_end r ≤ s.vaddr) ⊎ (segment_end s ≤ r.vaddr)
apart_order r s apart full_r full_s =
    elim (cases_lt s.vaddr (segment_end r)) [
      | inr h ↦ inl h
      | inl h ↦
          elim (cases_lt r.vaddr (segment_end s)) [
            | inr l ↦ inr l
            | inl l ↦ absurd (grind (arith, nat_tests))
          ]
    ]

starts_first : (r s : SegmentValue) → AreApart r s → HasMemory r → HasMemory s → s.vaddr < r.vaddr → segment_end s ≤ r.vaddr
starts_first r s apart full_r full_s h =
    elim (apart_order r s apart full_r full_s) [
      | inl e ↦ absurd (omega arith)
      | inr e ↦ e
    ]

starts_later : (r s : SegmentValue) → AreApart r s → HasMemory r → HasMemory s → r.vaddr ≤ s.vaddr → segment_end r ≤ s.vaddr
starts_later r s apart full_r full_s h =
    elim (apart_order r s apart full_r full_s) [
      | inl e ↦ e
      | inr e ↦ absurd (omega arith)
    ]

put-below : (s r : SegmentValue) (rs : List SegmentValue) → nat_lt s.vaddr r.vaddr ≡ true → put_segment (r ∷ rs) s ≡ s ∷ r ∷ rs
put-below s r rs h = rw h refl

put-above : (s r : SegmentValue) (rs : List SegmentValue) → nat_lt s.vaddr r.vaddr ≡ false → put_segment (r ∷ rs) s ≡ r ∷ put_segment rs s
put-above s r rs h = rw h refl

put_starts : (n : ℕ) (rs : List SegmentValue) (s : SegmentValue) → n ≤ s.vaddr → StartFrom n rs → StartFrom n (put_segment rs s)
put_starts n [] s h a = (h, tt)
put_starts n (r ∷ rs) s h a =
    elim (cases_Bool (nat_lt s.vaddr r.vaddr)) [
      | inl e ↦ rw (put-below s r rs e) (h, a)
      | inr e ↦ rw (put-above s r rs e) (a.0, put_starts n rs s h a.1)
    ]

put_in_order : (rs : List SegmentValue) (s : SegmentValue) → HasMemory s → AreApartFrom s rs → AreInOrder rs → AreInOrder (put_segment rs s)
put_in_order [] s full apart o = (tt, tt)
put_in_order (r ∷ rs) s full apart o =
    elim (cases_Bool (nat_lt s.vaddr r.vaddr)) [
      | inl e ↦
          let first : s.vaddr < r.vaddr = grind (arith, nat_tests) in
          let near = starts_first r s apart.0.0 apart.0.1 full first in
          rw (put-below s r rs e) ((near, start-weaker (segment_end s) (segment_end r) rs (omega (arith, near)) o.0), o)
      | inr e ↦
          let later : r.vaddr ≤ s.vaddr = grind (arith, nat_tests) in
          let near = starts_later r s apart.0.0 apart.0.1 full later in
          rw (put-above s r rs e) (put_starts (segment_end r) rs s near o.0, put_in_order rs s full apart.1 o.1)
    ]

abbrev looked_up : List SegmentValue → ℕ → Option ℕ
looked_up ss pc = word_at (flat_map segment_code ss) pc

option_swap : (a b c : Option ℕ) → (a ≡ None) ⊎ (b ≡ None) → option_or a (option_or b c) ≡ option_or b (option_or a c)
option_swap a b c (inl e) = rw e refl
option_swap a b c (inr e) = rw e refl

-- an address is in one of two segments that are apart at most
one_of_two : (r s : SegmentValue) (pc : ℕ) → AreApart r s → (word_at (segment_code r) pc ≡ None) ⊎ (word_at (segment_code s) pc ≡ None)
one_of_two r s pc apart =
    elim (cases_lt pc s.vaddr) [
      | inl h ↦ inr (code_outside s pc (λ at. omega (arith, at.0)))
      | inr h ↦
          elim (cases_lt pc (segment_end s)) [
            | inr l ↦ inr (code_outside s pc (λ at. omega (arith, at.1)))
            | inl l ↦ inl (code_outside r pc (λ at. apart-bytes r s pc apart at (h, l)))
          ]
    ]

put_lookup : (rs : List SegmentValue) (s : SegmentValue) (pc : ℕ) → AreApartFrom s rs → looked_up (put_segment rs s) pc ≡ option_or (word_at (segment_code s) pc) (looked_up rs pc)
put_lookup [] s pc apart = word_at-append (segment_code s) [] pc
put_lookup (r ∷ rs) s pc apart =
    elim (cases_Bool (nat_lt s.vaddr r.vaddr)) [
      | inl e ↦ rw (put-below s r rs e) (word_at-append (segment_code s) (flat_map segment_code (r ∷ rs)) pc)
      | inr e ↦
          let rest = put_lookup rs s pc apart.1 in
          let here = word_at-append (segment_code r) (flat_map segment_code (put_segment rs s)) pc in
          let there = word_at-append (segment_code r) (flat_map segment_code rs) pc in
          let swapped = option_swap (word_at (segment_code r) pc) (word_at (segment_code s) pc) (looked_up rs pc) (one_of_two r s pc apart.0.0) in
          rw (put-above s r rs e) (here ∙ ap (λ (o : Option ℕ). option_or (word_at (segment_code r) pc) o) rest ∙ swapped ∙ ap (λ (o : Option ℕ). option_or (word_at (segment_code s) pc) o) (sym there))
    ]

put_apart : (rs : List SegmentValue) (s t : SegmentValue) → HasMemory s → AreApart s t → AreApartFrom t rs → AreApartFrom t (put_segment rs s)
put_apart [] s t full apart all = ((apart, full), tt)
put_apart (r ∷ rs) s t full apart all =
    elim (cases_Bool (nat_lt s.vaddr r.vaddr)) [
      | inl e ↦ rw (put-below s r rs e) ((apart, full), all)
      | inr e ↦ rw (put-above s r rs e) (all.0, put_apart rs s t full apart all.1)
    ]

-- ---- all segments

-- each is apart from those that were put and from the later ones
abbrev AreAllApart : List SegmentValue → List SegmentValue → Type 0
AreAllApart done [] = Unit {0}
AreAllApart done (s ∷ ss) = HasMemory s × AreApartFrom s done × AreAllApart (put_segment done s) ss

sorted_in_order : (done ss : List SegmentValue) → AreInOrder done → AreAllApart done ss → AreInOrder (fold put_segment done ss)
sorted_in_order done [] o all = o
sorted_in_order done (s ∷ ss) o all = sorted_in_order (put_segment done s) ss (put_in_order done s all.0 all.1 o) all.2

sorted_lookup : (done ss : List SegmentValue) (pc : ℕ) → AreAllApart done ss → looked_up (fold put_segment done ss) pc ≡ option_or (looked_up done pc) (looked_up ss pc)
sorted_lookup done [] pc all = rw word_at-nil (sym (option_or-none (looked_up done pc)))
sorted_lookup done (s ∷ ss) pc all =
    let rest = sorted_lookup (put_segment done s) ss pc all.2 in
    let put = put_lookup done s pc all.1 in
    let split = word_at-append (segment_code s) (flat_map segment_code ss) pc in
    rest ∙ ap (λ (o : Option ℕ). option_or o (looked_up ss pc)) put ∙ moved (word_at (segment_code s) pc) (looked_up done pc) (looked_up ss pc) (none_in done all.1) ∙ ap (λ (o : Option ℕ). option_or (looked_up done pc) o) (sym split) where
      none_in : (rs : List SegmentValue) → AreApartFrom s rs → (word_at (segment_code s) pc ≡ None) ⊎ (looked_up rs pc ≡ None)
      none_in [] a = inr (word_at-nil pc)
      none_in (r ∷ rs) a =
          elim (one_of_two r s pc a.0.0) [
            | inr e ↦ inl e
            | inl e ↦
                elim (none_in rs a.1) [
                  | inl f ↦ inl f
                  | inr f ↦ inr (word_at-append (segment_code r) (flat_map segment_code rs) pc ∙ rw (e, f) refl)
                ]
          ]

      moved : (a b c : Option ℕ) → (a ≡ None) ⊎ (b ≡ None) → option_or (option_or a b) c ≡ option_or b (option_or a c)
      moved a b c (inl e) = rw e refl
      moved a b c (inr e) = rw (e, option_or-none a) refl

-- all of ss are apart from those in done
abbrev AreFreeOf : List SegmentValue → List SegmentValue → Type 0
AreFreeOf done [] = Unit {0}
AreFreeOf done (s ∷ ss) = AreApartFrom s done × AreFreeOf done ss

free_of_none : (ss : List SegmentValue) → AreFreeOf [] ss
free_of_none [] = tt
free_of_none (s ∷ ss) = (tt, free_of_none ss)

free_of_put : (done : List SegmentValue) (s : SegmentValue) (ss : List SegmentValue) → HasMemory s → AreFreeOf done ss → All (AreApart s) ss → AreFreeOf (put_segment done s) ss
free_of_put done s [] full free apart = tt
free_of_put done s (t ∷ ss) full free apart =
    (put_apart done s t full (All-head (AreApart s) t ss apart) free.0, free_of_put done s ss full free.1 (All-tail (AreApart s) t ss apart))

all_apart : (done ss : List SegmentValue) → All HasMemory ss → AllPairs AreApart ss → AreFreeOf done ss → AreAllApart done ss
all_apart done [] full apart free = tt
all_apart done (s ∷ ss) full apart free =
    let head = All-head HasMemory s ss full in
    (head, free.0, all_apart (put_segment done s) ss (All-tail HasMemory s ss full) (λ i j d h l. apart (suc i) (suc j) d (omega arith) (omega arith)) (free_of_put done s ss head free.1 (λ k d h. apart 0 (suc k) d (omega arith) (omega arith))))

-- the code of segments that are apart is what they give, one after the other
pub segments_code : (i : ImageValue) → All HasMemory i.segments → AllPairs AreApart i.segments → code_of (flat_map segment_code i.segments) ≡ start_code i
segments_code i full apart =
    let all = all_apart [] i.segments full apart (free_of_none i.segments) in
    let sorted = fold put_segment [] i.segments in
    let up : IsAscending (flat_map segment_code sorted) = codes_ascend sorted (sorted_in_order [] i.segments tt all) in
    let same : (pc : ℕ) → word_at (flat_map segment_code sorted) pc ≡ word_at (flat_map segment_code i.segments) pc = λ pc. sorted_lookup [] i.segments pc all ∙ ap (λ (o : Option ℕ). option_or o (looked_up i.segments pc)) (word_at-nil pc) in
    sym (start_code-is i ∙ code_of-unique (flat_map segment_code sorted) (flat_map segment_code i.segments) up same)
