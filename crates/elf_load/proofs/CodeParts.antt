-- The parts of code, one for each segment.
use Rattle.std.proofs.Common.{◌≡◌, ℕ, zero, suc, ◌+◌, ◌*◌, ◌%◌, ◌^◌, ◌<◌, ◌≤◌, Bool, true, false, List, [], ◌∷◌, ◌++◌, length, take, get_or, refl, sym, ap, arith, add-one, All, AllPairs}
use Rattle.std.specs.Prelude.{◌&&◌, nat_lt}
use Rattle.std.specs.List.{flat_map}
use Rattle.std.proofs.Math.Seq.{take-suc}
use Rattle.std.proofs.lemmas.Bool.Decides.{nat_tests}
use Rattle.std.proofs.lemmas.List.FromFn.{length-map-range_with_len}
use Rattle.elf_load.specs.DdmTypes.declared.code_map.CodePart.{CodePart}
use Rattle.elf_load.specs.DdmTypes.CodeMap.{words_from, part_words, part_end, IsInPart, AreDisjoint}
use Rattle.tree_model.specs.Start.Sources.{SegmentValue, is_executable}
use Rattle.elf_load.specs.ImageRule.{EndsInside, AreApart}
use Rattle.tree_model.specs.Start.Memory.{first_word, segment_code}
use Rattle.elf_load.specs.CodeOf.{word_count, segment_words, numbered_word, IsInSegment, IsPartOf, ArePartsOf}

-- ---- one part

no_code : (s : SegmentValue) → (is_executable s && nat_lt 0 (word_count s)) ≡ false → segment_code s ≡ []
unfolding words_from
no_code s h = by_flags (is_executable s) refl where
  by_flags : (b : Bool) → is_executable s ≡ b → segment_code s ≡ []
  by_flags false e = rw e refl
  by_flags true e =
      let none : word_count s ≡ 0 = grind (arith, nat_tests) in
      rw (e, none) refl

pub blank_part : (s : SegmentValue) (p : CodePart) → (is_executable s && nat_lt 0 (word_count s)) ≡ false → p.start ≡ 0 → p.words.items ≡ [] → IsPartOf s p
unfolding words_from
blank_part s p h start words = record {
  words = rw (start, words) (sym (no_code s h));
  aligned = rw start refl;
  ends = rw (start, words) (omega arith);
  inside = λ address at. absurd (outside address at);
} where
  outside : (address : ℕ) → IsInPart p address → ⊥
  outside address at =
      let e : part_end p ≡ 0 = rw (start, words) refl in
      omega arith

pub full_part : (s : SegmentValue) (p : CodePart) → EndsInside s → (is_executable s && nat_lt 0 (word_count s)) ≡ true → p.start ≡ 4 * first_word s → p.words.items ≡ segment_words s → IsPartOf s p
full_part s p ends h start words =
    let yes : is_executable s ≡ true = grind (arith, nat_tests) in
    let some : 0 < word_count s = grind (arith, nat_tests) in
    let count = length-map-range_with_len (numbered_word s) (first_word s) (word_count s) in
    let end : part_end p ≡ 4 * first_word s + 4 * word_count s = rw (start, words, count) refl in
    record {
      words = rw (start, words, yes) refl;
      aligned = omega arith;
      ends = omega arith;
      inside = λ address at. (omega arith, omega arith);
    }

-- ---- a part more

parts-push : (ss : List SegmentValue) (ps : List CodePart) (s : SegmentValue) (p : CodePart) → ArePartsOf ss ps → IsPartOf s p → ArePartsOf (ss ++ s ∷ []) (ps ++ p ∷ [])
parts-push [] [] s p so_far one = (one, tt)
parts-push [] (q ∷ ps) s p so_far one = absurd so_far
parts-push (r ∷ ss) [] s p so_far one = absurd so_far
parts-push (r ∷ ss) (q ∷ ps) s p so_far one = (so_far.0, parts-push ss ps s p so_far.1 one)

pub more_parts : (ss : List SegmentValue) (ps : List CodePart) (k : ℕ) (d : SegmentValue) (p : CodePart) → k < length ss → ArePartsOf (take k ss) ps → IsPartOf (get_or ss k d) p → ArePartsOf (take (k + 1) ss) (ps ++ p ∷ [])
more_parts ss ps k d p inside so_far one = rw (add-one, take-suc ss k d inside) (parts-push (take k ss) ps (get_or ss k d) p so_far one)

-- ---- all parts

-- the part at a place has the code of the segment there
part-at : (ss : List SegmentValue) (ps : List CodePart) (k : ℕ) (d : SegmentValue) (e : CodePart) → ArePartsOf ss ps → k < length ps → IsPartOf (get_or ss k d) (get_or ps k e)
part-at [] [] k d e all inside = absurd (omega arith)
part-at [] (p ∷ ps) k d e all inside = absurd all
part-at (s ∷ ss) [] k d e all inside = absurd all
part-at (s ∷ ss) (p ∷ ps) zero d e all inside = all.0
part-at (s ∷ ss) (p ∷ ps) (suc k) d e all inside = part-at ss ps k d e all.1 (omega arith)

same-length : (ss : List SegmentValue) (ps : List CodePart) → ArePartsOf ss ps → length ss ≡ length ps
same-length [] [] all = refl
same-length [] (p ∷ ps) all = absurd all
same-length (s ∷ ss) [] all = absurd all
same-length (s ∷ ss) (p ∷ ps) all = ap suc (same-length ss ps all.1)

abbrev no_segment : SegmentValue
no_segment = record { header = 0; vaddr = 0; flags = 0; bytes = []; memsz = 0 }

pub parts_aligned : (ss : List SegmentValue) (ps : List CodePart) → ArePartsOf ss ps → All (λ part. part.start % 4 ≡ 0) ps
parts_aligned ss ps all k e inside = (part-at ss ps k no_segment e all inside).aligned

pub parts_end : (ss : List SegmentValue) (ps : List CodePart) → ArePartsOf ss ps → All (λ part. part_end part ≤ 2 ^ 32) ps
parts_end ss ps all k e inside = (part-at ss ps k no_segment e all inside).ends

-- no byte is in two segments that are apart
pub apart-bytes : (s t : SegmentValue) (address : ℕ) → AreApart s t → IsInSegment s address → IsInSegment t address → ⊥
apart-bytes s t address apart in_s in_t = grind (arith, nat_tests)

pub parts_disjoint : (ss : List SegmentValue) (ps : List CodePart) → ArePartsOf ss ps → AllPairs AreApart ss → AllPairs AreDisjoint ps
parts_disjoint ss ps all apart i j e below inside address in_i in_j =
    let count = same-length ss ps all in
    let first = part-at ss ps i no_segment e all (omega arith) in
    let other = part-at ss ps j no_segment e all inside in
    apart-bytes (get_or ss i no_segment) (get_or ss j no_segment) address (apart i j no_segment below (omega arith)) (first.inside address in_i) (other.inside address in_j)

pub parts_words : (ss : List SegmentValue) (ps : List CodePart) → ArePartsOf ss ps → flat_map part_words ps ≡ flat_map segment_code ss
parts_words [] [] all = refl
parts_words [] (p ∷ ps) all = absurd all
parts_words (s ∷ ss) [] all = absurd all
parts_words (s ∷ ss) (p ∷ ps) all = rw (all.0.words, parts_words ss ps all.1) refl

-- Parts of code are aligned, end inside their segments and are apart.
pub ruleset parts_apart = (parts_aligned, parts_end, parts_disjoint)
