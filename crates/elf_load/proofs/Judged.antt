-- What is known of a file and its program headers once nothing of them was refused.
use Rattle.std.proofs.Common.{◌≡◌, ℕ, zero, suc, ◌+◌, ◌<◌, ◌≤◌, Bool, true, false, not, List, [], ◌∷◌, ◌++◌, map, length, take, drop, get_or, Option, Some, None, Ok, Err, refl, sym, ap, subst, ◌∙◌, arith, All, AllPairs, append_assoc, inl, inr}
use Rattle.std.specs.Prelude.{nat_eq, ◌&&◌, nat_lt, find, filter}
use Rattle.std.specs.List.{range_with_len}
use Rattle.std.proofs.lemmas.Bool.{cases_Bool}
use Rattle.std.proofs.lemmas.Bool.Decides.{nat_tests}
use Rattle.std.proofs.lemmas.List.{append-nil, get_or-take, length-take, length-map, get_or-map}
use Rattle.std.proofs.lemmas.List.Elements.{All-filter, All-map, filter_passes}
use Rattle.std.proofs.lemmas.List.Sums.{length-filter, count_by-le-length}
use Rattle.std.proofs.lemmas.List.Kept.{AllPairs-filter}
use Rattle.std.proofs.lemmas.List.FromFn.{length-range_with_len, get_or-range_with_len, length-map-range_with_len}
use Rattle.tree_model.specs.State.Lists.{first_some}
use Rattle.tree_model.specs.Start.Sources.{SegmentValue}
use Rattle.tree_model.specs.Start.Memory.{start_code}
use Rattle.elf_load.specs.DdmTypes.CodeMap.{CodeWord, word_at}
use Rattle.elf_load.specs.declared.headers.ProgramHeader.{ProgramHeader}
use Rattle.elf_load.specs.declared.refusal.ImageRefusal.{ImageRefusal}
use Rattle.elf_load.specs.ElfFile.{refused_if, outside_at, is_elf, is_outside, header_size, header_count, header_place, kind_refusal, flags_refusal, table_refusal, file_refusal, header_at, is_load, has_memory, bytes_outside, wraps, meets, overlap_with, header_refusal, headers_refusal, headers_of, loaded_headers, segment_of, segments_of, image_in, image_of, sizes_refusal, entry_refusal, judged_entry, is_dynamic}
use Rattle.elf_load.specs.HeaderRule.{HasTable, IsLoadable, AreLoaded, IsRead}
use Rattle.elf_load.specs.ImageRule.{image_value, FitsMemory, EndsInside, HasMemory, AreApart}

-- ---- no refusal

first_none : (r s : Option ImageRefusal) → first_some r s ≡ None → r ≡ None
first_none None s h = refl
first_none (Some x) s h = cc

rest_none : (r s : Option ImageRefusal) → first_some r s ≡ None → s ≡ None
rest_none None s h = h
rest_none (Some x) s h = cc

not_refused : (b : Bool) (r : ImageRefusal) → refused_if b r ≡ None → b ≡ false
not_refused true r h = cc
not_refused false r h = refl

none_outside : (o : Option ℕ) → outside_at o ≡ None → o ≡ None
none_outside None h = refl
none_outside (Some k) h = cc

none_overlaps : (h : ProgramHeader) (o : Option ProgramHeader) → overlap_with h o ≡ None → o ≡ None
none_overlaps h None e = refl
none_overlaps h (Some a) e = cc

module _ {X : Type 0} where
  some_none : (x : X) → None ≡ Some x → ⊥
  some_none x h = cc

  none_passes : (p : X → Bool) (xs : List X) (k : ℕ) (d : X) → find p xs ≡ None → k < length xs → p (get_or xs k d) ≡ false
  none_passes p [] k d e inside = absurd (omega arith)
  none_passes p (x ∷ xs) zero d e inside =
      elim (cases_Bool (p x)) [
        | inl found ↦ absurd (some_none x (sym (rw found at e)))
        | inr other ↦ other
      ]
  none_passes p (x ∷ xs) (suc k) d e inside =
      elim (cases_Bool (p x)) [
        | inl found ↦ absurd (some_none x (sym (rw found at e)))
        | inr other ↦ none_passes p xs k d (rw other at e) (omega arith)
      ]

-- ---- the file

after_length : (file : List ℕ) → file_refusal file ≡ None → first_some (refused_if (not (is_elf file)) ImageRefusal.NotElf) (first_some (kind_refusal file) (first_some (flags_refusal file) (first_some (table_refusal file) None))) ≡ None
unfolding file_refusal
after_length file none = rest_none _ _ none

is_long : (file : List ℕ) → not (is_elf file) ≡ false → 52 ≤ length file
is_long file h = grind (arith, nat_tests)

at_most : (n m : ℕ) → nat_lt n m ≡ false → m ≤ n
at_most n m h = grind (arith, nat_tests)

pub has_table : (file : List ℕ) → file_refusal file ≡ None → HasTable file
unfolding table_refusal
has_table file none =
    let elf = after_length file none in
    let table = first_none (table_refusal file) None (rest_none (flags_refusal file) _ (rest_none (kind_refusal file) _ (rest_none (refused_if (not (is_elf file)) ImageRefusal.NotElf) _ elf))) in
    let counted = refused_if (nat_lt 64 (header_count file)) (ImageRefusal.TooManyHeaders (header_count file)) in
    let sized = refused_if (nat_lt 0 (header_count file) && not (nat_eq (header_size file) 32)) (ImageRefusal.HeaderOutside 0) in
    let found = find (is_outside file) (range_with_len 0 (header_count file)) in
    record {
      long = is_long file (not_refused (not (is_elf file)) ImageRefusal.NotElf (first_none _ _ elf));
      few = at_most 64 (header_count file) (not_refused (nat_lt 64 (header_count file)) (ImageRefusal.TooManyHeaders (header_count file)) (first_none counted _ table));
      headers = λ k inside. in_file k inside (none_outside found (first_none (outside_at found) None (rest_none sized _ (rest_none counted _ table))));
    } where
      in_file : (k : ℕ) → k < header_count file → find (is_outside file) (range_with_len 0 (header_count file)) ≡ None → header_place file k + 32 ≤ length file
      in_file k inside places =
          let count = length-range_with_len 0 (header_count file) in
          let at = get_or-range_with_len 0 (header_count file) k 0 inside in
          let passes = none_passes (is_outside file) (range_with_len 0 (header_count file)) k 0 places (omega (arith, count)) in
          let first : 0 + k ≡ k = omega arith in
          let here : is_outside file k ≡ false = ap (is_outside file) (sym (at ∙ first)) ∙ passes in
          grind (arith, nat_tests)

-- ---- program headers

judged_at : (n : ℕ) (earlier hs : List ProgramHeader) (k : ℕ) (d : ProgramHeader) → headers_refusal n earlier hs ≡ None → k < length hs → header_refusal n (earlier ++ take k hs) (get_or hs k d) ≡ None
unfolding headers_refusal
judged_at n earlier [] k d none inside = absurd (omega arith)
judged_at n earlier (h ∷ hs) zero d none inside = rw (append-nil earlier) (first_none (header_refusal n earlier h) _ none)
judged_at n earlier (h ∷ hs) (suc k) d none inside =
    let rest = judged_at n (earlier ++ h ∷ []) hs k d (rest_none (header_refusal n earlier h) _ none) (omega arith) in
    let P : List ProgramHeader → Type 0 = λ e. header_refusal n e (get_or hs k d) ≡ None in
    subst P (append_assoc earlier (h ∷ []) (take k hs)) rest

loadable : (n : ℕ) (earlier : List ProgramHeader) (h : ProgramHeader) → header_refusal n earlier h ≡ None → is_load h ≡ true → IsLoadable n h
unfolding header_refusal
loadable n earlier h none load =
    let moves = rest_none (refused_if (is_dynamic h) (ImageRefusal.Dynamic h.number)) _ none in
    let sizes = rest_none (refused_if (is_load h && bytes_outside n h) (ImageRefusal.SegmentOutside h.number)) _ moves in
    judged
    (not_refused (is_load h && bytes_outside n h) (ImageRefusal.SegmentOutside h.number) (first_none _ _ moves))
    (not_refused (is_load h && wraps h) (ImageRefusal.AddressWraps h.number) (first_none _ _ sizes)) where
      judged : (is_load h && bytes_outside n h) ≡ false → (is_load h && wraps h) ≡ false → IsLoadable n h
      judged sized ended = record {
        fits = grind (arith, nat_tests);
        inside = λ some. grind (arith, nat_tests);
        ends = grind (arith, nat_tests);
      }

meets_none : (n : ℕ) (earlier : List ProgramHeader) (h : ProgramHeader) (k : ℕ) (d : ProgramHeader) → header_refusal n earlier h ≡ None → k < length earlier → meets h (get_or earlier k d) ≡ false
unfolding header_refusal
meets_none n earlier h k d none inside =
    let moves = rest_none (refused_if (is_dynamic h) (ImageRefusal.Dynamic h.number)) _ none in
    let sized = rest_none (refused_if (is_load h && bytes_outside n h) (ImageRefusal.SegmentOutside h.number)) _ moves in
    let ended = rest_none (refused_if (is_load h && wraps h) (ImageRefusal.AddressWraps h.number)) _ sized in
    none_passes (meets h) earlier k d (none_overlaps h (find (meets h) earlier) (first_none (overlap_with h (find (meets h) earlier)) None ended)) inside

all_loadable : (n : ℕ) (hs : List ProgramHeader) → headers_refusal n [] hs ≡ None → All (λ h. is_load h ≡ true → IsLoadable n h) hs
all_loadable n hs none k d inside = loadable n (take k hs) (get_or hs k d) (judged_at n [] hs k d none inside)

all_apart : (n : ℕ) (hs : List ProgramHeader) → headers_refusal n [] hs ≡ None → AllPairs (λ a h. meets h a ≡ false) hs
all_apart n hs none i j d below inside =
    let before = meets_none n (take j hs) (get_or hs j d) i d (judged_at n [] hs j d none inside) in
    let count = length-take j hs in
    let at = get_or-take j hs i d below in
    ap (meets (get_or hs j d)) (sym at) ∙ before (omega (arith, count))

pub are_loaded : (file : List ℕ) → file_refusal file ≡ None → headers_refusal (length file) [] (headers_of file) ≡ None → AreLoaded (length file) (loaded_headers file)
unfolding loaded_headers headers_of
are_loaded file none judged =
    let hs = headers_of file in
    let passes = filter_passes has_memory hs in
    let all = All-filter has_memory (λ h. is_load h ≡ true → IsLoadable (length file) h) hs (all_loadable (length file) hs judged) in
    let table = has_table file none in
    record {
      few = kept_few hs (omega (arith, length-map-range_with_len (header_at file) 0 (header_count file), table.few));
      loadable = λ k d inside. all k d inside (loads (get_or (filter has_memory hs) k d) (passes k d inside));
      memory = passes;
      apart = AllPairs-filter (λ a h. meets h a ≡ false) has_memory hs (all_apart (length file) hs judged);
    } where
      loads : (h : ProgramHeader) → has_memory h ≡ true → is_load h ≡ true
      loads h memory = grind (arith, nat_tests)

      kept_few : (hs : List ProgramHeader) → length hs ≤ 64 → length (filter has_memory hs) ≤ 64
      kept_few hs few = rw (length-filter has_memory hs) (omega (arith, count_by-le-length has_memory hs))

-- ---- segments

same_count : (file : List ℕ) (loaded : List ProgramHeader) → length (map (segment_of file) loaded) ≡ length loaded
same_count file loaded = length-map loaded (segment_of file)

pub segments_fit : (file : List ℕ) (loaded : List ProgramHeader) → AreLoaded (length file) loaded → All FitsMemory (segments_of file loaded)
unfolding segments_of
segments_fit file loaded are = All-map FitsMemory (segment_of file) loaded (λ k d inside. fit (get_or loaded k d) (are.loadable k d inside)) where
  fit : (h : ProgramHeader) → IsLoadable (length file) h → FitsMemory (segment_of file h)
  fit h loads =
      let count = length-take h.filesz (drop h.offset file) in
      let room = loads.fits in
      omega (arith, count, room)

pub segments_end : (file : List ℕ) (loaded : List ProgramHeader) → AreLoaded (length file) loaded → All EndsInside (segments_of file loaded)
unfolding segments_of
segments_end file loaded are = All-map EndsInside (segment_of file) loaded (λ k d inside. (are.loadable k d inside).ends)

pub segments_full : (file : List ℕ) (loaded : List ProgramHeader) → AreLoaded (length file) loaded → All HasMemory (segments_of file loaded)
unfolding segments_of
segments_full file loaded are = All-map HasMemory (segment_of file) loaded (λ k d inside. full (get_or loaded k d) (are.memory k d inside)) where
  full : (h : ProgramHeader) → has_memory h ≡ true → 0 < h.memsz
  full h memory = grind (arith, nat_tests)

abbrev no_header : ProgramHeader
no_header = record { number = 0; kind = 0; offset = 0; vaddr = 0; filesz = 0; memsz = 0; flags = 0 }

pub segments_apart : (file : List ℕ) (loaded : List ProgramHeader) → AreLoaded (length file) loaded → AllPairs AreApart (segments_of file loaded)
unfolding segments_of
segments_apart file loaded are i j d below inside =
    let count = same_count file loaded in
    let within : j < length loaded = omega (arith, count) in
    let within' : i < length loaded = omega arith in
    rw (get_or-map (segment_of file) loaded i no_header d within', get_or-map (segment_of file) loaded j no_header d within)
    (apart (get_or loaded i no_header) (get_or loaded j no_header) (are.memory i no_header within') (are.memory j no_header within) (are.apart i j no_header below within)) where
      apart : (a h : ProgramHeader) → has_memory a ≡ true → has_memory h ≡ true → meets h a ≡ false → AreApart (segment_of file a) (segment_of file h)
      apart a h loads_a loads_h between = grind (arith, nat_tests)

-- ---- the whole

pub file_refused : (item_bytes : ℕ) (file : List ℕ) (r : ImageRefusal) → file_refusal file ≡ Some r → image_of item_bytes file ≡ Err r
unfolding image_of
file_refused item_bytes file r e = rw e refl

pub headers_refused : (item_bytes : ℕ) (file : List ℕ) (r : ImageRefusal) → file_refusal file ≡ None → headers_refusal (length file) [] (headers_of file) ≡ Some r → image_of item_bytes file ≡ Err r
unfolding image_of
headers_refused item_bytes file r none e = rw (none, e) refl

pub sizes_refused : (item_bytes : ℕ) (file : List ℕ) (r : ImageRefusal) → file_refusal file ≡ None → headers_refusal (length file) [] (headers_of file) ≡ None → sizes_refusal item_bytes (loaded_headers file) ≡ Some r
    → image_of item_bytes file ≡ Err r
unfolding image_of
sizes_refused item_bytes file r none judged e = rw (none, judged, e) refl

pub image_passes : (item_bytes : ℕ) (file : List ℕ) → file_refusal file ≡ None → headers_refusal (length file) [] (headers_of file) ≡ None → sizes_refusal item_bytes (loaded_headers file) ≡ None
    → image_of item_bytes file ≡ judged_entry (image_in file)
unfolding image_of
image_passes item_bytes file none judged sized = rw (none, judged, sized) refl

pub entry_bad : (entry : ℕ) (segments : List SegmentValue) (code : List CodeWord) → code ≡ start_code (image_value entry segments) → word_at code entry ≡ None → judged_entry (image_value entry segments) ≡ Err (ImageRefusal.BadEntry entry)
unfolding judged_entry entry_refusal
entry_bad entry segments code e none =
    let here : word_at (start_code (image_value entry segments)) entry ≡ None = ap (λ (c : List CodeWord). word_at c entry) (sym e) ∙ none in
    rw here refl

pub entry_good : (entry : ℕ) (segments : List SegmentValue) (code : List CodeWord) (w : ℕ) → code ≡ start_code (image_value entry segments) → word_at code entry ≡ Some w → judged_entry (image_value entry segments) ≡ Ok (image_value entry segments)
unfolding judged_entry entry_refusal
entry_good entry segments code w e some =
    let here : word_at (start_code (image_value entry segments)) entry ≡ Some w = ap (λ (c : List CodeWord). word_at c entry) (sym e) ∙ some in
    rw here refl

pub is_read : (file : List ℕ) → file_refusal file ≡ None → headers_refusal (length file) [] (headers_of file) ≡ None → IsRead file (loaded_headers file)
is_read file none judged = record {
  headers = refl;
  table = has_table file none;
  accepted = none;
  judged = judged;
  rule = are_loaded file none judged;
}
