-- The bytes of an image, one piece more at a time: what is written and what is left are the whole; how many they are.
use Rattle.std.proofs.Common.{subst, ◌≡◌, ℕ, suc, ◌+◌, ◌-◌, ◌*◌, ◌<◌, ◌≤◌, List, [], ◌∷◌, ◌++◌, length, map, drop, get_or, refl, sym, ap, ◌∙◌, arith, add-one, append_assoc, length-append}
use Rattle.std.specs.Prelude.{All, Bool, true, false, nat_eq, nat_lt, replicate, Option, Some, None, Result, Ok, Err, if◌then◌else◌}
use Rattle.std.specs.List.{flat_map, range_with_len}
use Rattle.std.specs.Option.{option_map_or}
use Rattle.std.proofs.Math.Seq.{drop-cons}
use Rattle.std.proofs.Math.ListN.{drop_of_length-le}
use Rattle.std.proofs.lemmas.Bool.Decides.{nat_tests}
use Rattle.std.proofs.lemmas.List.{append-nil, replicate_more, length-replicate}
use Rattle.std.proofs.lemmas.List.Elements.{All-cons, All-nil}
use Rattle.std.proofs.lemmas.List.FromFn.{length-range_with_len, length-map-range_with_len}
use Rattle.byteorder.specs.Endian.{little_bytes}
use Rattle.rv_decode.specs.declared.instructions.Instr.{Instr}
use Rattle.rv_decode.specs.Encode.{encode_of}
use Rattle.elf_load.specs.TreeModel.Start.Sources.{SegmentValue}
use Rattle.elf_load.specs.ImageRule.{FitsMemory}
use Rattle.elf_load.specs.Written.{segment_bytes, written_image}
use Rattle.elf_load.proofs.Pushes.{room_for_bytes}
use Rattle.litmus_model.specs.declared.parts.Target.TheVariants.{Location}
use Rattle.litmus_model.specs.declared.test.Runs.{Runs}
use Rattle.litmus_model.specs.declared.refusal.ImageRefusal.{ImageRefusal}
use Rattle.litmus_model.specs.declared.refusal.ImageRefusal.TheVariants.{TooManyThreads, OtherPlaces, NoLeaf}
use Rattle.litmus_model.specs.Image.{begins_from, blocks_of, code_bytes, code_of, entry, first_value, item_of, jump_by_number, leaf_word, memory_of, named_places, outside, places_of, test_segments, word_of}
use Rattle.litmus_model.specs.Sound.{IsSound}
use Rattle.litmus_model.specs.Test.{Test}
use Rattle.litmus_image.specs.Made.{all_of, leaf_words}
use Rattle.litmus_image.proofs.Ranges.{flat_map-append}
use Rattle.litmus_image.proofs.Blocks.{short_blocks}

-- ---- code

pub code_next : (old : List ℕ) (is : List Instr) (k : ℕ) (d : Instr) → k < length is
    → old ++ code_bytes (drop k is) ≡ (old ++ little_bytes 4 (encode_of (get_or is k d))) ++ code_bytes (drop (k + 1) is)
unfolding code_bytes
code_next old is k d inside = rw (add-one, drop-cons is k d inside) (sym (append_assoc old (little_bytes 4 (encode_of (get_or is k d))) (code_bytes (drop (suc k) is))))

pub code_done : (old : List ℕ) (is : List Instr) (k : ℕ) → length is ≤ k → old ++ code_bytes (drop k is) ≡ old
unfolding code_bytes
code_done old is k past = rw (drop_of_length-le is past) (append-nil old)

code_bytes-append : (is js : List Instr) → code_bytes (is ++ js) ≡ code_bytes is ++ code_bytes js
unfolding code_bytes
code_bytes-append is js = flat_map-append (λ (i : Instr). little_bytes 4 (encode_of i)) is js

pub whole_code : (leaves : ℕ) (places : List ℕ) (blocks : List (List Instr))
    → (code_bytes jump_by_number ++ code_bytes (leaf_words places (begins_from (4 + leaves) blocks) leaves)) ++ code_bytes (all_of blocks) ≡ code_bytes (code_of leaves places blocks)
unfolding code_of leaf_words
whole_code leaves places blocks =
    let words = map (leaf_word places (begins_from (4 + leaves) blocks)) (range_with_len 0 leaves) in
    sym (code_bytes-append (jump_by_number ++ words) (all_of blocks) ∙ ap (λ (bs : List ℕ). bs ++ code_bytes (all_of blocks)) (code_bytes-append jump_by_number words))

length-code_bytes : (is : List Instr) → length (code_bytes is) ≡ 4 * length is
unfolding code_bytes
length-code_bytes [] = refl
length-code_bytes (i ∷ is) =
    let rest = length-code_bytes is in
    let e = length-append (little_bytes 4 (encode_of i)) (code_bytes is) in
    omega (arith, rest, e)

length-code_of : (leaves : ℕ) (places : List ℕ) (blocks : List (List Instr)) → length (code_of leaves places blocks) ≡ 4 + leaves + length (all_of blocks)
unfolding code_of
length-code_of leaves places blocks =
    let words = length-map-range_with_len (leaf_word places (begins_from (4 + leaves) blocks)) 0 leaves in
    let e = length-append jump_by_number (map (leaf_word places (begins_from (4 + leaves) blocks)) (range_with_len 0 leaves) ++ all_of blocks) in
    let f = length-append (map (leaf_word places (begins_from (4 + leaves) blocks)) (range_with_len 0 leaves)) (all_of blocks) in
    omega (arith, words, e, f)

pub short_code : (leaves : ℕ) (places : List ℕ) (runs : Runs) (test : Test) (item_bytes : ℕ) → IsSound test → leaves ≤ 64 → test.threads ≤ leaves
    → length (code_bytes (code_of leaves places (blocks_of runs test item_bytes))) ≤ 262144
short_code leaves places runs test item_bytes sound few fewer =
    let a = length-code_bytes (code_of leaves places (blocks_of runs test item_bytes)) in
    let b = length-code_of leaves places (blocks_of runs test item_bytes) in
    let c = short_blocks runs test item_bytes sound in
    omega (arith, a, b, c, few, fewer)

pub some_code : (leaves : ℕ) (places : List ℕ) (blocks : List (List Instr)) → 4 ≤ length (code_bytes (code_of leaves places blocks))
some_code leaves places blocks =
    let a = length-code_bytes (code_of leaves places blocks) in
    let b = length-code_of leaves places blocks in
    omega (arith, a, b)

-- ---- memory

pub zeros_none : (old : List ℕ) → old ≡ old ++ replicate 0 0
zeros_none old = sym (append-nil old)

pub zeros_more : (old : List ℕ) (n : ℕ) → (old ++ replicate n 0) ++ 0 ∷ [] ≡ old ++ replicate (n + 1) 0
zeros_more old n = append_assoc old (replicate n 0) (0 ∷ []) ∙ ap (λ (zs : List ℕ). old ++ zs) (replicate_more n 0)

pub whole_item : (old : List ℕ) (test : Test) (item_bytes : ℕ) (name : List ℕ)
    → (old ++ little_bytes 4 (word_of test item_bytes (first_value test (Location name)))) ++ replicate (item_bytes - 4) 0 ≡ old ++ item_of test item_bytes name
unfolding item_of
whole_item old test item_bytes name = append_assoc old (little_bytes 4 (word_of test item_bytes (first_value test (Location name)))) (replicate (item_bytes - 4) 0)

-- the items of these locations
unfoldable pub items_of : Test → ℕ → List (List ℕ) → List ℕ
items_of test item_bytes names = flat_map (item_of test item_bytes) names

pub all_items : (test : Test) (item_bytes : ℕ) → memory_of test item_bytes ≡ items_of test item_bytes test.locations
unfolding items_of memory_of
all_items test item_bytes = refl

pub items_next : (old : List ℕ) (test : Test) (item_bytes : ℕ) (names : List (List ℕ)) (k : ℕ) (d : List ℕ) → k < length names
    → old ++ items_of test item_bytes (drop k names) ≡ (old ++ item_of test item_bytes (get_or names k d)) ++ items_of test item_bytes (drop (k + 1) names)
unfolding items_of
items_next old test item_bytes names k d inside =
    rw (add-one, drop-cons names k d inside) (sym (append_assoc old (item_of test item_bytes (get_or names k d)) (items_of test item_bytes (drop (suc k) names))))

pub items_done : (old : List ℕ) (test : Test) (item_bytes : ℕ) (names : List (List ℕ)) (k : ℕ) → length names ≤ k → old ++ items_of test item_bytes (drop k names) ≡ old
unfolding items_of
items_done old test item_bytes names k past = rw (drop_of_length-le names past) (append-nil old)

length-item_of : (test : Test) (item_bytes : ℕ) (name : List ℕ) → item_bytes ≤ 64 → length (item_of test item_bytes name) ≤ 64
unfolding item_of
length-item_of test item_bytes name small =
    let e = length-append (little_bytes 4 (word_of test item_bytes (first_value test (Location name)))) (replicate (item_bytes - 4) 0) in
    let f = length-replicate {A = ℕ} (item_bytes - 4) 0 in
    omega (arith, small, e, f)

length-items : (test : Test) (item_bytes : ℕ) → item_bytes ≤ 64 → (names : List (List ℕ)) → length (items_of test item_bytes names) ≤ 64 * length names
unfolding items_of
length-items test item_bytes small [] = omega arith
length-items test item_bytes small (n ∷ ns) =
    let first = length-item_of test item_bytes n small in
    let rest = length-items test item_bytes small ns in
    let e = length-append (item_of test item_bytes n) (items_of test item_bytes ns) in
    omega (arith, first, rest, e)

pub short_memory : (test : Test) (item_bytes : ℕ) → item_bytes ≤ 64 → length test.locations ≤ 256 → length (memory_of test item_bytes) ≤ 262144
short_memory test item_bytes small few =
    let are = length-items test item_bytes small test.locations in
    subst (λ (bs : List ℕ). length bs ≤ 262144) (sym (all_items test item_bytes)) (omega (arith, are, few))

-- ---- the file

pub room : (code memory : List ℕ) → length code ≤ 262144 → length memory ≤ 262144 → length (written_image entry (test_segments code memory)) ≤ 4194304
unfolding test_segments segment_bytes
room code memory a b =
    let all = room_for_bytes entry (test_segments code memory) in
    let bytes : length (segment_bytes (test_segments code memory)) ≡ length code + length memory = rw (append-nil memory, length-append code memory) refl in
    omega (arith, all, bytes, a, b)

pub two_segments : (code memory : List ℕ) → length (test_segments code memory) ≤ 64
unfolding test_segments
two_segments code memory = omega arith

pub fit_memory : (code memory : List ℕ) → All FitsMemory (test_segments code memory)
unfolding test_segments
fit_memory code memory =
    let first : SegmentValue = record { header = 0; vaddr = entry; flags = 5; bytes = code; memsz = length code } in
    let second : SegmentValue = record { header = 1; vaddr = 0x200000; flags = 6; bytes = memory; memsz = length memory } in
    All-cons FitsMemory first (second ∷ []) (omega arith) (All-cons FitsMemory second [] (omega arith) (All-nil FitsMemory))

-- ---- places

judged_case : (b : Bool) (o : Option ℕ) (qs ps : List ℕ) (threads : ℕ) → nat_eq (length qs) threads ≡ b
    → (if b then option_map_or (λ p. Err (NoLeaf p)) o (Ok qs) else Err (OtherPlaces threads)) ≡ Ok ps → length ps ≡ threads
judged_case true None qs ps threads e h = let same : qs ≡ ps = cc in rw (← same) (grind (arith, nat_tests))
judged_case true (Some p) qs ps threads e h = absurd (cc)
judged_case false o qs ps threads e h = absurd (cc)

named : (threads leaves : ℕ) (places : Option (List ℕ)) (ps : List ℕ) → named_places threads leaves places ≡ Ok ps → length ps ≡ threads
named threads leaves None ps h = let same : range_with_len 0 threads ≡ ps = cc in rw (← same) (length-range_with_len 0 threads)
named threads leaves (Some qs) ps h = judged_case (nat_eq (length qs) threads) (outside leaves qs) qs ps threads refl h

placed_case : (b : Bool) (threads leaves : ℕ) (r : ImageRefusal) (judged : Result (List ℕ) ImageRefusal) (ps : List ℕ) → nat_lt leaves threads ≡ b
    → (if b then Err r else judged) ≡ Ok ps → (judged ≡ Ok ps) × (threads ≤ leaves)
placed_case true threads leaves r judged ps e h = absurd (cc)
placed_case false threads leaves r judged ps e h = (h, grind (arith, nat_tests))

pub placed : (threads leaves : ℕ) (places : Option (List ℕ)) (ps : List ℕ) → places_of threads leaves places ≡ Ok ps → (threads ≤ leaves) × (length ps ≡ threads)
unfolding places_of
placed threads leaves places ps h =
    let both = placed_case (nat_lt leaves threads) threads leaves (TooManyThreads threads) (named_places threads leaves places) ps refl h in
    (both.1, named threads leaves places ps both.0)

-- An image is short, and its two segments fit.
pub ruleset short_image = (short_code, short_memory, room, two_segments, fit_memory)
