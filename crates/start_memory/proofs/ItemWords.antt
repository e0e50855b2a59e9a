-- The words of the items at the start.
use Rattle.std.proofs.Common.{◌≡◌, ℕ, ◌+◌, ◌-◌, ◌<◌, ◌≤◌, List, [], ◌∷◌, ◌++◌, length, take, drop, get_or, slice_index_or, sym, ap, ◌∙◌, arith, add-one}
use Rattle.std.specs.Prelude.{flat_map}
use Rattle.std.proofs.Math.Seq.{take-suc}
use Rattle.std.proofs.lemmas.List.{append-nil, get_or-drop, get_or-take}
use Rattle.std.proofs.lemmas.List.Concat.{flat_map-append}
use Rattle.byteorder.specs.Endian.{little_number}
use Rattle.start_memory.specs.DdmTypes.ItemTable.{ItemRow}
use Rattle.start_memory.specs.TreeModel.Start.Sources.{SegmentValue}
use Rattle.start_memory.specs.TreeModel.Start.Memory.{item_words, memory_word}
use Rattle.elf_load.proofs.SegmentBytes.{own_word}

-- a byte, and a word, of those of a segment that are read together from the file's bytes
file_byte : (bytes : List ℕ) (from count place i : ℕ) → place + i < count → get_or (drop place (take count (drop from bytes))) i 0 ≡ get_or (drop (from + place) bytes) i 0
file_byte bytes from count place i inside =
    let there : from + (place + i) ≡ from + place + i = omega arith in
    get_or-drop place (take count (drop from bytes)) i 0 ∙ get_or-take count (drop from bytes) (place + i) 0 inside ∙ get_or-drop from bytes (place + i) 0
    ∙ ap (λ n. get_or bytes n 0) there ∙ sym (get_or-drop (from + place) bytes i 0)

pub file_word : (s : SegmentValue) (a from count place : ℕ) → s.vaddr + from ≡ a → a + count ≤ s.vaddr + s.memsz → place + 4 ≤ count
    → little_number 4 (drop place (take count (drop from s.bytes))) ≡ memory_word (s ∷ []) (a + place)
file_word s a from count place begins below inside =
    let byte = λ (i : ℕ) (few : i < 4). file_byte s.bytes from count place i (omega (arith, inside, few)) in
    let at : from + place ≡ a + place - s.vaddr = omega (arith, begins) in
    let same : little_number 4 (drop place (take count (drop from s.bytes))) ≡ little_number 4 (drop (from + place) s.bytes) =
    omega (arith, byte 0 (omega arith), byte 1 (omega arith), byte 2 (omega arith), byte 3 (omega arith)) in
    same ∙ ap (λ n. little_number 4 (drop n s.bytes)) at ∙ own_word s (a + place) (omega (arith, begins)) (omega (arith, below, inside))

-- the words of rows
abbrev pub row_words : ℕ → List SegmentValue → List ItemRow → List ℕ
row_words width segments rows = flat_map (λ (row : ItemRow). item_words width segments row.address) rows

flat_map-snoc : (width : ℕ) (segments : List SegmentValue) (rows : List ItemRow) (row : ItemRow)
    → row_words width segments (rows ++ row ∷ []) ≡ row_words width segments rows ++ item_words width segments row.address
flat_map-snoc width segments rows row =
    flat_map-append (λ (r : ItemRow). item_words width segments r.address) rows (row ∷ []) ∙ ap (λ (more : List ℕ). row_words width segments rows ++ more) (append-nil (item_words width segments row.address))

pub one_item_more : (width : ℕ) (segments : List SegmentValue) (rows : List ItemRow) (k : ℕ) (d : ItemRow) (old new : List ℕ) → k < length rows
    → old ≡ row_words width segments (take k rows) → new ≡ old ++ item_words width segments (slice_index_or rows k d).address → new ≡ row_words width segments (take (k + 1) rows)
one_item_more width segments rows k d old new inside was put =
    put ∙ ap (λ (o : List ℕ). o ++ item_words width segments (slice_index_or rows k d).address) was
    ∙ sym (flat_map-snoc width segments (take k rows) (slice_index_or rows k d))
    ∙ ap (λ (rs : List ItemRow). row_words width segments rs) (sym (take-suc rows k d inside) ∙ ap (λ (n : ℕ). take n rows) (sym (add-one k)))
