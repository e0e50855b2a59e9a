-- The words of all items, one behind the other, cut into those of each item.
use Rattle.std.proofs.Common.{◌≡◌, ℕ, ◌+◌, ◌*◌, ◌/◌, List, [], ◌∷◌, ◌++◌, map, length, take, drop, refl, sym, ap, ◌∙◌, arith, append_assoc, length-append}
use Rattle.std.specs.Prelude.{flat_map}
use Rattle.std.specs.List.{range_with_len}
use Rattle.std.proofs.Math.Seq.{drop-append_seam, take-append_seam}
use Rattle.std.proofs.lemmas.List.FromFn.{length-map-range_with_len}
use Rattle.witness_check.specs.DdmTypes.declared.sizes.Start.{Start}
use Rattle.witness_check.specs.DdmTypes.ItemTable.{ItemRow, ItemTable, item_count, items_of}
use Rattle.witness_check.specs.TreeModel.Start.Sources.{SegmentValue}
use Rattle.witness_check.specs.TreeModel.Start.Memory.{item_words, memory_word}
use Rattle.rv_flat.specs.ItemWords.{words_of_item, words_by_item}
use Rattle.start_memory.specs.Memory.{memory_items, memory_words}

module _ (width : ℕ) (segments : List SegmentValue) where
  words_at : ItemRow → List ℕ
  words_at row = item_words width segments row.address

  abbrev pub all_words : List ItemRow → List ℕ
  all_words rows = flat_map (λ (row : ItemRow). item_words width segments row.address) rows

  length-item : (address : ℕ) → length (item_words width segments address) ≡ width
  length-item address = length-map-range_with_len (λ k. memory_word segments (address + 4 * k)) 0 width

  pub length-all : (rows : List ItemRow) → length rows * width ≡ length (all_words rows)
  length-all [] = omega arith
  length-all (row ∷ rows) =
      omega (arith, length-append (item_words width segments row.address) (all_words rows), length-item row.address, length-all rows)

  cut_from : (front : List ℕ) (k : ℕ) (rows : List ItemRow) → length front ≡ k * width
      → map (words_of_item width (front ++ all_words rows)) (range_with_len k (length rows)) ≡ map (λ (row : ItemRow). item_words width segments row.address) rows
  cut_from front k [] size = refl
  cut_from front k (row ∷ rows) size =
      let here = item_words width segments row.address in
      let more = all_words rows in
      let first : take width (drop (k * width) (front ++ (here ++ more))) ≡ here =
      ap (λ (n : ℕ). take width (drop n (front ++ (here ++ more)))) (sym size)
      ∙ ap (λ t. take width t) (drop-append_seam front (here ++ more))
      ∙ ap (λ (n : ℕ). take n (here ++ more)) (sym (length-item row.address))
      ∙ take-append_seam here more in
      let size' : length (front ++ here) ≡ (k + 1) * width = omega (arith, length-append front here, length-item row.address, size) in
      ap (λ (w : List ℕ). w ∷ map (words_of_item width (front ++ (here ++ more))) (range_with_len (k + 1) (length rows))) first
      ∙ ap (λ (ws : List ℕ). here ∷ map (words_of_item width ws) (range_with_len (k + 1) (length rows))) (sym (append_assoc front here more))
      ∙ ap (λ (ws : List (List ℕ)). here ∷ ws) (cut_from (front ++ here) (k + 1) rows size')

  pub cut_all : (rows : List ItemRow) → words_by_item width (length rows) (all_words rows) ≡ map (λ (row : ItemRow). item_words width segments row.address) rows
  cut_all rows = cut_from [] 0 rows (omega arith)

-- the size of the items
pub items_size : (start : Start) (item_bytes : ℕ) (segments : List SegmentValue) → (memory_items start item_bytes segments).size ≡ item_bytes
unfolding memory_items items_of
items_size start item_bytes segments = refl

-- the words of the machine at the start
pub words_are : (start : Start) (item_bytes : ℕ) (segments : List SegmentValue) (items : ItemTable) (words : List ℕ) → items ≡ memory_items start item_bytes segments
    → words ≡ all_words (item_bytes / 4) segments items.rows → words_by_item (item_bytes / 4) (item_count items) words ≡ memory_words start item_bytes segments
unfolding memory_words
words_are start item_bytes segments items words is are =
    ap (λ (ws : List ℕ). words_by_item (item_bytes / 4) (item_count items) ws) are
    ∙ cut_all (item_bytes / 4) segments items.rows
    ∙ ap (λ (t : ItemTable). map (λ (row : ItemRow). item_words (item_bytes / 4) segments row.address) t.rows) is
