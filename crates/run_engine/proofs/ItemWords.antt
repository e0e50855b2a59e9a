-- The words of the items at the start, one item more at a time.
use Rattle.std.proofs.Common.{◌≡◌, ℕ, ◌+◌, ◌<◌, List, [], ◌∷◌, ◌++◌, map, length, take, slice_index_or, ap, ◌∙◌, add-one}
use Rattle.std.proofs.Math.Seq.{take-suc}
use Rattle.std.proofs.lemmas.List.{map-append}
use Rattle.run_engine.specs.DdmTypes.ItemTable.{ItemRow}
use Rattle.run_engine.specs.TreeModel.Start.Sources.{SegmentValue}
use Rattle.run_engine.specs.TreeModel.Start.Memory.{item_words}

-- the words of the first items
abbrev pub first_item_words : ℕ → List SegmentValue → List ItemRow → ℕ → List (List ℕ)
first_item_words width segments rows k = map (λ (row : ItemRow). item_words width segments row.address) (take k rows)

pub more_item_words : (width : ℕ) (segments : List SegmentValue) (rows : List ItemRow) (k : ℕ) (d : ItemRow) → k < length rows
    → first_item_words width segments rows (k + 1) ≡ first_item_words width segments rows k ++ item_words width segments (slice_index_or rows k d).address ∷ []
more_item_words width segments rows k d inside =
    rw add-one (ap (λ (rs : List ItemRow). map (λ (row : ItemRow). item_words width segments row.address) rs) (take-suc rows k d inside)
    ∙ map-append (λ (row : ItemRow). item_words width segments row.address) (take k rows) (slice_index_or rows k d ∷ []))
