-- What a directory keeps of an item of which it has no record; and the words of its lists.
-- Letters: d is a directory.
-- To be believed with the contracts: they speak of it.
use Rattle.std.specs.Prelude.{◌≡◌, ℕ, Bool, true, false, List, [], ◌∷◌, ◌++◌, ⊤}
use Rattle.film_parts.specs.DdmTypes.declared.sizes.Hold.{Hold}
use Rattle.film_parts.specs.StateWords.Parts.{counted, down_words, item_and_words, request_words}
use Rattle.film_parts.specs.TreeModel.State.Values.{DirItem, DirValue}

-- the top holds every item Exclusive and answers none
abbrev pub IsPlain : Bool → DirItem → Type 0
IsPlain true i = (i.hold ≡ Hold.Exclusive) × (i.answering ≡ false)
IsPlain false i = ⊤

-- the words after the records
abbrev pub dir_list_words : DirValue → List ℕ
dir_list_words d =
    counted down_words d.down ++ counted request_words d.requests ++ counted item_and_words d.replies
    ++ counted item_and_words d.parked ++ d.reserved ∷ []
