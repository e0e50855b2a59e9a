-- Parts of the lines of a report.
use Rattle.std.specs.Prelude.{ℕ, Bool, true, false, List, [], ◌∷◌, ◌++◌, codes, decimal, if◌then◌else◌}
use Rattle.report.specs.DdmText.Hex.{hex8}
use Rattle.report.specs.DdmTypes.declared.operations.Op.{Op}
use Rattle.report.specs.TreeModel.declared.CopyPlace.{CopyPlace}
use Rattle.text_model.specs.Report.{copy_place_text, put_text, word_texts}

abbrev pub any_byte : List ℕ → Bool
any_byte [] = false
any_byte (byte ∷ bytes) = true

-- no operation puts a byte
abbrev pub are_silent : List Op → Bool
are_silent [] = true
are_silent (op ∷ ops) = if any_byte (put_text op.effect) then false else are_silent ops

-- what stands behind a hart's output: a dash where there is none
abbrev pub dash_behind : List ℕ → List ℕ
dash_behind output = if any_byte output then [] else codes "-"

-- the line of an item up to the states of its entries
unfoldable pub item_front : ℕ → ℕ → List ℕ → CopyPlace → List ℕ
item_front number address words place =
    codes "item " ++ decimal number ++ codes " " ++ hex8 address ++ word_texts words ++ codes " " ++ copy_place_text place ++ codes " "
