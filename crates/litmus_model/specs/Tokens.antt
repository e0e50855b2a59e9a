-- Tokens: words and marks, each with its line; and the pieces between marks.
use Rattle.std.specs.Prelude.{ℕ, Bool, false, ◌||◌, nat_eq, nat_lt, List, [], ◌∷◌, ◌++◌, length, map, Ok, if◌then◌else◌}
use Rattle.litmus_model.specs.declared.parts.Part.{Part}
use Rattle.litmus_model.specs.declared.parts.Part.TheVariants.{Word, Mark}
use Rattle.litmus_model.specs.declared.parts.Token.{Token}
use Rattle.litmus_model.specs.declared.refusal.Fault.TheVariants.{BadByte, LongWord}
use Rattle.litmus_model.specs.Refusing.{Judged, ◌>>=◌, refused}
use Rattle.litmus_model.specs.Bytes.{is_blank, is_line_feed, is_mark_byte, is_word_byte}
use Rattle.litmus_model.specs.Comments.{next_line}

-- ---- bytes to tokens

abbrev pub token : ℕ → Part → Token
token line part = record { line = line; part = part }

-- the token of a word, where it has bytes
abbrev pub word_token : ℕ → List ℕ → List Token
word_token line [] = []
word_token line (b ∷ bs) = token line (Word (b ∷ bs)) ∷ []

-- the token of a byte that is in no word
abbrev pub mark_token : ℕ → ℕ → List Token
mark_token line b = if is_blank b || is_line_feed b then [] else token line (Mark b) ∷ []

-- the tokens that end with a byte, where these bytes of a word are before it
abbrev pub ended : ℕ → List ℕ → ℕ → List Token
ended line word b = if is_word_byte b then [] else word_token line word ++ mark_token line b

-- the bytes of a word that are before the next byte
abbrev pub word_with : List ℕ → ℕ → List ℕ
word_with word b = if is_word_byte b then word ++ b ∷ [] else []

-- the tokens from a line on, where these bytes of a word are before the text
unfoldable pub tokens_from : ℕ → List ℕ → List ℕ → List Token
tokens_from line word [] = word_token line word
tokens_from line word (b ∷ bs) = ended line word b ++ tokens_from (next_line line b) (word_with word b) bs

-- a word of at most 127 bytes, or a mark that there is
unfoldable pub judged_token : ℕ → Part → Judged Token
judged_token line (Word w) = if nat_lt 127 (length w) then refused line LongWord else Ok (token line (Word w))
judged_token line (Mark b) = if is_mark_byte b then Ok (token line (Mark b)) else refused line BadByte

-- all of them, or the first refusal
unfoldable pub judged_tokens : List Token → Judged (List Token)
judged_tokens [] = Ok []
judged_tokens (t ∷ ts) = judged_token t.line t.part >>= (λ first. judged_tokens ts >>= (λ others. Ok (first ∷ others)))

abbrev pub tokens_of : ℕ → List ℕ → Judged (List Token)
tokens_of line text = judged_tokens (tokens_from line [] text)

-- ---- pieces

-- tokens up to a mark, and the line of that mark
pub record Piece : Type 0 where
  pub tokens : List Token
  pub line : ℕ

abbrev pub is_part_mark : ℕ → Part → Bool
is_part_mark mark (Word w) = false
is_part_mark mark (Mark b) = nat_eq b mark

abbrev pub is_mark : ℕ → Token → Bool
is_mark mark t = is_part_mark mark t.part

abbrev pub parts_of : List Token → List Part
parts_of tokens = map (λ (t : Token). t.part) tokens

-- a token in front of pieces
abbrev pub with_token : Token → List Piece → List Piece
with_token t [] = []
with_token t (p ∷ ps) = record { tokens = t ∷ p.tokens; line = p.line } ∷ ps

-- a mark ends a piece
abbrev pub before_pieces : ℕ → Token → List Piece → List Piece
before_pieces mark t ps = if is_mark mark t then record { tokens = []; line = t.line } ∷ ps else with_token t ps

-- the pieces between these marks, each with the line of the mark that ends it; the last one ends in the line `end`
unfoldable pub pieces_at : ℕ → ℕ → List Token → List Piece
pieces_at mark end [] = record { tokens = []; line = end } ∷ []
pieces_at mark end (t ∷ ts) = before_pieces mark t (pieces_at mark end ts)
