-- The sections of a test's text: the header, the initial state, the program and the final section.
use Rattle.std.specs.Prelude.{ℕ, ◌+◌, Bool, ◌&&◌, ◌||◌, nat_eq, nat_le, bytes_eq, codes, List, [], ◌∷◌, ◌++◌, length}
use Rattle.std.specs.Prelude.{take, drop, filter, Ok, if◌then◌else◌}
use Rattle.std.specs.List.{list_all, list_any, position_or_len}
use Rattle.litmus_model.specs.declared.parts.Part.{Part}
use Rattle.litmus_model.specs.declared.parts.Part.TheVariants.{Word, Mark}
use Rattle.litmus_model.specs.declared.parts.Token.{Token}
use Rattle.litmus_model.specs.declared.refusal.Fault.TheVariants.{OtherArchitecture, BadName, NoInit, OpenInit, NoCondition}
use Rattle.litmus_model.specs.Refusing.{Judged, ◌>>=◌, refused}
use Rattle.litmus_model.specs.Bytes.{is_between, is_blank, is_line_feed}
use Rattle.litmus_model.specs.Comments.{next_line}
use Rattle.litmus_model.specs.Tokens.{is_mark, tokens_of}

abbrev pub line_feeds : List ℕ → ℕ
line_feeds text = length (filter is_line_feed text)

-- ---- the header: its first line with a word is `RISCV`, the name, and whatever

-- a word between blanks
pub record HeadWord : Type 0 where
  pub line : ℕ
  pub bytes : List ℕ

abbrev pub head_word : ℕ → List ℕ → List HeadWord
head_word line [] = []
head_word line (b ∷ bs) = record { line = line; bytes = b ∷ bs } ∷ []

abbrev pub is_between_words : ℕ → Bool
is_between_words b = is_blank b || is_line_feed b

-- the word that ends with a byte, where these bytes of it are before
abbrev pub ended_word : ℕ → List ℕ → ℕ → List HeadWord
ended_word line word b = if is_between_words b then head_word line word else []

-- the bytes of a word that are before the next byte
abbrev pub head_word_with : List ℕ → ℕ → List ℕ
head_word_with word b = if is_between_words b then [] else word ++ b ∷ []

-- the words from a line on, where these bytes of a word are before the text
unfoldable pub head_words : ℕ → List ℕ → List ℕ → List HeadWord
head_words line word [] = head_word line word
head_words line word (b ∷ bs) = ended_word line word b ++ head_words (next_line line b) (head_word_with word b) bs

-- 1 to 255 bytes from 21 to 7e
abbrev pub is_test_name : List ℕ → Bool
is_test_name name = nat_le (length name) 255 && list_all (is_between 33 126) name

-- the second word of the line
unfoldable pub name_in : ℕ → List HeadWord → Judged (List ℕ)
name_in line [] = refused line BadName
name_in line (w ∷ ws) = if nat_eq w.line line && is_test_name w.bytes then Ok w.bytes else refused line BadName

-- `last` is the header's last line
unfoldable pub name_of : ℕ → List HeadWord → Judged (List ℕ)
name_of last [] = refused last OtherArchitecture
name_of last (w ∷ ws) = if bytes_eq w.bytes (codes "RISCV") then name_in w.line ws else refused w.line OtherArchitecture

-- ---- sections

pub record Sections : Type 0 where
  pub name : List ℕ
  pub init : List Token
  -- the line of the `}`
  pub closing : ℕ
  pub program : List Token
  -- the line of the final section's first token
  pub condition_line : ℕ
  pub final : List Token
  -- the line of the text's end
  pub end : ℕ

-- a token with which the final section begins
abbrev pub begins_final : Part → Bool
begins_final (Word w) = list_any (bytes_eq w) (codes "exists" ∷ codes "forall" ∷ codes "locations" ∷ codes "filter" ∷ [])
begins_final (Mark b) = nat_eq b 126

abbrev pub is_final : Token → Bool
is_final t = begins_final t.part

-- the final section is not empty
unfoldable pub with_final : List ℕ → List Token → ℕ → ℕ → List Token → List Token → Judged Sections
with_final name init closing end program [] = refused end NoCondition
with_final name init closing end program (t ∷ ts) =
    Ok (record { name = name; init = init; closing = closing; program = program; condition_line = t.line; final = t ∷ ts; end = end })

-- what stands behind the `}`, whose line is `closing`
abbrev pub behind_init : List ℕ → List Token → ℕ → ℕ → List Token → Judged Sections
behind_init name init closing end tokens =
    let n = position_or_len is_final tokens in with_final name init closing end (take n tokens) (drop n tokens)

-- the initial state ends with `}`; `begun` is the line of the `{`
unfoldable pub with_init : List ℕ → ℕ → ℕ → List Token → List Token → Judged Sections
with_init name begun end init [] = refused begun OpenInit
with_init name begun end init (brace ∷ tokens) = behind_init name init brace.line end tokens

abbrev pub sections_in : List ℕ → ℕ → ℕ → List Token → Judged Sections
sections_in name begun end tokens =
    let n = position_or_len (is_mark 125) tokens in with_init name begun end (take n tokens) (drop n tokens)

-- what stands behind the header: the `{`, and the tokens
unfoldable pub behind_header : List ℕ → ℕ → ℕ → List ℕ → Judged Sections
behind_header name begun end [] = refused end NoInit
behind_header name begun end (brace ∷ text) = tokens_of begun text >>= sections_in name begun end

-- of a text without comments
unfoldable pub sections_of : List ℕ → Judged Sections
sections_of text =
    let n = position_or_len (λ b. nat_eq b 123) text in
    let head = take n text in
    let last = 1 + line_feeds head in
    name_of last (head_words 1 [] head) >>= (λ name. behind_header name last (1 + line_feeds text) (drop n text))
