-- The code: a finite map from word address to word, as the list of its entries in order of address.
use Rattle.std.specs.Prelude.{◌≡◌, ℕ, ◌+◌, ◌*◌, ◌<◌, ◌≤◌, nat_eq, nat_lt, List, [], ◌∷◌, length, Option, Some, None}
use Rattle.std.specs.Prelude.{if◌then◌else◌, AllPairs}
use Rattle.std.specs.List.{fold}
use Rattle.ddm_types.specs.declared.code_map.CodePart.{CodePart}

pub record CodeWord : Type 0 where
  pub address : ℕ
  pub word : ℕ

-- the word at a pc
unfoldable pub word_at : List CodeWord → ℕ → Option ℕ
word_at [] pc = None
word_at (e ∷ es) pc = if nat_eq e.address pc then Some e.word else word_at es pc

-- words that lie one behind the other from a start
unfoldable pub words_from : ℕ → List ℕ → List CodeWord
words_from start [] = []
words_from start (w ∷ ws) = record { address = start; word = w } ∷ words_from (start + 4) ws

-- an entry put into an ascending list, unless one with its address is there
unfoldable pub with_word : List CodeWord → CodeWord → List CodeWord
with_word [] e = e ∷ []
with_word (x ∷ xs) e =
    if nat_eq e.address x.address then x ∷ xs
    else (if nat_lt e.address x.address then e ∷ x ∷ xs else x ∷ with_word xs e)

-- the entries in order of address; where two have one address, the first of them
unfoldable pub code_of : List CodeWord → List CodeWord
code_of entries = fold with_word [] entries

-- The rule of the code: it has at each address the word that the entries have there first, and its entries are in order of address.
pub record IsCodeOf (entries code : List CodeWord) : Type 0 where
  pub words : (pc : ℕ) → word_at code pc ≡ word_at entries pc
  pub in_order : AllPairs (λ e next. e.address < next.address) code

-- ---- the parts that code is made of

-- the entries of a part
abbrev pub part_words : CodePart → List CodeWord
part_words p = words_from p.start p.words.items

-- where a part ends: the address behind its last word
abbrev pub part_end : CodePart → ℕ
part_end p = p.start + 4 * length p.words.items

-- the byte at this address is a part's
abbrev pub IsInPart : CodePart → ℕ → Type 0
IsInPart p address = (p.start ≤ address) × (address < part_end p)

-- no byte is in both parts
abbrev pub AreDisjoint : CodePart → CodePart → Type 0
AreDisjoint p q = (address : ℕ) → IsInPart p address → IsInPart q address → ⊥

-- each part ends where the next one starts or before
abbrev pub AreInOrder : List CodePart → Type 0
AreInOrder parts = AllPairs (λ p q. part_end p ≤ q.start) parts
