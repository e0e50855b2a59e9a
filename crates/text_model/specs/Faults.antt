-- The line that tells why a command gave nothing.
use Rattle.std.specs.Prelude.{ℕ, ◌+◌, Bool, ◌&&◌, nat_le, List, [], ◌∷◌, ◌++◌, codes, decimal, flat_map, map, if◌then◌else◌}
use Rattle.text_model.specs.declared.ScheduleRefusal.{ScheduleRefusal}
use Rattle.text_model.specs.declared.ScheduleRefusal.TheVariants.{BadTurn, TooManyTurns, NoSuchHart, NoSuchBus}
use Rattle.text_model.specs.declared.ScheduleRefusal.TheVariants.{NoSuchChild, NoEnd, AfterEnd}

-- ---- the words of a refusal's name

-- a capital letter
abbrev pub is_capital : ℕ → Bool
is_capital letter = nat_le 65 letter && nat_le letter 90

-- a letter inside a name: a capital begins a word
abbrev pub letter_words : ℕ → List ℕ
letter_words letter = if is_capital letter then codes " " ++ (letter + 32) ∷ [] else letter ∷ []

-- the first letter of a name
abbrev pub first_letter : ℕ → ℕ
first_letter letter = if is_capital letter then letter + 32 else letter

-- a name in lower-case words, as `no end` for NoEnd
unfoldable pub name_words : List ℕ → List ℕ
name_words [] = []
name_words (letter ∷ letters) = first_letter letter ∷ flat_map letter_words letters

-- a space and a number
abbrev pub number_text : ℕ → List ℕ
number_text number = codes " " ++ decimal number

-- the same for each of several numbers
unfoldable pub number_texts : List ℕ → List ℕ
number_texts numbers = flat_map number_text numbers

-- a refusal by its name, with its numbers
unfoldable pub refusal_text : List ℕ → List ℕ → List ℕ
refusal_text name numbers = name_words name ++ number_texts numbers

-- a refusal by its name, with a key as a tree file spells it
unfoldable pub key_refusal_text : List ℕ → List ℕ → List ℕ
key_refusal_text name key = name_words name ++ codes " " ++ key

-- a byte of an unknown key, or a question mark where it can't be printed
abbrev pub shown_byte : ℕ → ℕ
shown_byte byte = if nat_le 33 byte && nat_le byte 126 then byte else 63

-- an unknown key as it is printed
abbrev pub shown_key : List ℕ → List ℕ
shown_key key = map shown_byte key

-- ---- the lines

-- the words of the command
unfoldable pub usage_fault : ℕ → List ℕ
usage_fault place = codes "ddm: usage: word " ++ decimal place ++ codes "\n"

-- an image that is refused, or that the tree can't take
unfoldable pub image_fault : List ℕ → List ℕ → List ℕ
image_fault name numbers = codes "ddm: image: " ++ refusal_text name numbers ++ codes "\n"

-- a tree file that is refused
unfoldable pub tree_fault : List ℕ → List ℕ → List ℕ
tree_fault name numbers = codes "ddm: tree: " ++ refusal_text name numbers ++ codes "\n"

-- a refusal of a key that trees have
unfoldable pub tree_key_fault : List ℕ → List ℕ → List ℕ
tree_key_fault name key = codes "ddm: tree: " ++ key_refusal_text name key ++ codes "\n"

-- a key that trees don't have
abbrev pub unknown_key_fault : List ℕ → List ℕ
unknown_key_fault key = tree_key_fault (codes "UnknownKey") (shown_key key)

-- the name of a schedule's refusal
abbrev pub schedule_refusal_name : ScheduleRefusal → List ℕ
schedule_refusal_name BadTurn = codes "BadTurn"
schedule_refusal_name TooManyTurns = codes "TooManyTurns"
schedule_refusal_name NoSuchHart = codes "NoSuchHart"
schedule_refusal_name NoSuchBus = codes "NoSuchBus"
schedule_refusal_name NoSuchChild = codes "NoSuchChild"
schedule_refusal_name NoEnd = codes "NoEnd"
schedule_refusal_name AfterEnd = codes "AfterEnd"

-- a schedule that is refused in a line
unfoldable pub schedule_fault : ℕ → ScheduleRefusal → List ℕ
schedule_fault line refusal =
    codes "ddm: schedule line " ++ decimal line ++ codes ": " ++ name_words (schedule_refusal_name refusal)
    ++ codes "\n"

-- a file that can't be read, by what it is: `image`, `tree`, `schedule`, `witness`, `checkpoint`
unfoldable pub read_fault : List ℕ → List ℕ
read_fault file = codes "ddm: cannot read the " ++ file ++ codes "\n"

-- the text can't be written
abbrev pub write_fault : List ℕ
write_fault = codes "ddm: cannot write\n"

-- no memory was there
abbrev pub memory_fault : List ℕ
memory_fault = codes "ddm: no memory\n"

-- a line of a witness that is refused, by the refusal's name
unfoldable pub witness_line_fault : ℕ → List ℕ → List ℕ
witness_line_fault line name = codes "ddm: witness line " ++ decimal line ++ codes ": " ++ name_words name ++ codes "\n"

-- a witness that is refused as a whole
unfoldable pub witness_fault : List ℕ → List ℕ
witness_fault name = codes "ddm: witness: " ++ name_words name ++ codes "\n"

-- a checkpoint that is refused
unfoldable pub checkpoint_fault : List ℕ → List ℕ → List ℕ
checkpoint_fault name numbers = codes "ddm: checkpoint: " ++ refusal_text name numbers ++ codes "\n"

-- lists that are too small for a jam to be ruled out, by their key in a tree file
unfoldable pub small_lists_fault : List ℕ → List ℕ
small_lists_fault key = codes "ddm: small lists: " ++ key ++ codes "\n"
