-- A tree file: the tree that a file's bytes say, or the first refusal in the order in which the file is judged.
use Rattle.std.specs.Prelude.{ℕ, ℤ, pos, negsuc, Bool, nat_lt, nat_le, List, [], ◌∷◌, length, codes, bytes_eq, Option}
use Rattle.std.specs.Prelude.{Some, None, Result, Ok, Err, if◌then◌else◌}
use Rattle.std.specs.List.{list_any}
use Rattle.std.specs.Ordering.{nat_cmp, match_ordering}
use Rattle.std.specs.Cmp.Lexicographic.{slice_cmp}
use Rattle.std.specs.Str.{is_utf8}
use Rattle.toml.specs.Data.{Data, as_integer, as_str, Members, no_members, member, get_member}
use Rattle.toml.specs.Parse.{parse_document}
use Rattle.tree_config.specs.DdmTypes.declared.sizes.TreeSizes.{TreeSizes}
use Rattle.tree_model.specs.Start.Sources.{TreeValue}
use Rattle.tree_config.specs.declared.refusal.TreeKey.{TreeKey}
use Rattle.tree_config.specs.declared.refusal.TreeKey.TheVariants as key
use Rattle.tree_config.specs.declared.refusal.TreeRefusal.{TreeRefusal}
use Rattle.tree_config.specs.declared.refusal.TreeRefusal.TheVariants as refusal
use Rattle.tree_config.specs.ShapeText.{Tree, shape_of}
use Rattle.tree_config.specs.Levels.{depth_of, is_uneven, levels_of, leaves_of, widths_of}
use Rattle.tree_config.specs.Ranges.{is_allowed, stacks_end, highest_end}

infixl 10 ◌>>=◌
-- a step after one that may refuse
abbrev pub ◌>>=◌ : {A B : Type 0} → Result A TreeRefusal → (A → Result B TreeRefusal) → Result B TreeRefusal
Ok a >>= step = step a
Err r >>= step = Err r

abbrev pub ok_if : {A : Type 0} → Bool → A → TreeRefusal → Result A TreeRefusal
ok_if b a r = if b then Ok a else Err r

-- ---- keys

abbrev pub key_name : TreeKey → List ℕ
key_name key.Shape = codes "shape"
key_name key.Ways = codes "ways"
key_name key.Sets = codes "sets"
key_name key.Buffer = codes "buffer"
key_name key.Parking = codes "parking"
key_name key.Down = codes "down"
key_name key.Requests = codes "requests"
key_name key.Replies = codes "replies"
key_name key.StackBase = codes "stack_base"
key_name key.StackBytes = codes "stack_bytes"
key_name key.ItemBytes = codes "item_bytes"

abbrev pub every_key : List TreeKey
every_key =
    key.Shape ∷ key.Ways ∷ key.Sets ∷ key.Buffer ∷ key.Parking ∷ key.Down ∷ key.Requests ∷ key.Replies
    ∷ key.StackBase ∷ key.StackBytes ∷ key.ItemBytes ∷ []

abbrev pub is_known : List ℕ → Bool
is_known name = list_any (λ k. bytes_eq name (key_name k)) every_key

-- the lesser of two names by their bytes
abbrev pub lesser : List ℕ → Option (List ℕ) → Option (List ℕ)
lesser name None = Some name
lesser name (Some other) = match_ordering (slice_cmp nat_cmp name other) (Some name) (Some name) (Some other)

-- the least name that isn't one of the keys
abbrev pub least_unknown : Members → Option (List ℕ)
least_unknown no_members = None
least_unknown (member name d ms) = if is_known name then least_unknown ms else lesser name (least_unknown ms)

abbrev pub present : TreeKey → Option Data → Result Data TreeRefusal
present k None = Err (refusal.MissingKey k)
present k (Some d) = Ok d

-- the value of a key that must be there
abbrev pub value_at : TreeKey → Members → Result Data TreeRefusal
value_at k ms = present k (get_member (key_name k) ms)

-- ---- whole numbers

abbrev pub in_range : TreeKey → ℤ → Result ℕ TreeRefusal
in_range k (pos n) = ok_if (is_allowed k n) n (refusal.OutOfRange k)
in_range k (negsuc n) = Err (refusal.OutOfRange k)

abbrev pub whole_number : TreeKey → Option ℤ → Result ℕ TreeRefusal
whole_number k None = Err (refusal.WrongType k)
whole_number k (Some z) = in_range k z

abbrev pub number : TreeKey → Data → Result ℕ TreeRefusal
number k d = whole_number k (as_integer d)

unfoldable pub number_at : TreeKey → Members → Result ℕ TreeRefusal
number_at k ms = value_at k ms >>= number k

unfoldable pub sizes_at : Members → Result TreeSizes TreeRefusal
sizes_at ms =
    number_at key.Sets ms >>= (λ sets.
    number_at key.Buffer ms >>= (λ buffer.
    number_at key.Parking ms >>= (λ parking.
    number_at key.Down ms >>= (λ down.
    number_at key.Requests ms >>= (λ requests.
    number_at key.Replies ms >>= (λ replies.
    Ok (record { sets = sets; buffer = buffer; parking = parking; down = down; requests = requests; replies = replies })))))))

-- the bytes of each stack, where so many harts have one and the first begins here
unfoldable pub stack_bytes_at : ℕ → ℕ → Members → Result ℕ TreeRefusal
stack_bytes_at base harts ms =
    number_at key.StackBytes ms >>=
    (λ bytes. ok_if (nat_le (stacks_end base harts bytes) highest_end) bytes
    (refusal.OutOfRange key.StackBytes))

abbrev pub number_or : ℕ → TreeKey → Option Data → Result ℕ TreeRefusal
number_or n k None = Ok n
number_or n k (Some d) = number k d

-- the bytes of an item, 16 where the file doesn't say
unfoldable pub item_bytes_at : Members → Result ℕ TreeRefusal
item_bytes_at ms = number_or 16 key.ItemBytes (get_member (key_name key.ItemBytes) ms)

-- ---- the shape

abbrev pub is_wide : Tree → Bool
is_wide t = list_any (nat_lt 16) (widths_of (levels_of t))

abbrev pub judged_tree : Tree → Result (List (List ℕ)) TreeRefusal
judged_tree t =
    if is_uneven t then Err refusal.Uneven
    else (if nat_lt 4 (depth_of t) then Err refusal.TooDeep
    else (if is_wide t then Err refusal.TooWide
    else (if nat_lt 64 (leaves_of (levels_of t)) then Err refusal.TooManyLeaves
    else Ok (levels_of t))))

abbrev pub judged_reading : Result Tree ℕ → Result (List (List ℕ)) TreeRefusal
judged_reading (Err place) = Err (refusal.BadShape place)
judged_reading (Ok t) = judged_tree t

-- the levels of the shape that a text says
unfoldable pub levels_in : List ℕ → Result (List (List ℕ)) TreeRefusal
levels_in text = judged_reading (shape_of text)

abbrev pub shape_text : Option (List ℕ) → Result (List (List ℕ)) TreeRefusal
shape_text None = Err (refusal.WrongType key.Shape)
shape_text (Some text) = levels_in text

abbrev pub shape_in : Data → Result (List (List ℕ)) TreeRefusal
shape_in d = shape_text (as_str d)

unfoldable pub shape_at : Members → Result (List (List ℕ)) TreeRefusal
shape_at ms = value_at key.Shape ms >>= shape_in

-- ---- the file

-- the keys are judged in this order
unfoldable pub tree_in : Members → Result TreeValue TreeRefusal
tree_in ms =
    shape_at ms >>= (λ levels.
    number_at key.Ways ms >>= (λ ways.
    sizes_at ms >>= (λ sizes.
    number_at key.StackBase ms >>= (λ base.
    stack_bytes_at base (leaves_of levels) ms >>= (λ bytes.
    item_bytes_at ms >>= (λ item_bytes.
    Ok (record { levels = levels; way_count = ways; sizes = sizes; stack_base = base; stack_bytes = bytes; item_bytes = item_bytes })))))))

abbrev pub unless_unknown : Option (List ℕ) → Members → Result TreeValue TreeRefusal
unless_unknown None ms = tree_in ms
unless_unknown (Some name) ms = Err (refusal.UnknownKey name)

abbrev pub known_tree : Members → Result TreeValue TreeRefusal
known_tree ms = unless_unknown (least_unknown ms) ms

abbrev pub tree_of_table : Option Members → Result TreeValue TreeRefusal
tree_of_table None = Err refusal.NotToml
tree_of_table (Some ms) = known_tree ms

-- the tree that a file's bytes say, or the first refusal
unfoldable pub tree_of : List ℕ → Result TreeValue TreeRefusal
tree_of bytes =
    if nat_lt 65536 (length bytes) then Err refusal.TooLong
    else (if is_utf8 bytes then tree_of_table (parse_document bytes) else Err refusal.NotToml)
