-- Legal lists of completed instructions.
use Rattle.std.specs.Prelude.{◌≡◌, ℕ, ◌-◌, ◌/◌, ◌%◌, slice_set, All, Bool, true, false, ◌&&◌, nat_eq, List, [], ◌∷◌}
use Rattle.std.specs.Prelude.{fold, Option, Some, None, IsSome, unwrap_or, option_and_then, Ok, Err, if◌then◌else◌}
use Rattle.ddm_types.specs.declared.operations.Effect.{Effect}
use Rattle.ddm_types.specs.declared.operations.Effect.TheVariants.{Plain, Put, Load, Store, Lr, ScOk, ScFail, Amo}
use Rattle.ddm_types.specs.declared.operations.Op.{Op}
use Rattle.ddm_types.specs.CodeMap.{CodeWord}
use Rattle.ddm_types.specs.ItemTable.{ItemTable, ItemRow, item_at, row_at}
use Rattle.flat_model.specs.Flat.{FlatMachine, FlatStepped, flat_hart, flat_step, has_reserved}

-- an operation of this hart
abbrev pub is_of : ℕ → Op → Bool
is_of h op = nat_eq op.hart h

-- ---- what an effect is on

-- the word that an effect reads or writes; a failed SC does neither
abbrev pub effect_address : Effect → Option ℕ
effect_address Plain = None
effect_address (Put byte) = None
effect_address (Load address word) = Some address
effect_address (Store address before after) = Some address
effect_address (Lr address word) = Some address
effect_address (ScOk address before after) = Some address
effect_address (ScFail address) = None
effect_address (Amo address before after) = Some address

-- an effect that stores
abbrev pub is_change : Effect → Bool
is_change Plain = false
is_change (Put byte) = false
is_change (Load address word) = false
is_change (Store address before after) = true
is_change (Lr address word) = false
is_change (ScOk address before after) = true
is_change (ScFail address) = false
is_change (Amo address before after) = true

abbrev pub effect_item : ItemTable → Effect → Option ℕ
effect_item items effect = option_and_then (item_at items) (effect_address effect)

-- the effect reads or writes a word of this item
unfoldable pub on_item : ItemTable → ℕ → Effect → Bool
on_item items x effect = has_reserved (effect_item items effect) x

-- the effect writes a word of this item
unfoldable pub changes_item : ItemTable → ℕ → Effect → Bool
changes_item items x effect = is_change effect && on_item items x effect

-- the item that an effect stores to
abbrev pub changed_item : ItemTable → Effect → Option ℕ
changed_item items effect = if is_change effect then effect_item items effect else None

-- a hart's reservation after an instruction of its own: LR makes one, an SC of either outcome ends it
abbrev pub reserved_by_own : ItemTable → Option ℕ → Effect → Option ℕ
reserved_by_own items r Plain = r
reserved_by_own items r (Put byte) = r
reserved_by_own items r (Load address word) = r
reserved_by_own items r (Store address before after) = r
reserved_by_own items r (Lr address word) = item_at items address
reserved_by_own items r (ScOk address before after) = None
reserved_by_own items r (ScFail address) = None
reserved_by_own items r (Amo address before after) = r

-- and after another hart's, which ends it where it stores to that item
abbrev pub reserved_by_other : Option ℕ → Option ℕ → Option ℕ
reserved_by_other r None = r
reserved_by_other r (Some x) = if has_reserved r x then None else r

-- hart g's reservation after an instruction of any hart
abbrev pub reserved_by : ItemTable → ℕ → Option ℕ → Op → Option ℕ
reserved_by items g r op = if is_of g op then reserved_by_own items r op.effect else reserved_by_other r (changed_item items op.effect)

-- hart g's reservation after a list of records, by their effects alone, where it was r before
unfoldable pub reservation : ItemTable → ℕ → Option ℕ → List Op → Option ℕ
reservation items g r ops = fold (reserved_by items g) r ops

-- an item's words after an effect on it: the word at its address is the one that it stores
abbrev pub stored_by : ItemTable → ℕ → List ℕ → Effect → List ℕ
stored_by items x words Plain = words
stored_by items x words (Put byte) = words
stored_by items x words (Load address word) = words
stored_by items x words (Store address before after) = slice_set words ((address - (row_at items x).address) / 4) after
stored_by items x words (Lr address word) = words
stored_by items x words (ScOk address before after) = slice_set words ((address - (row_at items x).address) / 4) after
stored_by items x words (ScFail address) = words
stored_by items x words (Amo address before after) = slice_set words ((address - (row_at items x).address) / 4) after

abbrev pub words_by : ItemTable → ℕ → List ℕ → Op → List ℕ
words_by items x words op = if changes_item items x op.effect then stored_by items x words op.effect else words

-- item x's words after a list of records, by their effects alone
unfoldable pub words_after : ItemTable → ℕ → List ℕ → List Op → List ℕ
words_after items x words ops = fold (words_by items x) words ops

-- items begin and end at whole words
abbrev pub HasWholeWords : ItemTable → Type 0
HasWholeWords items = (items.size % 4 ≡ 0) × All (λ (row : ItemRow). row.address % 4 ≡ 0) items.rows

-- ---- legal lists

-- the same effect, with the same numbers
abbrev pub same_effect : Effect → Effect → Bool
same_effect Plain Plain = true
same_effect (Put a) (Put b) = nat_eq a b
same_effect (Load a w) (Load b v) = nat_eq a b && nat_eq w v
same_effect (Store a w x) (Store b v y) = nat_eq a b && nat_eq w v && nat_eq x y
same_effect (Lr a w) (Lr b v) = nat_eq a b && nat_eq w v
same_effect (ScOk a w x) (ScOk b v y) = nat_eq a b && nat_eq w v && nat_eq x y
same_effect (ScFail a) (ScFail b) = nat_eq a b
same_effect (Amo a w x) (Amo b v y) = nat_eq a b && nat_eq w v && nat_eq x y
same_effect _ _ = false

abbrev pub is_sc_ok : Effect → Bool
is_sc_ok Plain = false
is_sc_ok (Put byte) = false
is_sc_ok (Load address word) = false
is_sc_ok (Store address before after) = false
is_sc_ok (Lr address word) = false
is_sc_ok (ScOk address before after) = true
is_sc_ok (ScFail address) = false
is_sc_ok (Amo address before after) = false

-- the machine after a step, if the step has this effect
abbrev pub if_effect : Effect → FlatStepped → Option FlatMachine
if_effect effect (Ok x) = if same_effect x.0 effect then Some x.1 else None
if_effect effect (Err cause) = None

-- the machine after a record, if the record is the step of its hart: from its pc, with its effect, an SC storing exactly where it says so
unfoldable pub legal_step : List CodeWord → ItemTable → FlatMachine → Op → Option FlatMachine
legal_step code items m op =
    if nat_eq (flat_hart m op.hart).hart.pc op.pc then if_effect op.effect (flat_step code items m op.hart (is_sc_ok op.effect)) else None

-- the machine after a list of records, if each in turn is the step of its hart
unfoldable pub legal_run : List CodeWord → ItemTable → FlatMachine → List Op → Option FlatMachine
legal_run code items m [] = Some m
legal_run code items m (op ∷ ops) = option_and_then (λ next. legal_run code items next ops) (legal_step code items m op)

abbrev pub Legal : List CodeWord → ItemTable → FlatMachine → List Op → Type 0
Legal code items m ops = IsSome (legal_run code items m ops)

-- the machine after a legal list
abbrev pub flat_after : List CodeWord → ItemTable → FlatMachine → List Op → FlatMachine
flat_after code items m ops = unwrap_or (legal_run code items m ops) m
