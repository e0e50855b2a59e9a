-- One of several, spelled by its number and read again.
use Rattle.std.specs.Prelude.{◌≡◌, ℕ, ◌+◌, ◌-◌, Bool, true, false, nat_eq, nat_lt, nat_le, ◌||◌, [], ◌∷◌, Option, Some, None, refl, if◌then◌else◌}
use Rattle.std.proofs.Common.{ap, ◌∙◌, arith}
use Rattle.std.proofs.lemmas.Bool.{ne_eqb, le-leb}
use Rattle.spelling_laws.specs.DdmTypes.declared.answers.TxKind.{TxKind}
use Rattle.spelling_laws.specs.DdmTypes.declared.sizes.Hold.{Hold}
use Rattle.spelling_laws.specs.DdmTypes.declared.sizes.LeafState.{LeafState}
use Rattle.spelling_laws.specs.DdmTypes.declared.operations.HaltCause.{HaltCause}
use Rattle.spelling_laws.specs.DdmTypes.declared.operations.Effect.{Effect}
use Rattle.spelling_laws.specs.TreeModel.State.Kinds.{kind_number, goes_up}
use Rattle.spelling_laws.specs.TreeModel.State.Values.{RequestValue, Note}
use Rattle.spelling_laws.specs.StateReading.Parts.{halt_of, halt_has_number, state_of, slot_of, reserved_of, hold_of, note_of_words, joins_fit, kind_of, effect_size, effect_of}
use Rattle.spelling_laws.specs.StateWords.Numbers.{halt_words, state_number, slot_words, reserved_word, hold_number, note_words, flag_number, effect_words}
use Rattle.value_laws.specs.Values.{comes_down, EffectHasForm}
use Rattle.spelling_laws.proofs.Numbers.{is_first_of}
use Rattle.spelling_laws.proofs.Steps.{is_to, is_from_1, is_if}

pub record HaltCoded (h : Option HaltCause) : Type 0 where
  pub code : ℕ
  pub number : ℕ
  pub words : halt_words h ≡ code ∷ number ∷ []
  pub most : is_to 9 code ≡ true
  pub fits : is_if (halt_has_number code) number ≡ true
  pub back : halt_of code number ≡ h

pub halt-coded : (h : Option HaltCause) → HaltCoded h
halt-coded None = record { code = 0; number = 0; words = refl; most = refl; fits = refl; back = refl }
halt-coded (Some (HaltCause.Exit value)) = record { code = 1; number = value; words = refl; most = refl; fits = refl; back = refl }
halt-coded (Some (HaltCause.Illegal word)) = record { code = 2; number = word; words = refl; most = refl; fits = refl; back = refl }
halt-coded (Some HaltCause.Breakpoint) = record { code = 3; number = 0; words = refl; most = refl; fits = refl; back = refl }
halt-coded (Some (HaltCause.UnknownCall number)) = record { code = 4; number = number; words = refl; most = refl; fits = refl; back = refl }
halt-coded (Some (HaltCause.MisalignedTarget address)) = record { code = 5; number = address; words = refl; most = refl; fits = refl; back = refl }
halt-coded (Some (HaltCause.FetchOutside address)) = record { code = 6; number = address; words = refl; most = refl; fits = refl; back = refl }
halt-coded (Some (HaltCause.MisalignedAccess address)) = record { code = 7; number = address; words = refl; most = refl; fits = refl; back = refl }
halt-coded (Some (HaltCause.LoadOutside address)) = record { code = 8; number = address; words = refl; most = refl; fits = refl; back = refl }
halt-coded (Some (HaltCause.StoreOutside address)) = record { code = 9; number = address; words = refl; most = refl; fits = refl; back = refl }

pub state-fits : (s : LeafState) → is_from_1 5 (state_number s) ≡ true
state-fits LeafState.Shared = refl
state-fits LeafState.Exclusive = refl
state-fits LeafState.Waiting = refl
state-fits LeafState.Reading = refl
state-fits LeafState.ReadingWaiting = refl

pub state-back : (s : LeafState) → state_of (state_number s) ≡ s
state-back LeafState.Shared = refl
state-back LeafState.Exclusive = refl
state-back LeafState.Waiting = refl
state-back LeafState.Reading = refl
state-back LeafState.ReadingWaiting = refl

-- a request for an item below n
pub record SlotCoded (n : ℕ) (slot : Option RequestValue) : Type 0 where
  pub code : ℕ
  pub asked : ℕ
  pub words : slot_words slot ≡ code ∷ asked ∷ []
  pub most : is_to 2 code ≡ true
  pub fits : (if nat_eq code 0 then nat_eq asked 0 else nat_lt asked n) ≡ true
  pub back : slot_of code asked ≡ slot

pub none-coded : (n : ℕ) → SlotCoded n None
none-coded n = record { code = 0; asked = 0; words = refl; most = refl; fits = refl; back = refl }

pub some-coded : (n : ℕ) (kind : TxKind) (x : ℕ) → goes_up kind ≡ true → nat_lt x n ≡ true → SlotCoded n (Some (record { kind = kind; item = x }))
some-coded n TxKind.ReadTx x up below = record { code = 1; asked = x; words = refl; most = refl; fits = below; back = refl }
some-coded n TxKind.DataTx x up below = cc
some-coded n TxKind.EraseTx x up below = record { code = 2; asked = x; words = refl; most = refl; fits = below; back = refl }
some-coded n TxKind.ExclusiveTx x up below = cc
some-coded n TxKind.InjectTx x up below = cc
some-coded n TxKind.OutTx x up below = cc

pub reserved-back : (o : Option ℕ) → reserved_of (reserved_word o) ≡ o
reserved-back None = refl
reserved-back (Some x) =
    let some : nat_eq (x + 1) 0 ≡ false = ne_eqb (x + 1) 0 (λ e. omega (arith, e)) in
    let less : x + 1 - 1 ≡ x = omega arith in
    ap (λ b. if b then None else Some (x + 1 - 1)) some ∙ ap (λ y. Some y) less

pub hold-fits : (h : Hold) → nat_le (hold_number h) 2 ≡ true
hold-fits Hold.Invalid = refl
hold-fits Hold.Shared = refl
hold-fits Hold.Exclusive = refl

pub hold-back : (h : Hold) → hold_of (hold_number h) ≡ h
hold-back Hold.Invalid = refl
hold-back Hold.Shared = refl
hold-back Hold.Exclusive = refl

-- of a note whose children there are
pub record NoteCoded (kids : ℕ) (note : Note) : Type 0 where
  pub code : ℕ
  pub child : ℕ
  pub joined : ℕ
  pub words : note_words note ≡ code ∷ child ∷ joined ∷ []
  pub most : is_to 3 code ≡ true
  pub child_fits : (if nat_eq code 0 then nat_eq child 0 else nat_lt child kids) ≡ true
  pub joined_fits : (if nat_eq code 1 || nat_eq code 2 then joins_fit kids child joined else nat_eq joined 0) ≡ true
  pub back : note_of_words code child joined ≡ note

pub flag-fits : (b : Bool) → nat_le (flag_number b) 1 ≡ true
flag-fits true = refl
flag-fits false = refl

pub flag-back : (b : Bool) → nat_eq (flag_number b) 1 ≡ b
flag-back true = refl
flag-back false = refl

pub kind-fits : (kind : TxKind) → comes_down kind ≡ true → is_from_1 5 (kind_number kind) ≡ true
kind-fits TxKind.ReadTx down = refl
kind-fits TxKind.DataTx down = refl
kind-fits TxKind.EraseTx down = refl
kind-fits TxKind.ExclusiveTx down = refl
kind-fits TxKind.InjectTx down = refl
kind-fits TxKind.OutTx down = cc

pub kind-back : (kind : TxKind) → comes_down kind ≡ true → kind_of (kind_number kind) ≡ kind
kind-back TxKind.ReadTx down = refl
kind-back TxKind.DataTx down = refl
kind-back TxKind.EraseTx down = refl
kind-back TxKind.ExclusiveTx down = refl
kind-back TxKind.InjectTx down = refl
kind-back TxKind.OutTx down = cc

pub asked-fits : (kind : TxKind) → goes_up kind ≡ true → (nat_eq (kind_number kind) 1 || nat_eq (kind_number kind) 3) ≡ true
asked-fits TxKind.ReadTx up = refl
asked-fits TxKind.DataTx up = cc
asked-fits TxKind.EraseTx up = refl
asked-fits TxKind.ExclusiveTx up = cc
asked-fits TxKind.InjectTx up = cc
asked-fits TxKind.OutTx up = cc

pub asked-back : (kind : TxKind) → goes_up kind ≡ true → kind_of (kind_number kind) ≡ kind
asked-back TxKind.ReadTx up = refl
asked-back TxKind.DataTx up = cc
asked-back TxKind.EraseTx up = refl
asked-back TxKind.ExclusiveTx up = cc
asked-back TxKind.InjectTx up = cc
asked-back TxKind.OutTx up = cc

pub record EffectCoded (effect : Effect) : Type 0 where
  pub code : ℕ
  pub a : ℕ
  pub b : ℕ
  pub c : ℕ
  pub words : effect_words effect ≡ code ∷ a ∷ b ∷ c ∷ []
  pub most : is_to 7 code ≡ true
  pub first : is_first_of code a ≡ true
  pub second : is_if (nat_lt 1 (effect_size code)) b ≡ true
  pub third : is_if (nat_lt 2 (effect_size code)) c ≡ true
  pub back : effect_of code a b c ≡ effect

pub effect-coded : (effect : Effect) → EffectHasForm effect → EffectCoded effect
effect-coded Effect.Plain form = record { code = 0; a = 0; b = 0; c = 0; words = refl; most = refl; first = refl; second = refl; third = refl; back = refl }
effect-coded (Effect.Put byte) form = record { code = 1; a = byte; b = 0; c = 0; words = refl; most = refl; first = le-leb _ _ form; second = refl; third = refl; back = refl }
effect-coded (Effect.Load address word) form = record { code = 2; a = address; b = word; c = 0; words = refl; most = refl; first = refl; second = refl; third = refl; back = refl }
effect-coded (Effect.Store address before after) form = record { code = 3; a = address; b = before; c = after; words = refl; most = refl; first = refl; second = refl; third = refl; back = refl }
effect-coded (Effect.Lr address word) form = record { code = 4; a = address; b = word; c = 0; words = refl; most = refl; first = refl; second = refl; third = refl; back = refl }
effect-coded (Effect.ScOk address before after) form = record { code = 5; a = address; b = before; c = after; words = refl; most = refl; first = refl; second = refl; third = refl; back = refl }
effect-coded (Effect.ScFail address) form = record { code = 6; a = address; b = 0; c = 0; words = refl; most = refl; first = refl; second = refl; third = refl; back = refl }
effect-coded (Effect.Amo address before after) form = record { code = 7; a = address; b = before; c = after; words = refl; most = refl; first = refl; second = refl; third = refl; back = refl }
