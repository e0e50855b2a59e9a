-- What a word is, where some of its fields are known: only rows that don't contradict them are left.
use Rattle.std.proofs.Common.{◌≡◌, ℕ, Bool, true, false, not, ◌&&◌, ◌||◌, nat_eq, List, [], ◌∷◌, Some, None, refl, ◌∙◌, arith}
use Rattle.std.specs.Prelude.{filter, if◌then◌else◌}
use Rattle.std.specs.List.{list_all, list_any}
use Rattle.rv_decode.specs.Table.{Fixed, Row, table, has_field, fits, decode_by, decode_of}
use Rattle.rv_decode.proofs.OneRow.{apart, apart_no}

-- the word has these fields
abbrev pub has_all : ℕ → List Fixed → Bool
has_all w known = list_all (has_field w) known

-- rows that a word with these fields may fit
abbrev pub left : List Fixed → List Row → List Row
left known rows = filter (λ (row : Row). not (apart known row.fixed)) rows

pub narrows : (w : ℕ) (known : List Fixed) (rows : List Row) → has_all w known ≡ true → decode_by rows w ≡ decode_by (left known rows) w
unfolding decode_by
narrows w known [] h = refl
narrows w known (row ∷ rows) h = go (apart known row.fixed) (fits w row) refl refl (narrows w known rows h) where
  go : (a f : Bool) → apart known row.fixed ≡ a → fits w row ≡ f → decode_by rows w ≡ decode_by (left known rows) w → (let rest = decode_by rows w in (if f then Some (row.makes w) else rest)) ≡ decode_by (if not a then row ∷ left known rows else left known rows) w
  go true true ea ef ih = absurd (apart_no w known row.fixed ea h ef)
  go false true ea ef ih = rw ef refl
  go true false ea ef ih = ih
  go false false ea ef ih = rw ef ih

-- the field is one of those that are known
abbrev pub is_known : List Fixed → Fixed → Bool
is_known known f = list_any (λ (k : Fixed). nat_eq k.low f.low && nat_eq k.bits f.bits && nat_eq k.value f.value) known

has_known : (w : ℕ) (known : List Fixed) (f : Fixed) → has_all w known ≡ true → is_known known f ≡ true → has_field w f ≡ true
has_known w [] f h k = grind arith
has_known w (g ∷ known) f h k = go (nat_eq g.low f.low && nat_eq g.bits f.bits && nat_eq g.value f.value) (has_field w g) refl refl h k (λ h k. has_known w known f h k) where
  go : (same has : Bool) → (nat_eq g.low f.low && nat_eq g.bits f.bits && nat_eq g.value f.value) ≡ same → has_field w g ≡ has → (has && has_all w known) ≡ true → (same || is_known known f) ≡ true → (has_all w known ≡ true → is_known known f ≡ true → has_field w f ≡ true) → has_field w f ≡ true
  go same false es eh h k rest = grind arith
  go false true es eh h k rest = rest h k
  go true true es eh h k rest = grind arith

has_known_all : (w : ℕ) (known fs : List Fixed) → has_all w known ≡ true → list_all (is_known known) fs ≡ true → list_all (has_field w) fs ≡ true
has_known_all w known [] h k = refl
has_known_all w known (f ∷ fs) h k = go (is_known known f) (has_field w f) refl (λ e. has_known w known f h e) k (λ k. has_known_all w known fs h k) where
  go : (known_f has : Bool) → is_known known f ≡ known_f → (is_known known f ≡ true → has_field w f ≡ true) → (known_f && list_all (is_known known) fs) ≡ true → (list_all (is_known known) fs ≡ true → list_all (has_field w) fs ≡ true) → list_all (has_field w) (f ∷ fs) ≡ true
  go false has e one k rest = grind arith
  go true has e one k rest = rw (one e) (rest k)

-- a word whose fields leave one row, all of whose fixed fields are known: for known numbers the last two premises are `refl` under `unfolding table`
pub decode_known : (w : ℕ) (known : List Fixed) (row : Row) → has_all w known ≡ true → left known table ≡ row ∷ [] → list_all (is_known known) row.fixed ≡ true → decode_of w ≡ Some (row.makes w)
unfolding decode_of decode_by
decode_known w known row h one all = narrows w known table h ∙ rw one (rw (has_known_all w known row.fixed h all) refl)

-- a word whose fields leave no row
pub decode_none : (w : ℕ) (known : List Fixed) → has_all w known ≡ true → left known table ≡ [] → decode_of w ≡ None
unfolding decode_of decode_by
decode_none w known h none = narrows w known table h ∙ rw none refl
