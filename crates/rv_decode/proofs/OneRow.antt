-- A word fits at most one row of the table.
use Rattle.std.proofs.Common.{◌≡◌, ℕ, zero, suc, ◌%◌, ◌<◌, Bool, true, false, not, ◌&&◌, ◌||◌, nat_eq, List, [], ◌∷◌, length, slice_index_or, Some, refl, ap, subst, ◌∙◌, arith, ◌↔◌}
use Rattle.std.specs.Prelude.{Contains, IsTrue, if◌then◌else◌}
use Rattle.std.specs.List.{list_all, list_any}
use Rattle.rv_decode.specs.declared.instructions.Instr.{Instr}
use Rattle.rv_decode.specs.Table.{Fixed, Row, table, has_field, fits, decode_by, decode_of, Decodes}

-- two fixed fields that no word has both: other values of the same bits, or a whole word with another opcode
abbrev clash : Fixed → Fixed → Bool
clash f g = nat_eq f.low g.low && nat_eq f.bits g.bits && not (nat_eq f.value g.value)

abbrev clash_whole : Fixed → Fixed → Bool
clash_whole f g = nat_eq f.low 0 && nat_eq f.bits 32 && nat_eq g.low 0 && nat_eq g.bits 7 && not (nat_eq (f.value % 128) g.value)

clash_no : (w : ℕ) (f g : Fixed) → clash f g ≡ true → has_field w f ≡ true → has_field w g ≡ true → ⊥
clash_no w f g c hf hg = grind arith

clash_whole_no : (w : ℕ) (f g : Fixed) → clash_whole f g ≡ true → has_field w f ≡ true → has_field w g ≡ true → ⊥
clash_whole_no w f g c hf hg = grind arith

-- two fields of two rows
abbrev pub apart_fields : Fixed → Fixed → Bool
apart_fields f g = clash f g || (clash_whole f g || clash_whole g f)

apart_fields_no : (w : ℕ) (f g : Fixed) → apart_fields f g ≡ true → has_field w f ≡ true → has_field w g ≡ true → ⊥
apart_fields_no w f g c hf hg = go (clash f g) (clash_whole f g) (clash_whole g f) refl refl refl c where
  go : (a b d : Bool) → clash f g ≡ a → clash_whole f g ≡ b → clash_whole g f ≡ d → (a || (b || d)) ≡ true → ⊥
  go true b d ea eb ed c = clash_no w f g ea hf hg
  go false true d ea eb ed c = clash_whole_no w f g eb hf hg
  go false false true ea eb ed c = clash_whole_no w g f ed hg hf
  go false false false ea eb ed c = grind arith

-- a field that is apart from one of these
abbrev pub apart_from : Fixed → List Fixed → Bool
apart_from f gs = list_any (apart_fields f) gs

apart_from_no : (w : ℕ) (f : Fixed) (gs : List Fixed) → apart_from f gs ≡ true → has_field w f ≡ true → list_all (has_field w) gs ≡ true → ⊥
apart_from_no w f [] c hf hg = grind arith
apart_from_no w f (g ∷ gs) c hf hg = go (apart_fields f g) (has_field w g) refl refl c hg (λ c hg. apart_from_no w f gs c hf hg) where
  go : (a b : Bool) → apart_fields f g ≡ a → has_field w g ≡ b → (a || apart_from f gs) ≡ true → (b && list_all (has_field w) gs) ≡ true → (apart_from f gs ≡ true → list_all (has_field w) gs ≡ true → ⊥) → ⊥
  go a false ea eb c hg rest = grind arith
  go true true ea eb c hg rest = apart_fields_no w f g ea hf eb
  go false true ea eb c hg rest = rest c hg

abbrev pub apart : List Fixed → List Fixed → Bool
apart fs gs = list_any (λ f. apart_from f gs) fs

pub apart_no : (w : ℕ) (fs gs : List Fixed) → apart fs gs ≡ true → list_all (has_field w) fs ≡ true → list_all (has_field w) gs ≡ true → ⊥
apart_no w [] gs c hf hg = grind arith
apart_no w (f ∷ fs) gs c hf hg = go (apart_from f gs) (has_field w f) refl refl c hf (λ c hf. apart_no w fs gs c hf hg) where
  go : (a b : Bool) → apart_from f gs ≡ a → has_field w f ≡ b → (a || apart fs gs) ≡ true → (b && list_all (has_field w) fs) ≡ true → (apart fs gs ≡ true → list_all (has_field w) fs ≡ true → ⊥) → ⊥
  go a false ea eb c hf rest = grind arith
  go true true ea eb c hf rest = apart_from_no w f gs ea eb hg
  go false true ea eb c hf rest = rest c hf

-- no word fits two rows
unfoldable all_apart : List Row → Bool
all_apart [] = true
all_apart (row ∷ rows) = list_all (λ (other : Row). apart row.fixed other.fixed) rows && all_apart rows

table_apart : all_apart table ≡ true
unfolding all_apart table
table_apart = refl

all_at : {X : Type 0} (p : X → Bool) (xs : List X) (k : ℕ) (d : X) → list_all p xs ≡ true → k < length xs → p (slice_index_or xs k d) ≡ true
all_at p [] k d c below = absurd (omega arith)
all_at p (x ∷ xs) zero d c below = go (p x) c where
  go : (b : Bool) → (b && list_all p xs) ≡ true → b ≡ true
  go true c = refl
  go false c = c
all_at p (x ∷ xs) (suc k) d c below = all_at p xs k d (go (p x) c) (omega arith) where
  go : (b : Bool) → (b && list_all p xs) ≡ true → list_all p xs ≡ true
  go true c = c
  go false c = grind arith

-- the first row that fits is found where it stands
finds : (w : ℕ) (rows : List Row) (k : ℕ) (row : Row) → all_apart rows ≡ true → k < length rows → slice_index_or rows k row ≡ row → fits w row ≡ true → decode_by rows w ≡ Some (row.makes w)
unfolding decode_by all_apart
finds w [] k row c below at f = absurd (omega arith)
finds w (head ∷ rows) zero row c below at f = go (fits w head) refl where
  go : (b : Bool) → fits w head ≡ b → (let rest = decode_by rows w in (if b then Some (head.makes w) else rest)) ≡ Some (row.makes w)
  go true e = ap (λ (r : Row). Some (r.makes w)) at
  go false e = absurd (cc (ap (fits w) at))
finds w (head ∷ rows) (suc k) row c below at f = go (fits w head) (list_all (λ (other : Row). apart head.fixed other.fixed) rows) refl refl c (λ rest. finds w rows k row rest (omega arith) at f) where
  go : (b all : Bool) → fits w head ≡ b → list_all (λ (other : Row). apart head.fixed other.fixed) rows ≡ all → (all && all_apart rows) ≡ true → (all_apart rows ≡ true → decode_by rows w ≡ Some (row.makes w)) → (let rest = decode_by rows w in (if b then Some (head.makes w) else rest)) ≡ Some (row.makes w)
  go b false e a c rest = grind arith
  go false true e a c rest = rest c
  go true true e a c rest = absurd (apart_no w head.fixed row.fixed (subst (λ (r : Row). apart head.fixed r.fixed ≡ true) at (all_at (λ (other : Row). apart head.fixed other.fixed) rows k row a (omega arith))) e f)

-- where something is found, it is what some row makes
found : (w : ℕ) (rows : List Row) (i : Instr) → decode_by rows w ≡ Some i → (row : Row) × Contains rows row × IsTrue (fits w row) × (row.makes w ≡ i)
unfolding decode_by
found w [] i e = grind arith
found w (head ∷ rows) i e = go (fits w head) refl e (λ e. found w rows i e) where
  go : (b : Bool) → fits w head ≡ b → (let rest = decode_by rows w in (if b then Some (head.makes w) else rest)) ≡ Some i → (decode_by rows w ≡ Some i → (row : Row) × Contains rows row × IsTrue (fits w row) × (row.makes w ≡ i)) → (row : Row) × Contains (head ∷ rows) row × IsTrue (fits w row) × (row.makes w ≡ i)
  go true f e rest = (head, (0, omega arith, refl), f, grind arith)
  go false f e rest = let (row, at, fit, is) = rest e in (row, (suc at.0, omega arith, at.2), fit, is)

-- the decoder is the relation that the table describes
pub decodes : (w : ℕ) (i : Instr) → Decodes w i ↔ (decode_of w ≡ Some i)
unfolding decode_of
decodes w i = (λ d. finds w table d.1.0 d.0 table_apart d.1.1 d.1.2 d.2 ∙ ap Some d.3, λ e. found w table i e)
