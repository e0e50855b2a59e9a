-- The rows that a word can fit whose opcode is known.
use Rattle.std.proofs.Common.{◌≡◌, ℕ, ◌%◌, ◌^◌, nat_eq, Bool, true, false, List, [], ◌∷◌, Option, Some, None, subst, refl, sym, ◌∙◌, ap, arith, if◌then◌else◌}
use Rattle.std.specs.List.{list_all, list_any}
use Rattle.std.proofs.lemmas.Bool.{and_parts, true≢false, ne_eqb, eqb-false, false_from_ne_true}
use Rattle.rv_decode.specs.Table.{field, Fixed, Row, has_field, fits, decode_by}

-- the opcode that a fixed field demands, as a field of its own or in a whole word
abbrev pub field_opcode : Fixed → Option ℕ
field_opcode f =
    if nat_eq f.low 0 then (
    if nat_eq f.bits 7 then Some f.value else (
    if nat_eq f.bits 32 then Some (f.value % 128) else None)) else None

abbrev pub first : Option ℕ → Option ℕ → Option ℕ
first None rest = rest
first (Some v) rest = Some v

-- the opcode that fixed fields demand
abbrev pub demanded : List Fixed → Option ℕ
demanded [] = None
demanded (f ∷ fs) = first (field_opcode f) (demanded fs)

pub low_bits_of_low : (w v : ℕ) → w % 2 ^ 32 ≡ v → w % 128 ≡ v % 128
low_bits_of_low w v e = omega (arith, e)

pub field_demands : (w : ℕ) (f : Fixed) (v : ℕ) → field_opcode f ≡ Some v → has_field w f ≡ true → field 0 7 w ≡ v
field_demands w f v demands has = grind (arith, low_bits_of_low)

-- one field and the fields after it
pub step_demands : (here : Option ℕ) (rest : Option ℕ) (op v : ℕ) → ((u : ℕ) → here ≡ Some u → op ≡ u) → (rest ≡ Some v → op ≡ v) → first here rest ≡ Some v → op ≡ v
step_demands None rest op v h r e = r e
step_demands (Some u) rest op v h r e = h v e

pub fields_demand : (w : ℕ) (fs : List Fixed) (v : ℕ) → demanded fs ≡ Some v → list_all (has_field w) fs ≡ true → field 0 7 w ≡ v
fields_demand w [] v demands has = grind arith
fields_demand w (f ∷ fs) v demands has =
    let parts : (has_field w f ≡ true) × (list_all (has_field w) fs ≡ true) = and_parts (has_field w f) (list_all (has_field w) fs) has in
    step_demands (field_opcode f) (demanded fs) (field 0 7 w) v (λ u e. field_demands w f u e parts.0) (λ e. fields_demand w fs v e parts.1) demands

-- whether the opcode is the one that is demanded, where one is
abbrev pub is_demanded : ℕ → Option ℕ → Bool
is_demanded op None = true
is_demanded op (Some v) = nat_eq op v

pub other_opcode : (o : Option ℕ) (op : ℕ) (b : Bool) → is_demanded op o ≡ false → ((v : ℕ) → o ≡ Some v → b ≡ true → op ≡ v) → b ≡ false
other_opcode None op b refused demands = grind arith
other_opcode (Some v) op b refused demands =
    false_from_ne_true b (λ e. eqb-false op v refused (demands v refl e))

-- the rows that demand this opcode, or none
abbrev pub rows_of : ℕ → List Row → List Row
rows_of op [] = []
rows_of op (row ∷ rows) = let rest = rows_of op rows in (if is_demanded op (demanded row.fixed) then row ∷ rest else rest)

pub row_of : (w op : ℕ) (row : Row) (rows rest : List Row) (b : Bool) → b ≡ is_demanded op (demanded row.fixed) → field 0 7 w ≡ op → decode_by rows w ≡ decode_by rest w → decode_by (row ∷ rows) w ≡ decode_by (if b then row ∷ rest else rest) w
unfolding decode_by
row_of w op row rows rest true e opcode same = ap (λ o. if fits w row then Some (row.makes w) else o) same
row_of w op row rows rest false e opcode same =
    let refused : fits w row ≡ false = other_opcode (demanded row.fixed) op (fits w row) (sym e) (λ v demands has. sym opcode ∙ fields_demand w row.fixed v demands has) in
    rw refused same

pub decode_by-rows_of : (w op : ℕ) → field 0 7 w ≡ op → (rows : List Row) → decode_by rows w ≡ decode_by (rows_of op rows) w
decode_by-rows_of w op opcode [] = refl
decode_by-rows_of w op opcode (row ∷ rows) =
    row_of w op row rows (rows_of op rows) (is_demanded op (demanded row.fixed)) refl opcode (decode_by-rows_of w op opcode rows)

-- whether an opcode is demanded, and it is one of these
abbrev pub is_among : List ℕ → Option ℕ → Bool
is_among ops None = false
is_among ops (Some v) = list_any (nat_eq v) ops

pub none_among : (ops : List ℕ) (op v : ℕ) → list_any (nat_eq op) ops ≡ false → list_any (nat_eq v) ops ≡ true → op ≡ v → ⊥
none_among ops op v none some e = let at_v : list_any (nat_eq v) ops ≡ false = subst (λ n. list_any (nat_eq n) ops ≡ false) e none in true≢false (sym some ∙ at_v)

pub refused_by : (ops : List ℕ) (op : ℕ) (o : Option ℕ) → list_any (nat_eq op) ops ≡ false → is_among ops o ≡ true → is_demanded op o ≡ false
refused_by ops op None none among = absurd (true≢false (sym among))
refused_by ops op (Some v) none among = ne_eqb op v (none_among ops op v none among)

-- where each row demands one of these opcodes, and the word has another
pub decode_by_none : (w : ℕ) (ops : List ℕ) → list_any (nat_eq (field 0 7 w)) ops ≡ false → (rows : List Row) → list_all (λ row. is_among ops (demanded row.fixed)) rows ≡ true → decode_by rows w ≡ None
unfolding decode_by
decode_by_none w ops none [] among = refl
decode_by_none w ops none (row ∷ rows) among =
    let parts : (is_among ops (demanded row.fixed) ≡ true) × (list_all (λ row. is_among ops (demanded row.fixed)) rows ≡ true) = and_parts _ _ among in
    let refused : fits w row ≡ false = other_opcode (demanded row.fixed) (field 0 7 w) (fits w row) (refused_by ops (field 0 7 w) (demanded row.fixed) none parts.0) (λ v demands has. fields_demand w row.fixed v demands has) in
    rw refused (decode_by_none w ops none rows parts.1)
