-- A line is that of an operation exactly where a report of some depth has it.
use Rattle.std.proofs.Common.{◌≡◌, ℕ, zero, suc, ◌+◌, ◌*◌, ◌/◌, ◌%◌, ◌<◌, ◌≤◌, Bool, true, false, not, cond, ◌&&◌, nat_eq, List, [], ◌∷◌, ◌++◌, length, take, Option, Some, None, decimal, refl, sym, ap, ◌∙◌, subst, arith, append_assoc, length-append}
use Rattle.std.specs.Prelude.{codes, bytes_eq, nat_le, nat_lt}
use Rattle.std.specs.List.{join_with_byte, list_all}
use Rattle.std.specs.Fmt.{digit_glyph}
use Rattle.std.proofs.lemmas.Bool.{eqb-true, le-leb, leb-true}
use Rattle.std.proofs.lemmas.List.{append_cancel_right, length-take}
use Rattle.std.proofs.lemmas.List.Folds.{list_all-append}
use Rattle.std.proofs.lemmas.Fmt.{length-decimal-le}
use Rattle.witness_check.specs.DdmTypes.declared.operations.Effect.{Effect}
use Rattle.witness_check.specs.DdmTypes.declared.operations.Effect.TheVariants.{Plain, Put, Load, Store, Lr, ScOk, ScFail, Amo}
use Rattle.witness_check.specs.DdmTypes.declared.operations.Op.{Op}
use Rattle.witness_check.specs.DdmTypes.declared.keys.Key.{Key}
use Rattle.witness_check.specs.DdmText.Hex.{hex2, hex8}
use Rattle.witness_check.specs.DdmText.Numbers.{is_digit}
use Rattle.witness_check.proofs.DdmText.Spellings.{AreDigits, AreDigits-decimal}
use Rattle.text_model.specs.Schedule.{pieces_at, place_in}
use Rattle.text_model.specs.Lines.{Lacks}
use Rattle.text_model.specs.Words.{effect_text}
use Rattle.text_model.specs.Report.{key_text, level_numbers, number_stops, op_line}
use Rattle.text_model.proofs.Pieces.{Lacks-append, both}
use Rattle.witness_check.specs.Lines.{key_in, hex8_in, effect_of_words, op_of_parts, op_of_words, op_in, without_key}
use Rattle.witness_check.specs.Witness.{HasWords, IsOp, IsLineOf}
use Rattle.witness_check.proofs.HexTexts.{hex8_of, hex8_in-hex8}
use Rattle.witness_check.proofs.KeyTexts.{AllLack, AreSmall, decimal_of, place_in-decimal, key_is, key_read, join-pieces_at, pieces_at-join}
use Rattle.witness_check.proofs.EffectTexts.{words_of_effect, same_bytes, effect_is, effect_read, join-effect}

-- the words of an operation's line
abbrev pub line_words : ℕ → Op → List (List ℕ)
line_words depth op = codes "op" ∷ decimal op.hart ∷ key_text depth op.key ∷ hex8 op.pc ∷ words_of_effect op.effect

-- ---- what words say

pub record AreLineOf (words : List (List ℕ)) (op : Op) : Type 0 where
  pub depth : ℕ
  pub least : 1 ≤ depth
  pub most : depth ≤ 4
  pub fits : IsOp op
  pub are : words ≡ line_words depth op

parts_are : (o : Option ℕ) (k : Option Key) (o' : Option ℕ) (x : Option Effect) (hart key pc : List ℕ) (effect : List (List ℕ)) (op : Op)
    → place_in hart ≡ o → key_in key ≡ k → hex8_in pc ≡ o' → effect_of_words effect ≡ x → op_of_parts o k o' x ≡ Some op
    → AreLineOf (codes "op" ∷ hart ∷ key ∷ pc ∷ effect) op
parts_are (Some h) (Some k) (Some p) (Some f) hart key pc effect op first second third fourth e =
    let P : Op → Type 0 = λ o. AreLineOf (codes "op" ∷ hart ∷ key ∷ pc ∷ effect) o in
    let made : Op = record { key = k; hart = h; pc = p; effect = f } in
    let same : made ≡ op = cc e in
    let one = decimal_of hart h first in
    let two = key_is key k second in
    let three = hex8_of pc p third in
    let four = effect_is effect f fourth in
    subst P same (record {
      depth = two.depth;
      least = two.least;
      most = two.most;
      fits = record { key = two.fits; hart = one.small; pc = three.small; effect = four.fits };
      are =
          ap (λ (w : List ℕ). codes "op" ∷ w ∷ key ∷ pc ∷ effect) one.is
          ∙ ap (λ (w : List ℕ). codes "op" ∷ decimal h ∷ w ∷ pc ∷ effect) two.is
          ∙ ap (λ (w : List ℕ). codes "op" ∷ decimal h ∷ key_text two.depth k ∷ w ∷ effect) three.is
          ∙ ap (λ (ws : List (List ℕ)). codes "op" ∷ decimal h ∷ key_text two.depth k ∷ hex8 p ∷ ws) four.are;
    })
parts_are (Some h) (Some k) (Some p) None hart key pc effect op first second third fourth e = absurd (cc e)
parts_are (Some h) (Some k) None x hart key pc effect op first second third fourth e = absurd (cc e)
parts_are (Some h) None o' x hart key pc effect op first second third fourth e = absurd (cc e)
parts_are None k o' x hart key pc effect op first second third fourth e = absurd (cc e)

line_is : (words : List (List ℕ)) (op : Op) → op_of_words words ≡ Some op → AreLineOf words op
unfolding op_of_words
line_is [] op e = absurd (cc e)
line_is (mark ∷ []) op e = absurd (cc e)
line_is (mark ∷ hart ∷ []) op e = absurd (cc e)
line_is (mark ∷ hart ∷ key ∷ []) op e = absurd (cc e)
line_is (mark ∷ hart ∷ key ∷ pc ∷ effect) op e = by (bytes_eq mark (codes "op")) refl e where
  by : (d : Bool) → bytes_eq mark (codes "op") ≡ d → cond d (op_of_parts (place_in hart) (key_in key) (hex8_in pc) (effect_of_words effect)) None ≡ Some op → AreLineOf (mark ∷ hart ∷ key ∷ pc ∷ effect) op
  by true marked e =
      let P : List ℕ → Type 0 = λ m. AreLineOf (m ∷ hart ∷ key ∷ pc ∷ effect) op in
      subst P (sym (same_bytes mark (codes "op") marked)) (parts_are (place_in hart) (key_in key) (hex8_in pc) (effect_of_words effect) hart key pc effect op refl refl refl refl e)
  by false other e = absurd (cc e)

-- ---- a line of words

regroup : (h k p e : List ℕ) → (codes "op" ++ 32 ∷ (h ++ 32 ∷ (k ++ 32 ∷ (p ++ 32 ∷ e)))) ++ 10 ∷ [] ≡ (((((((codes "op " ++ h) ++ 32 ∷ []) ++ k) ++ 32 ∷ []) ++ p) ++ 32 ∷ []) ++ e) ++ 10 ∷ []
regroup h k p e = simp append_assoc

some_words : (effect : Effect) → (w : List ℕ) × (ws : List (List ℕ)) × (words_of_effect effect ≡ w ∷ ws)
some_words Plain = (_, _, refl)
some_words (Put byte) = (_, _, refl)
some_words (Load address word) = (_, _, refl)
some_words (Store address before after) = (_, _, refl)
some_words (Lr address word) = (_, _, refl)
some_words (ScOk address before after) = (_, _, refl)
some_words (ScFail address) = (_, _, refl)
some_words (Amo address before after) = (_, _, refl)

join_behind : (p : List ℕ) (effect : Effect) → join_with_byte 32 (p ∷ words_of_effect effect) ≡ p ++ 32 ∷ effect_text effect
join_behind p effect =
    let some = some_words effect in
    ap (λ (ws : List (List ℕ)). join_with_byte 32 (p ∷ ws)) some.2 ∙ ap (λ (ws : List (List ℕ)). p ++ 32 ∷ join_with_byte 32 ws) (sym some.2) ∙ ap (λ t. p ++ 32 ∷ t) (join-effect effect)

join-line_words : (depth : ℕ) (op : Op) → join_with_byte 32 (line_words depth op) ++ 10 ∷ [] ≡ op_line depth op
unfolding op_line
join-line_words depth op =
    ap (λ (t : List ℕ). (codes "op" ++ 32 ∷ (decimal op.hart ++ 32 ∷ (key_text depth op.key ++ 32 ∷ t))) ++ 10 ∷ []) (join_behind (hex8 op.pc) op.effect)
    ∙ regroup (decimal op.hart) (key_text depth op.key) (hex8 op.pc) (effect_text op.effect)

-- a line that is read as an operation is that operation's
pub line_of : (line : List ℕ) (op : Op) → op_in line ≡ Some op → IsLineOf line op
unfolding op_in
line_of line op e =
    let are = line_is (pieces_at 32 line) op e in
    record {
      depth = are.depth;
      least = are.least;
      most = are.most;
      fits = are.fits;
      is = ap (λ (t : List ℕ). t ++ 10 ∷ []) (sym (join-pieces_at 32 line) ∙ ap (λ (ws : List (List ℕ)). join_with_byte 32 ws) are.are) ∙ join-line_words are.depth op;
    }

-- ---- bytes that separate nothing

-- all bytes are full stops or greater
abbrev High : List ℕ → Type 0
High text = list_all (λ byte. nat_le 46 byte) text ≡ true

High-append : (xs ys : List ℕ) → High xs → High ys → High (xs ++ ys)
High-append xs ys one two = list_all-append (λ byte. nat_le 46 byte) xs ys ∙ ap (λ b. b && list_all (λ byte. nat_le 46 byte) ys) one ∙ two

other_byte : (d : Bool) (separator byte : ℕ) → nat_eq byte separator ≡ d → separator < 46 → 46 ≤ byte → not d ≡ true
other_byte true separator byte same low high = let e : byte ≡ separator = eqb-true byte separator same in absurd (omega arith)
other_byte false separator byte other low high = refl

Lacks-High : (separator : ℕ) (text : List ℕ) → separator < 46 → High text → Lacks separator text
Lacks-High separator [] low high = refl
Lacks-High separator (byte ∷ text) low high =
    let parts = both (nat_le 46 byte) (list_all (λ b. nat_le 46 b) text) high in
    ap (λ b. b && list_all (λ b. not (nat_eq b separator)) text) (other_byte (nat_eq byte separator) separator byte refl low (leb-true 46 byte parts.0))
    ∙ Lacks-High separator text low parts.1

High-digits : (text : List ℕ) → AreDigits text → High text
High-digits [] digits = refl
High-digits (byte ∷ text) digits =
    let parts = both (is_digit byte) (list_all is_digit text) digits in
    let low = both (nat_le 48 byte) (nat_le byte 57) parts.0 in
    let least : 48 ≤ byte = leb-true 48 byte low.0 in
    ap (λ b. b && list_all (λ b. nat_le 46 b) text) (le-leb 46 byte (omega arith)) ∙ High-digits text parts.1

High-decimal : (n : ℕ) → n < 4294967296 → High (decimal n)
High-decimal n small = High-digits (decimal n) (AreDigits-decimal n (omega arith))

high_glyph : (d : ℕ) → nat_le 46 (digit_glyph false d) ≡ true
high_glyph d = by (nat_lt d 10) where
  by : (t : Bool) → nat_le 46 (cond t (48 + d) (87 + d)) ≡ true
  by true = le-leb 46 (48 + d) (omega arith)
  by false = le-leb 46 (87 + d) (omega arith)

High-hex2 : (n : ℕ) → High (hex2 n)
unfolding hex2
High-hex2 n = ap (λ b. b && (nat_le 46 (digit_glyph false (n % 16)) && true)) (high_glyph (n / 16)) ∙ ap (λ b. b && true) (high_glyph (n % 16))

High-hex8 : (n : ℕ) → High (hex8 n)
unfolding hex8
High-hex8 n =
    High-append ((hex2 (n / 16777216) ++ hex2 (n / 65536 % 256)) ++ hex2 (n / 256 % 256)) (hex2 (n % 256))
    (High-append (hex2 (n / 16777216) ++ hex2 (n / 65536 % 256)) (hex2 (n / 256 % 256)) (High-append (hex2 (n / 16777216)) (hex2 (n / 65536 % 256)) (High-hex2 (n / 16777216)) (High-hex2 (n / 65536 % 256))) (High-hex2 (n / 256 % 256)))
    (High-hex2 (n % 256))

High-stops : (ns : List ℕ) → AreSmall ns → High (number_stops ns)
unfolding number_stops
High-stops [] small = refl
High-stops (n ∷ ns) small = High-append (decimal n ++ 46 ∷ []) (number_stops ns) (High-append (decimal n) (46 ∷ []) (High-decimal n small.0) refl) (High-stops ns small.1)

small_take : (k : ℕ) (ns : List ℕ) → AreSmall ns → AreSmall (take k ns)
small_take zero ns small = tt
small_take (suc k) [] small = tt
small_take (suc k) (n ∷ ns) small = (small.0, small_take k ns small.1)

small_levels : (key : Key) → HasWords key → AreSmall (level_numbers key)
small_levels key fits = (fits.level0.0, (fits.level0.1, (fits.level1.0, (fits.level1.1, (fits.level2.0, (fits.level2.1, (fits.level3.0, (fits.level3.1, tt))))))))

High-key_text : (depth : ℕ) (key : Key) → HasWords key → High (key_text depth key)
unfolding key_text
High-key_text depth key fits = High-append (number_stops (take (2 * depth) (level_numbers key))) (decimal key.i) (High-stops (take (2 * depth) (level_numbers key)) (small_take (2 * depth) (level_numbers key) (small_levels key fits))) (High-decimal key.i fits.last)

abbrev AllHigh : List (List ℕ) → Type 0
AllHigh [] = Unit {0}
AllHigh (w ∷ ws) = High w × AllHigh ws

High-effect : (effect : Effect) → AllHigh (words_of_effect effect)
High-effect Plain = (refl, tt)
High-effect (Put byte) = (refl, (High-hex2 byte, tt))
High-effect (Load address word) = (refl, (High-hex8 address, (High-hex8 word, tt)))
High-effect (Store address before after) = (refl, (High-hex8 address, (High-hex8 before, (High-hex8 after, tt))))
High-effect (Lr address word) = (refl, (High-hex8 address, (High-hex8 word, tt)))
High-effect (ScOk address before after) = (refl, (High-hex8 address, (High-hex8 before, (High-hex8 after, tt))))
High-effect (ScFail address) = (refl, (High-hex8 address, tt))
High-effect (Amo address before after) = (refl, (High-hex8 address, (High-hex8 before, (High-hex8 after, tt))))

High-line : (depth : ℕ) (op : Op) → IsOp op → AllHigh (line_words depth op)
High-line depth op fits = (refl, (High-decimal op.hart fits.hart, (High-key_text depth op.key fits.key, (High-hex8 op.pc, High-effect op.effect))))

lack_high : (separator : ℕ) (ws : List (List ℕ)) → separator < 46 → AllHigh ws → AllLack separator ws
lack_high separator [] low high = tt
lack_high separator (w ∷ ws) low high = (Lacks-High separator w low high.0, lack_high separator ws low high.1)

-- words joined by spaces lack a line feed
lack_joined : (ws : List (List ℕ)) → AllLack 10 ws → Lacks 10 (join_with_byte 32 ws)
lack_joined [] lacks = refl
lack_joined (w ∷ []) lacks = lacks.0
lack_joined (w ∷ v ∷ ws) lacks = Lacks-append 10 w (32 ∷ join_with_byte 32 (v ∷ ws)) lacks.0 (lack_joined (v ∷ ws) lacks.1)

-- ---- its length

ten_digits : (n : ℕ) → n < 4294967296 → length (decimal n) ≤ 10
ten_digits n small = length-decimal-le 10 n (omega arith) (omega arith) (omega arith)

length-stops : (ns : List ℕ) → AreSmall ns → length (number_stops ns) ≤ 11 * length ns
unfolding number_stops
length-stops [] small = omega arith
length-stops (n ∷ ns) small =
    omega (arith, length-append (decimal n ++ 46 ∷ []) (number_stops ns), length-append (decimal n) (46 ∷ []), ten_digits n small.0, length-stops ns small.1)

length-key_text : (depth : ℕ) (key : Key) → HasWords key → length (key_text depth key) ≤ 98
unfolding key_text
length-key_text depth key fits =
    let few : length (take (2 * depth) (level_numbers key)) ≤ 8 = omega (arith, length-take (2 * depth) (level_numbers key)) in
    omega (
      arith,
      length-append (number_stops (take (2 * depth) (level_numbers key))) (decimal key.i),
      length-stops (take (2 * depth) (level_numbers key)) (small_take (2 * depth) (level_numbers key) (small_levels key fits)),
      few,
      ten_digits key.i fits.last,
    )

length-hex8 : (n : ℕ) → length (hex8 n) ≡ 8
unfolding hex8 hex2
length-hex8 n = refl

length-effect_text : (effect : Effect) → length (effect_text effect) ≤ 32
unfolding effect_text hex8 hex2
length-effect_text Plain = omega arith
length-effect_text (Put byte) = omega arith
length-effect_text (Load address word) = omega arith
length-effect_text (Store address before after) = omega arith
length-effect_text (Lr address word) = omega arith
length-effect_text (ScOk address before after) = omega arith
length-effect_text (ScFail address) = omega arith
length-effect_text (Amo address before after) = omega arith

length-line : (depth : ℕ) (op : Op) → IsOp op → length (join_with_byte 32 (line_words depth op)) ≤ 160
length-line depth op fits =
    let h = decimal op.hart in
    let k = key_text depth op.key in
    let p = hex8 op.pc in
    let e = effect_text op.effect in
    let is : join_with_byte 32 (line_words depth op) ≡ codes "op" ++ 32 ∷ (h ++ 32 ∷ (k ++ 32 ∷ (p ++ 32 ∷ e))) = ap (λ (t : List ℕ). codes "op" ++ 32 ∷ (h ++ 32 ∷ (k ++ 32 ∷ t))) (join_behind p op.effect) in
    omega (arith, ap length is, length-append h (32 ∷ (k ++ 32 ∷ (p ++ 32 ∷ e))), length-append k (32 ∷ (p ++ 32 ∷ e)), length-append p (32 ∷ e), ten_digits op.hart fits.hart, length-key_text depth op.key fits.key, length-hex8 op.pc, length-effect_text op.effect)

-- ---- an operation's line is read

pub record IsReadLine (line : List ℕ) (op : Op) : Type 0 where
  pub read : Op
  pub is : op_in line ≡ Some read
  pub same : without_key read ≡ without_key op
  pub lacks : Lacks 10 line
  pub short : length line ≤ 160

words_read : (depth : ℕ) (op : Op) → 1 ≤ depth → depth ≤ 4 → IsOp op → (key : Key) → key_in (key_text depth op.key) ≡ Some key
    → op_of_words (line_words depth op) ≡ Some (record { key = key; hart = op.hart; pc = op.pc; effect = op.effect })
unfolding op_of_words
words_read depth op least most fits key read =
    ap (λ o. op_of_parts o (key_in (key_text depth op.key)) (hex8_in (hex8 op.pc)) (effect_of_words (words_of_effect op.effect))) (place_in-decimal op.hart fits.hart)
    ∙ ap (λ o. op_of_parts (Some op.hart) o (hex8_in (hex8 op.pc)) (effect_of_words (words_of_effect op.effect))) read
    ∙ ap (λ o. op_of_parts (Some op.hart) (Some key) o (effect_of_words (words_of_effect op.effect))) (hex8_in-hex8 op.pc fits.pc)
    ∙ ap (λ o. op_of_parts (Some op.hart) (Some key) (Some op.pc) o) (effect_read op.effect fits.effect)

pub read_line : (line : List ℕ) (op : Op) → IsLineOf line op → IsReadLine line op
unfolding op_in
read_line line op of =
    let words = line_words of.depth op in
    let is : line ≡ join_with_byte 32 words = append_cancel_right line (join_with_byte 32 words) (10 ∷ []) (of.is ∙ sym (join-line_words of.depth op)) in
    let key = key_read of.depth op.key of.least of.most of.fits.key in
    let high = High-line of.depth op of.fits in
    let P : List ℕ → Type 0 = λ t. IsReadLine t op in
    subst P (sym is) (record {
      read = record { key = key.read; hart = op.hart; pc = op.pc; effect = op.effect };
      is =
          ap op_of_words (pieces_at-join 32 (codes "op") (decimal op.hart ∷ key_text of.depth op.key ∷ hex8 op.pc ∷ words_of_effect op.effect) refl (lack_high 32 words (omega arith) high))
          ∙ words_read of.depth op of.least of.most of.fits key.read key.is;
      same = refl;
      lacks = lack_joined words (lack_high 10 words (omega arith) high);
      short = length-line of.depth op of.fits;
    })
