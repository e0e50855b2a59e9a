-- The text of a turn is one line that says that turn.
use Rattle.std.proofs.Common.{◌≡◌, ℕ, ◌^◌, ◌<◌, ◌≤◌, Bool, true, false, cond, nat_lt, List, [], ◌∷◌, ◌++◌, length, Option, Some, None, decimal, refl, ap, ◌∙◌, subst, append_assoc, length-append, arith}
use Rattle.std.specs.Prelude.{codes, bytes_eq, flat_map, slice_get}
use Rattle.std.specs.Result.{result_ok}
use Rattle.std.proofs.lemmas.Fmt.{length-decimal-le}
use Rattle.std.proofs.lemmas.Bool.{ltb-true, le-ltb}
use Rattle.std.proofs.lemmas.Option.{slice_get_within, get_or_from_slice_get}
use Rattle.text_model.specs.declared.ScheduleRefusal.{ScheduleRefusal}
use Rattle.text_model.specs.declared.ScheduleRefusal.TheVariants.{NoSuchHart, NoSuchBus, NoSuchChild}
use Rattle.text_model.specs.ReadBack.{IsTurnOf, IsSmallShape}
use Rattle.text_model.specs.DdmTypes.declared.turns.Turn.{Turn}
use Rattle.text_model.specs.DdmTypes.declared.turns.Turn.TheVariants.{Hart, Down, Request, Reply, Leave}
use Rattle.ddm_text.proofs.Spellings.{number_of-decimal}
use Rattle.text_model.specs.Schedule.{ShapeView, turn_fault, child_fault, turn_text, turn_line, turn_lines, schedule_text, pieces_at, number_in, place_in, choice_in, turn_of_words, meaning_of, LineMeaning, turn_line_of, end_line, no_line, hart_turn_of, down_turn_of, request_turn_of, reply_turn_of, leave_turn_of, line_of_turn}
use Rattle.text_model.specs.Lines.{Lacks}
use Rattle.text_model.proofs.Pieces.{Lacks-append, Lacks-decimal, pieces_at-whole, pieces_at-append}

-- the numbers of a turn have at most three digits
abbrev pub IsShort : Turn → Type 0
IsShort (Hart hart victim) = (hart < 1000) × (victim < 256)
IsShort (Down bus) = bus < 1000
IsShort (Request bus child) = (bus < 1000) × (child < 1000)
IsShort (Reply bus child) = (bus < 1000) × (child < 1000)
IsShort (Leave bus child choice) = (bus < 1000) × (child < 1000) × (choice < 256)

-- ---- its words

number_in-decimal : (most n : ℕ) → n ≤ most → most < 2 ^ 64 → number_in most (decimal n) ≡ Some n
number_in-decimal most n within small = ap result_ok (number_of-decimal n most within small)

place_in-decimal : (n : ℕ) → n < 1000 → place_in (decimal n) ≡ Some n
place_in-decimal n small = number_in-decimal 4294967295 n (omega arith) (omega arith)

choice_in-decimal : (n : ℕ) → n < 256 → choice_in (decimal n) ≡ Some n
choice_in-decimal n small = number_in-decimal 255 n (omega arith) (omega arith)

lacks_space : (n : ℕ) → n < 1000 → Lacks 32 (decimal n)
lacks_space n small = Lacks-decimal 32 n refl (omega arith)

-- a word of one letter, and a space
letter_words : (letter : ℕ) (text : List ℕ) → Lacks 32 (letter ∷ []) → pieces_at 32 (letter ∷ 32 ∷ text) ≡ (letter ∷ []) ∷ pieces_at 32 text
letter_words letter text lacks = pieces_at-append 32 (letter ∷ []) text refl lacks

-- a number and a space
number_words : (n : ℕ) (text : List ℕ) → n < 1000 → pieces_at 32 (decimal n ++ 32 ∷ text) ≡ decimal n ∷ pieces_at 32 text
number_words n text small = pieces_at-append 32 (decimal n) text refl (lacks_space n small)

last_number : (n : ℕ) → n < 1000 → pieces_at 32 (decimal n) ≡ decimal n ∷ []
last_number n small = pieces_at-whole 32 (decimal n) (lacks_space n small)

-- two numbers with a space between them
two_numbers : (m n : ℕ) → m < 1000 → n < 1000 → pieces_at 32 (decimal m ++ 32 ∷ decimal n) ≡ decimal m ∷ decimal n ∷ []
two_numbers m n small small' = number_words m (decimal n) small ∙ ap (λ ps. decimal m ∷ ps) (last_number n small')

-- the words of a grant from a child, with a letter for its kind
child_words : (kind bus : ℕ) (text : List ℕ) → Lacks 32 (kind ∷ []) → bus < 1000 → pieces_at 32 (103 ∷ 32 ∷ (decimal bus ++ 32 ∷ kind ∷ 32 ∷ text)) ≡ (103 ∷ []) ∷ decimal bus ∷ (kind ∷ []) ∷ pieces_at 32 text
child_words kind bus text lacks small =
    letter_words 103 (decimal bus ++ 32 ∷ kind ∷ 32 ∷ text) refl
    ∙ ap (λ ps. (103 ∷ []) ∷ ps) (number_words bus (kind ∷ 32 ∷ text) small)
    ∙ ap (λ ps. (103 ∷ []) ∷ decimal bus ∷ ps) (letter_words kind text lacks)

-- the words of a turn
abbrev pub words_of_turn : Turn → List (List ℕ)
words_of_turn (Hart hart victim) = codes "h" ∷ decimal hart ∷ decimal victim ∷ []
words_of_turn (Down bus) = codes "g" ∷ decimal bus ∷ codes "d" ∷ []
words_of_turn (Request bus child) = codes "g" ∷ decimal bus ∷ codes "q" ∷ decimal child ∷ []
words_of_turn (Reply bus child) = codes "g" ∷ decimal bus ∷ codes "r" ∷ decimal child ∷ []
words_of_turn (Leave bus child choice) = codes "g" ∷ decimal bus ∷ codes "l" ∷ decimal child ∷ decimal choice ∷ []

pieces_at-turn_text : (turn : Turn) → IsShort turn → pieces_at 32 (turn_text turn) ≡ words_of_turn turn
unfolding turn_text
pieces_at-turn_text (Hart hart victim) short =
    ap (λ t. pieces_at 32 (104 ∷ 32 ∷ t)) (append_assoc (decimal hart) (32 ∷ []) (decimal victim))
    ∙ letter_words 104 (decimal hart ++ 32 ∷ decimal victim) refl
    ∙ ap (λ ps. (104 ∷ []) ∷ ps) (two_numbers hart victim short.0 (omega (arith, short.1)))
pieces_at-turn_text (Down bus) short =
    letter_words 103 (decimal bus ++ 32 ∷ 100 ∷ []) refl
    ∙ ap (λ ps. (103 ∷ []) ∷ ps) (number_words bus (100 ∷ []) short ∙ ap (λ ps. decimal bus ∷ ps) (pieces_at-whole 32 (100 ∷ []) refl))
pieces_at-turn_text (Request bus child) short =
    ap (λ t. pieces_at 32 (103 ∷ 32 ∷ t)) (append_assoc (decimal bus) (32 ∷ 113 ∷ 32 ∷ []) (decimal child))
    ∙ child_words 113 bus (decimal child) refl short.0
    ∙ ap (λ ps. (103 ∷ []) ∷ decimal bus ∷ (113 ∷ []) ∷ ps) (last_number child short.1)
pieces_at-turn_text (Reply bus child) short =
    ap (λ t. pieces_at 32 (103 ∷ 32 ∷ t)) (append_assoc (decimal bus) (32 ∷ 114 ∷ 32 ∷ []) (decimal child))
    ∙ child_words 114 bus (decimal child) refl short.0
    ∙ ap (λ ps. (103 ∷ []) ∷ decimal bus ∷ (114 ∷ []) ∷ ps) (last_number child short.1)
pieces_at-turn_text (Leave bus child choice) short =
    ap (λ t. pieces_at 32 (103 ∷ 32 ∷ t))
    (ap (λ u. (u ++ 32 ∷ []) ++ decimal choice) (append_assoc (decimal bus) (32 ∷ 108 ∷ 32 ∷ []) (decimal child))
    ∙ append_assoc (decimal bus ++ 32 ∷ 108 ∷ 32 ∷ decimal child) (32 ∷ []) (decimal choice)
    ∙ append_assoc (decimal bus) (32 ∷ 108 ∷ 32 ∷ decimal child) (32 ∷ decimal choice))
    ∙ child_words 108 bus (decimal child ++ 32 ∷ decimal choice) refl short.0
    ∙ ap (λ ps. (103 ∷ []) ∷ decimal bus ∷ (108 ∷ []) ∷ ps) (two_numbers child choice short.1 (omega (arith, short.2)))

turn_of_words-words_of_turn : (turn : Turn) → IsShort turn → turn_of_words (words_of_turn turn) ≡ Some turn
unfolding turn_of_words
turn_of_words-words_of_turn (Hart hart victim) short =
    ap (λ o. hart_turn_of o (choice_in (decimal victim))) (place_in-decimal hart short.0)
    ∙ ap (λ o. hart_turn_of (Some hart) o) (choice_in-decimal victim short.1)
turn_of_words-words_of_turn (Down bus) short = ap down_turn_of (place_in-decimal bus short)
turn_of_words-words_of_turn (Request bus child) short =
    ap (λ o. request_turn_of o (place_in (decimal child))) (place_in-decimal bus short.0)
    ∙ ap (λ o. request_turn_of (Some bus) o) (place_in-decimal child short.1)
turn_of_words-words_of_turn (Reply bus child) short =
    ap (λ o. reply_turn_of o (place_in (decimal child))) (place_in-decimal bus short.0)
    ∙ ap (λ o. reply_turn_of (Some bus) o) (place_in-decimal child short.1)
turn_of_words-words_of_turn (Leave bus child choice) short =
    ap (λ o. leave_turn_of o (place_in (decimal child)) (choice_in (decimal choice))) (place_in-decimal bus short.0)
    ∙ ap (λ o. leave_turn_of (Some bus) o (choice_in (decimal choice))) (place_in-decimal child short.1)
    ∙ ap (λ o. leave_turn_of (Some bus) (Some child) o) (choice_in-decimal choice short.2)

-- ---- its length

digits_of : (n : ℕ) → n < 1000 → length (decimal n) ≤ 3
digits_of n small = length-decimal-le 3 n (omega arith) (omega arith) (omega arith)

length-turn_text : (turn : Turn) → IsShort turn → length (turn_text turn) ≤ 24
unfolding turn_text
length-turn_text (Hart hart victim) short =
    omega (arith, length-append (104 ∷ 32 ∷ (decimal hart ++ 32 ∷ [])) (decimal victim), length-append (decimal hart) (32 ∷ []), digits_of hart short.0, digits_of victim (omega (arith, short.1)))
length-turn_text (Down bus) short = omega (arith, length-append (decimal bus) (32 ∷ 100 ∷ []), digits_of bus short)
length-turn_text (Request bus child) short =
    omega (arith, length-append (decimal bus ++ 32 ∷ 113 ∷ 32 ∷ []) (decimal child), length-append (decimal bus) (32 ∷ 113 ∷ 32 ∷ []), digits_of bus short.0, digits_of child short.1)
length-turn_text (Reply bus child) short =
    omega (arith, length-append (decimal bus ++ 32 ∷ 114 ∷ 32 ∷ []) (decimal child), length-append (decimal bus) (32 ∷ 114 ∷ 32 ∷ []), digits_of bus short.0, digits_of child short.1)
length-turn_text (Leave bus child choice) short =
    omega (arith, length-append (((decimal bus ++ 32 ∷ 108 ∷ 32 ∷ []) ++ decimal child) ++ 32 ∷ []) (decimal choice), length-append ((decimal bus ++ 32 ∷ 108 ∷ 32 ∷ []) ++ decimal child) (32 ∷ []), length-append (decimal bus ++ 32 ∷ 108 ∷ 32 ∷ []) (decimal child), length-append (decimal bus) (32 ∷ 108 ∷ 32 ∷ []), digits_of bus short.0, digits_of child short.1, digits_of choice (omega (arith, short.2)))

-- ---- the line

not_end : (turn : Turn) → bytes_eq (turn_text turn) (codes "end") ≡ false
unfolding turn_text
not_end (Hart hart victim) = refl
not_end (Down bus) = refl
not_end (Request bus child) = refl
not_end (Reply bus child) = refl
not_end (Leave bus child choice) = refl

-- a turn's line says that turn
pub meaning_of-turn_text : (turn : Turn) → IsShort turn → meaning_of (turn_text turn) ≡ turn_line_of turn
unfolding meaning_of
meaning_of-turn_text turn short =
    let said : LineMeaning = line_of_turn (turn_of_words (pieces_at 32 (turn_text turn))) in
    ap (λ d. cond d no_line (cond (bytes_eq (turn_text turn) (codes "end")) end_line said)) (le-ltb 24 (length (turn_text turn)) (length-turn_text turn short))
    ∙ ap (λ d. cond d end_line said) (not_end turn)
    ∙ ap (λ ps. line_of_turn (turn_of_words ps)) (pieces_at-turn_text turn short)
    ∙ ap line_of_turn (turn_of_words-words_of_turn turn short)

lacks_line_feed : (n : ℕ) → n < 1000 → Lacks 10 (decimal n)
lacks_line_feed n small = Lacks-decimal 10 n refl (omega arith)

-- a letter, a space, a number, and then a text
Lacks-number : (letter n : ℕ) (text : List ℕ) → Lacks 10 (letter ∷ 32 ∷ []) → n < 1000 → Lacks 10 text → Lacks 10 ((letter ∷ 32 ∷ decimal n) ++ text)
Lacks-number letter n text first small more =
    Lacks-append 10 (letter ∷ 32 ∷ decimal n) text (Lacks-append 10 (letter ∷ 32 ∷ []) (decimal n) first (lacks_line_feed n small)) more

pub Lacks-turn_text : (turn : Turn) → IsShort turn → Lacks 10 (turn_text turn)
unfolding turn_text
Lacks-turn_text (Hart hart victim) short =
    Lacks-append 10 (104 ∷ 32 ∷ (decimal hart ++ 32 ∷ [])) (decimal victim) (Lacks-number 104 hart (32 ∷ []) refl short.0 refl) (lacks_line_feed victim (omega (arith, short.1)))
Lacks-turn_text (Down bus) short = Lacks-number 103 bus (32 ∷ 100 ∷ []) refl short refl
Lacks-turn_text (Request bus child) short =
    Lacks-append 10 (103 ∷ 32 ∷ (decimal bus ++ 32 ∷ 113 ∷ 32 ∷ [])) (decimal child) (Lacks-number 103 bus (32 ∷ 113 ∷ 32 ∷ []) refl short.0 refl) (lacks_line_feed child short.1)
Lacks-turn_text (Reply bus child) short =
    Lacks-append 10 (103 ∷ 32 ∷ (decimal bus ++ 32 ∷ 114 ∷ 32 ∷ [])) (decimal child) (Lacks-number 103 bus (32 ∷ 114 ∷ 32 ∷ []) refl short.0 refl) (lacks_line_feed child short.1)
Lacks-turn_text (Leave bus child choice) short =
    Lacks-append 10 (((103 ∷ 32 ∷ (decimal bus ++ 32 ∷ 108 ∷ 32 ∷ [])) ++ decimal child) ++ 32 ∷ []) (decimal choice)
    (Lacks-append 10 ((103 ∷ 32 ∷ (decimal bus ++ 32 ∷ 108 ∷ 32 ∷ [])) ++ decimal child) (32 ∷ [])
    (Lacks-append 10 (103 ∷ 32 ∷ (decimal bus ++ 32 ∷ 108 ∷ 32 ∷ [])) (decimal child) (Lacks-number 103 bus (32 ∷ 108 ∷ 32 ∷ []) refl short.0 refl) (lacks_line_feed child short.1))
    refl)
    (lacks_line_feed choice (omega (arith, short.2)))

-- ---- a schedule

-- the text of a first turn and more turns
pub schedule_text-turn : (turn : Turn) (turns : List Turn) → schedule_text (turn ∷ turns) ≡ turn_text turn ++ 10 ∷ schedule_text turns
unfolding schedule_text turn_lines turn_line
schedule_text-turn turn turns =
    append_assoc (turn_text turn ++ 10 ∷ []) (flat_map turn_line turns) (codes "end\n")
    ∙ append_assoc (turn_text turn) (10 ∷ []) (flat_map turn_line turns ++ codes "end\n")

-- ---- a turn of a small tree

is_inside : (d : Bool) (refusal : ScheduleRefusal) → cond d None (Some refusal) ≡ None → d ≡ true
is_inside true refusal none = refl
is_inside false refusal none = absurd (cc none)

child_inside : (shape : ShapeView) → IsSmallShape shape → (bus child : ℕ) (o : Option ℕ) → slice_get shape.buses bus ≡ o → child_fault child o ≡ None → (bus < 1000) × (child < 1000)
child_inside shape small bus child None at none = absurd (cc none)
child_inside shape small bus child (Some n) at none =
    let inside = slice_get_within shape.buses bus n at in
    let few : n ≤ 1000 = let P : ℕ → Type 0 = λ m. m ≤ 1000 in subst P (get_or_from_slice_get shape.buses bus n 0 at) (small.children bus 0 inside) in
    (omega (arith, inside, small.buses), omega (arith, few, ltb-true child n (is_inside (nat_lt child n) NoSuchChild none)))

pub IsShort-IsTurnOf : (shape : ShapeView) (turn : Turn) → IsSmallShape shape → IsTurnOf shape turn → IsShort turn
unfolding turn_fault
IsShort-IsTurnOf shape (Hart hart victim) small of =
    (omega (arith, small.harts, ltb-true hart shape.harts (is_inside (nat_lt hart shape.harts) NoSuchHart of.of_shape)), of.choice)
IsShort-IsTurnOf shape (Down bus) small of =
    omega (arith, small.buses, ltb-true bus (length shape.buses) (is_inside (nat_lt bus (length shape.buses)) NoSuchBus of.of_shape))
IsShort-IsTurnOf shape (Request bus child) small of = child_inside shape small bus child (slice_get shape.buses bus) refl of.of_shape
IsShort-IsTurnOf shape (Reply bus child) small of = child_inside shape small bus child (slice_get shape.buses bus) refl of.of_shape
IsShort-IsTurnOf shape (Leave bus child choice) small of =
    let places = child_inside shape small bus child (slice_get shape.buses bus) refl of.of_shape in
    (places.0, places.1, of.choice)
