-- A text that gives turns is the text of those turns.
use Rattle.std.proofs.Common.{◌≡◌, ℕ, ◌+◌, Bool, true, false, cond, ◌&&◌, nat_eq, nat_lt, List, [], ◌∷◌, ◌++◌, length, Option, Some, None, Result, Ok, Err, decimal, refl, sym, ap, ◌∙◌, subst, append_assoc, arith}
use Rattle.std.specs.Prelude.{codes, bytes_eq}
use Rattle.std.specs.List.{join_with_byte}
use Rattle.std.specs.Result.{result_ok}
use Rattle.std.proofs.lemmas.Bool.{eqb-true}
use Rattle.std.proofs.lemmas.Slice.Eq.{bytes_eq-Decides}
use Rattle.text_model.specs.DdmTypes.declared.turns.Turn.{Turn}
use Rattle.text_model.specs.DdmTypes.declared.turns.Turn.TheVariants.{Hart, Down, Request, Reply, Leave}
use Rattle.ddm_text.specs.declared.reading.NumberRefusal.{NumberRefusal}
use Rattle.ddm_text.specs.Numbers.{number_of}
use Rattle.ddm_text.proofs.Spellings.{spelling-number_of}
use Rattle.text_model.specs.declared.ScheduleRefusal.{ScheduleRefusal}
use Rattle.text_model.specs.declared.ScheduleRefusal.TheVariants.{BadTurn}
use Rattle.text_model.specs.Schedule.{ShapeView, turn_text, turn_lines, schedule_text, with_byte_before, pieces_at, place_in, choice_in, hart_turn_of, down_turn_of, request_turn_of, reply_turn_of, leave_turn_of, turn_of_words, LineMeaning, turn_line_of, end_line, no_line, line_of_turn, meaning_of, refusal_of_turn, Standing, in_line, at_end, refused_at, Reading, with_turn, after_end, unless_refused, line_reading, reading_from, reading_of, finished, schedule_of}
use Rattle.text_model.proofs.Pieces.{both, some_piece}
use Rattle.text_model.proofs.TurnTexts.{words_of_turn, schedule_text-turn}

-- ---- pieces put together again

join_by : (d : Bool) (separator byte : ℕ) (piece : List ℕ) (pieces : List (List ℕ)) → nat_eq byte separator ≡ d → join_with_byte separator (cond d ([] ∷ piece ∷ pieces) ((byte ∷ piece) ∷ pieces)) ≡ byte ∷ join_with_byte separator (piece ∷ pieces)
join_by true separator byte piece pieces same = ap (λ b. b ∷ join_with_byte separator (piece ∷ pieces)) (sym (eqb-true byte separator same))
join_by false separator byte piece [] other = refl
join_by false separator byte piece (next ∷ pieces) other = refl

join-pieces_at : (separator : ℕ) (text : List ℕ) → join_with_byte separator (pieces_at separator text) ≡ text
unfolding pieces_at
join-pieces_at separator [] = refl
join-pieces_at separator (byte ∷ text) =
    let some = some_piece separator text in
    ap (λ ps. join_with_byte separator (with_byte_before separator byte ps)) some.2
    ∙ join_by (nat_eq byte separator) separator byte some.0 some.1 refl
    ∙ ap (λ ps. byte ∷ join_with_byte separator ps) (sym some.2)
    ∙ ap (λ t. byte ∷ t) (join-pieces_at separator text)

-- ---- words

same_bytes : (xs ys : List ℕ) → bytes_eq xs ys ≡ true → xs ≡ ys
same_bytes xs ys = (bytes_eq-Decides xs ys).0

pub is_ok_by : (r : Result ℕ NumberRefusal) (n : ℕ) → result_ok r ≡ Some n → r ≡ Ok n
is_ok_by (Ok m) n e = cc e
is_ok_by (Err refusal) n e = absurd (cc e)

place_spelled : (word : List ℕ) (n : ℕ) → place_in word ≡ Some n → word ≡ decimal n
place_spelled word n e = spelling-number_of word 4294967295 n (omega arith) (is_ok_by (number_of word 4294967295) n e)

choice_spelled : (word : List ℕ) (n : ℕ) → choice_in word ≡ Some n → word ≡ decimal n
choice_spelled word n e = spelling-number_of word 255 n (omega arith) (is_ok_by (number_of word 255) n e)

-- Words are those of a turn.
abbrev AreWordsOf : List (List ℕ) → Turn → Type 0
AreWordsOf words turn = words ≡ words_of_turn turn

some_turn : (a b : Turn) (words : List (List ℕ)) → Some a ≡ Some b → AreWordsOf words a → AreWordsOf words b
some_turn a b words e are = let P : Turn → Type 0 = λ t. AreWordsOf words t in subst P (cc e) are

hart_words : (o o' : Option ℕ) (second third : List ℕ) (turn : Turn) → place_in second ≡ o → choice_in third ≡ o' → hart_turn_of o o' ≡ Some turn → AreWordsOf (codes "h" ∷ second ∷ third ∷ []) turn
hart_words (Some hart) (Some victim) second third turn at at' e =
    some_turn (Hart hart victim) turn (codes "h" ∷ second ∷ third ∷ []) e
    (ap (λ w. codes "h" ∷ w ∷ third ∷ []) (place_spelled second hart at) ∙ ap (λ w. codes "h" ∷ decimal hart ∷ w ∷ []) (choice_spelled third victim at'))
hart_words (Some hart) None second third turn at at' e = absurd (cc e)
hart_words None o' second third turn at at' e = absurd (cc e)

down_words : (o : Option ℕ) (second : List ℕ) (turn : Turn) → place_in second ≡ o → down_turn_of o ≡ Some turn → AreWordsOf (codes "g" ∷ second ∷ codes "d" ∷ []) turn
down_words (Some bus) second turn at e = some_turn (Down bus) turn (codes "g" ∷ second ∷ codes "d" ∷ []) e (ap (λ w. codes "g" ∷ w ∷ codes "d" ∷ []) (place_spelled second bus at))
down_words None second turn at e = absurd (cc e)

request_words : (o o' : Option ℕ) (bus child : List ℕ) (turn : Turn) → place_in bus ≡ o → place_in child ≡ o' → request_turn_of o o' ≡ Some turn → AreWordsOf (codes "g" ∷ bus ∷ codes "q" ∷ child ∷ []) turn
request_words (Some b) (Some c) bus child turn at at' e =
    some_turn (Request b c) turn (codes "g" ∷ bus ∷ codes "q" ∷ child ∷ []) e
    (ap (λ w. codes "g" ∷ w ∷ codes "q" ∷ child ∷ []) (place_spelled bus b at) ∙ ap (λ w. codes "g" ∷ decimal b ∷ codes "q" ∷ w ∷ []) (place_spelled child c at'))
request_words (Some b) None bus child turn at at' e = absurd (cc e)
request_words None o' bus child turn at at' e = absurd (cc e)

reply_words : (o o' : Option ℕ) (bus child : List ℕ) (turn : Turn) → place_in bus ≡ o → place_in child ≡ o' → reply_turn_of o o' ≡ Some turn → AreWordsOf (codes "g" ∷ bus ∷ codes "r" ∷ child ∷ []) turn
reply_words (Some b) (Some c) bus child turn at at' e =
    some_turn (Reply b c) turn (codes "g" ∷ bus ∷ codes "r" ∷ child ∷ []) e
    (ap (λ w. codes "g" ∷ w ∷ codes "r" ∷ child ∷ []) (place_spelled bus b at) ∙ ap (λ w. codes "g" ∷ decimal b ∷ codes "r" ∷ w ∷ []) (place_spelled child c at'))
reply_words (Some b) None bus child turn at at' e = absurd (cc e)
reply_words None o' bus child turn at at' e = absurd (cc e)

leave_words : (o o' o'' : Option ℕ) (bus child choice : List ℕ) (turn : Turn) → place_in bus ≡ o → place_in child ≡ o' → choice_in choice ≡ o'' → leave_turn_of o o' o'' ≡ Some turn → AreWordsOf (codes "g" ∷ bus ∷ codes "l" ∷ child ∷ choice ∷ []) turn
leave_words (Some b) (Some c) (Some k) bus child choice turn at at' at'' e =
    some_turn (Leave b c k) turn (codes "g" ∷ bus ∷ codes "l" ∷ child ∷ choice ∷ []) e
    (ap (λ w. codes "g" ∷ w ∷ codes "l" ∷ child ∷ choice ∷ []) (place_spelled bus b at)
    ∙ ap (λ w. codes "g" ∷ decimal b ∷ codes "l" ∷ w ∷ choice ∷ []) (place_spelled child c at')
    ∙ ap (λ w. codes "g" ∷ decimal b ∷ codes "l" ∷ decimal c ∷ w ∷ []) (choice_spelled choice k at''))
leave_words (Some b) (Some c) None bus child choice turn at at' at'' e = absurd (cc e)
leave_words (Some b) None o'' bus child choice turn at at' at'' e = absurd (cc e)
leave_words None o' o'' bus child choice turn at at' at'' e = absurd (cc e)

three_by : (d d' : Bool) (mark second third : List ℕ) (turn : Turn) → bytes_eq mark (codes "h") ≡ d → (bytes_eq mark (codes "g") && bytes_eq third (codes "d")) ≡ d' → cond d (hart_turn_of (place_in second) (choice_in third)) (cond d' (down_turn_of (place_in second)) None) ≡ Some turn → AreWordsOf (mark ∷ second ∷ third ∷ []) turn
three_by true d' mark second third turn h g e =
    ap (λ w. w ∷ second ∷ third ∷ []) (same_bytes mark (codes "h") h) ∙ hart_words (place_in second) (choice_in third) second third turn refl refl e
three_by false true mark second third turn h g e =
    let parts = both (bytes_eq mark (codes "g")) (bytes_eq third (codes "d")) g in
    ap (λ w. w ∷ second ∷ third ∷ []) (same_bytes mark (codes "g") parts.0)
    ∙ ap (λ w. codes "g" ∷ second ∷ w ∷ []) (same_bytes third (codes "d") parts.1)
    ∙ down_words (place_in second) second turn refl e
three_by false false mark second third turn h g e = absurd (cc e)

four_by : (d d' : Bool) (mark bus kind child : List ℕ) (turn : Turn) → (bytes_eq mark (codes "g") && bytes_eq kind (codes "q")) ≡ d → (bytes_eq mark (codes "g") && bytes_eq kind (codes "r")) ≡ d' → cond d (request_turn_of (place_in bus) (place_in child)) (cond d' (reply_turn_of (place_in bus) (place_in child)) None) ≡ Some turn → AreWordsOf (mark ∷ bus ∷ kind ∷ child ∷ []) turn
four_by true d' mark bus kind child turn q r e =
    let parts = both (bytes_eq mark (codes "g")) (bytes_eq kind (codes "q")) q in
    ap (λ w. w ∷ bus ∷ kind ∷ child ∷ []) (same_bytes mark (codes "g") parts.0)
    ∙ ap (λ w. codes "g" ∷ bus ∷ w ∷ child ∷ []) (same_bytes kind (codes "q") parts.1)
    ∙ request_words (place_in bus) (place_in child) bus child turn refl refl e
four_by false true mark bus kind child turn q r e =
    let parts = both (bytes_eq mark (codes "g")) (bytes_eq kind (codes "r")) r in
    ap (λ w. w ∷ bus ∷ kind ∷ child ∷ []) (same_bytes mark (codes "g") parts.0)
    ∙ ap (λ w. codes "g" ∷ bus ∷ w ∷ child ∷ []) (same_bytes kind (codes "r") parts.1)
    ∙ reply_words (place_in bus) (place_in child) bus child turn refl refl e
four_by false false mark bus kind child turn q r e = absurd (cc e)

five_by : (d : Bool) (mark bus kind child choice : List ℕ) (turn : Turn) → (bytes_eq mark (codes "g") && bytes_eq kind (codes "l")) ≡ d → cond d (leave_turn_of (place_in bus) (place_in child) (choice_in choice)) None ≡ Some turn → AreWordsOf (mark ∷ bus ∷ kind ∷ child ∷ choice ∷ []) turn
five_by true mark bus kind child choice turn l e =
    let parts = both (bytes_eq mark (codes "g")) (bytes_eq kind (codes "l")) l in
    ap (λ w. w ∷ bus ∷ kind ∷ child ∷ choice ∷ []) (same_bytes mark (codes "g") parts.0)
    ∙ ap (λ w. codes "g" ∷ bus ∷ w ∷ child ∷ choice ∷ []) (same_bytes kind (codes "l") parts.1)
    ∙ leave_words (place_in bus) (place_in child) (choice_in choice) bus child choice turn refl refl refl e
five_by false mark bus kind child choice turn l e = absurd (cc e)

pub turn_words : (words : List (List ℕ)) (turn : Turn) → turn_of_words words ≡ Some turn → AreWordsOf words turn
unfolding turn_of_words
turn_words [] turn e = absurd (cc e)
turn_words (a ∷ []) turn e = absurd (cc e)
turn_words (a ∷ b ∷ []) turn e = absurd (cc e)
turn_words (a ∷ b ∷ c ∷ []) turn e = three_by (bytes_eq a (codes "h")) (bytes_eq a (codes "g") && bytes_eq c (codes "d")) a b c turn refl refl e
turn_words (a ∷ b ∷ c ∷ d ∷ []) turn e = four_by (bytes_eq a (codes "g") && bytes_eq c (codes "q")) (bytes_eq a (codes "g") && bytes_eq c (codes "r")) a b c d turn refl refl e
turn_words (a ∷ b ∷ c ∷ d ∷ f ∷ []) turn e = five_by (bytes_eq a (codes "g") && bytes_eq c (codes "l")) a b c d f turn refl e
turn_words (a ∷ b ∷ c ∷ d ∷ f ∷ g ∷ words) turn e = absurd (cc e)

-- ---- a line

join-words_of_turn : (turn : Turn) → join_with_byte 32 (words_of_turn turn) ≡ turn_text turn
unfolding turn_text
join-words_of_turn (Hart hart victim) = ap (λ t. 104 ∷ 32 ∷ t) (sym (append_assoc (decimal hart) (32 ∷ []) (decimal victim)))
join-words_of_turn (Down bus) = refl
join-words_of_turn (Request bus child) = ap (λ t. 103 ∷ 32 ∷ t) (sym (append_assoc (decimal bus) (32 ∷ 113 ∷ 32 ∷ []) (decimal child)))
join-words_of_turn (Reply bus child) = ap (λ t. 103 ∷ 32 ∷ t) (sym (append_assoc (decimal bus) (32 ∷ 114 ∷ 32 ∷ []) (decimal child)))
join-words_of_turn (Leave bus child choice) =
    ap (λ t. 103 ∷ 32 ∷ t)
    (sym (ap (λ u. (u ++ 32 ∷ []) ++ decimal choice) (append_assoc (decimal bus) (32 ∷ 108 ∷ 32 ∷ []) (decimal child))
    ∙ append_assoc (decimal bus ++ 32 ∷ 108 ∷ 32 ∷ decimal child) (32 ∷ []) (decimal choice)
    ∙ append_assoc (decimal bus) (32 ∷ 108 ∷ 32 ∷ decimal child) (32 ∷ decimal choice)))

turn_by : (o : Option Turn) (turn : Turn) → line_of_turn o ≡ turn_line_of turn → o ≡ Some turn
turn_by (Some t) turn e = cc e
turn_by None turn e = absurd (cc e)

not_end_line : (o : Option Turn) → line_of_turn o ≡ end_line → ⊥
not_end_line (Some t) e = cc e
not_end_line None e = cc e

pub meaning_turn : (d d' : Bool) (o : Option Turn) (turn : Turn) → cond d no_line (cond d' end_line (line_of_turn o)) ≡ turn_line_of turn → o ≡ Some turn
meaning_turn true d' o turn e = absurd (cc e)
meaning_turn false true o turn e = absurd (cc e)
meaning_turn false false o turn e = turn_by o turn e

meaning_end : (d d' : Bool) (o : Option Turn) → cond d no_line (cond d' end_line (line_of_turn o)) ≡ end_line → d' ≡ true
meaning_end true d' o e = absurd (cc e)
meaning_end false true o e = refl
meaning_end false false o e = absurd (not_end_line o e)

-- a line that says a turn is the text of that turn
pub turn_text-meaning_of : (line : List ℕ) (turn : Turn) → meaning_of line ≡ turn_line_of turn → line ≡ turn_text turn
unfolding meaning_of
turn_text-meaning_of line turn e =
    let given = meaning_turn (nat_lt 24 (length line)) (bytes_eq line (codes "end")) (turn_of_words (pieces_at 32 line)) turn e in
    sym (join-pieces_at 32 line) ∙ ap (λ ws. join_with_byte 32 ws) (turn_words (pieces_at 32 line) turn given) ∙ join-words_of_turn turn

end_text-meaning_of : (line : List ℕ) → meaning_of line ≡ end_line → line ≡ codes "end"
unfolding meaning_of
end_text-meaning_of line e =
    same_bytes line (codes "end") (meaning_end (nat_lt 24 (length line)) (bytes_eq line (codes "end")) (turn_of_words (pieces_at 32 line)) e)

-- ---- a text

-- the pieces are those of the text of turns
abbrev Spells : List (List ℕ) → Reading → Type 0
Spells pieces reading = join_with_byte 10 pieces ≡ schedule_text reading.turns

one_piece : (d : Bool) (line behind : ℕ) → cond d (refused_at line BadTurn) (in_line line) ≡ at_end behind → ⊥
one_piece true line behind e = cc e
one_piece false line behind e = cc e

spelled_turn : (line behind : ℕ) (o : Option ScheduleRefusal) (turn : Turn) (piece next : List ℕ) (pieces : List (List ℕ)) (more : Reading) → piece ≡ turn_text turn → (more.standing ≡ at_end behind → Spells (next ∷ pieces) more) → (unless_refused line o (with_turn turn more)).standing ≡ at_end behind → Spells (piece ∷ next ∷ pieces) (unless_refused line o (with_turn turn more))
spelled_turn line behind None turn piece next pieces more is rest e =
    ap (λ p. p ++ 10 ∷ join_with_byte 10 (next ∷ pieces)) is ∙ ap (λ t. turn_text turn ++ 10 ∷ t) (rest e) ∙ sym (schedule_text-turn turn more.turns)
spelled_turn line behind (Some refusal) turn piece next pieces more is rest e = absurd (cc e)

spelled_end : (line behind : ℕ) (piece next : List ℕ) (pieces : List (List ℕ)) → piece ≡ codes "end" → (after_end line next pieces).standing ≡ at_end behind → Spells (piece ∷ next ∷ pieces) (after_end line next pieces)
unfolding schedule_text turn_lines
spelled_end line behind piece [] [] is e = ap (λ p. p ++ 10 ∷ []) is
spelled_end line behind piece [] (other ∷ pieces) is e = absurd (cc e)
spelled_end line behind piece (byte ∷ next) pieces is e = absurd (cc e)

spelled_line : (shape : ShapeView) (line made behind : ℕ) (m : LineMeaning) (piece next : List ℕ) (pieces : List (List ℕ)) (more : Reading) → meaning_of piece ≡ m → (more.standing ≡ at_end behind → Spells (next ∷ pieces) more) → (line_reading shape line made m next pieces more).standing ≡ at_end behind → Spells (piece ∷ next ∷ pieces) (line_reading shape line made m next pieces more)
spelled_line shape line made behind (turn_line_of turn) piece next pieces more is rest e = spelled_turn line behind (refusal_of_turn shape made turn) turn piece next pieces more (turn_text-meaning_of piece turn is) rest e
spelled_line shape line made behind end_line piece next pieces more is rest e = spelled_end (line + 1) behind piece next pieces (end_text-meaning_of piece is) e
spelled_line shape line made behind no_line piece next pieces more is rest e = absurd (cc e)

spelled_from : (shape : ShapeView) (line made behind : ℕ) (piece : List ℕ) (pieces : List (List ℕ)) → (reading_from shape line made (piece ∷ pieces)).standing ≡ at_end behind → Spells (piece ∷ pieces) (reading_from shape line made (piece ∷ pieces))
unfolding reading_from
spelled_from shape line made behind piece [] e = absurd (one_piece (nat_lt 24 (length piece)) line behind e)
spelled_from shape line made behind piece (next ∷ pieces) e =
    spelled_line shape line made behind (meaning_of piece) piece next pieces (reading_from shape (line + 1) (made + 1) (next ∷ pieces)) refl (spelled_from shape (line + 1) (made + 1) behind next pieces) e

pub finished_by : (reading : List Turn) (standing : Standing) (turns : List Turn) → finished reading standing ≡ Ok turns → (behind : ℕ) × (standing ≡ at_end behind) × (reading ≡ turns)
finished_by reading (in_line line) turns e = absurd (cc e)
finished_by reading (at_end line) turns e = (line, refl, cc e)
finished_by reading (refused_at line refusal) turns e = absurd (cc e)

-- a text that gives turns is their text
pub schedule_text-schedule_of : (shape : ShapeView) (made : ℕ) (text : List ℕ) (turns : List Turn) → schedule_of shape made text ≡ Ok turns → text ≡ schedule_text turns
unfolding schedule_of reading_of
schedule_text-schedule_of shape made text turns e =
    let some = some_piece 10 text in
    let reading = reading_from shape 1 made (pieces_at 10 text) in
    let given = finished_by reading.turns reading.standing turns e in
    let P : List (List ℕ) → Type 0 = λ ps. (reading_from shape 1 made ps).standing ≡ at_end given.0 in
    let Q : List (List ℕ) → Type 0 = λ ps. Spells ps (reading_from shape 1 made ps) in
    sym (join-pieces_at 10 text)
    ∙ subst Q (sym some.2) (spelled_from shape 1 made given.0 some.0 some.1 (subst P some.2 given.1))
    ∙ ap schedule_text given.2
