-- What a leaf is that was read: its hart, and then what it keeps of items, which is all that a leaf keeps by itself.
-- `behind_x` is what is read behind x, and `x_made` what is made of all that was read.
-- Letters: n is how many items there are, v the leaf before, u the one that was read, k the number of the next word, ws are the words.
use Rattle.std.specs.Prelude.{◌≡◌, ◌≤◌, ℕ, ◌+◌, ◌-◌, Bool, true, false, not, ◌&&◌, ◌||◌, nat_eq, nat_lt, nat_le, List, [], ◌∷◌, ◌++◌, length, map, Option, Some, None, is_none, Result, Ok, Err, refl, if◌then◌else◌}
use Rattle.std.specs.List.{list_any, list_all}
use Rattle.std.proofs.Common.{sym, ap, subst, ◌∙◌, arith}
use Rattle.std.proofs.lemmas.Bool.{and_parts, eq-eqb, leb-true, le-leb, lt-ltb}
use Rattle.std.proofs.lemmas.Bool.Decides.{nat_tests}
use Rattle.std.proofs.lemmas.List.{length_push}
use Rattle.std.specs.Cmp.Derive.{both_true}
use Rattle.state_judging.specs.DdmTypes.declared.answers.TxKind.{TxKind}
use Rattle.state_judging.specs.DdmTypes.declared.answers.TxKind.TheVariants.{ReadTx, DataTx, EraseTx, ExclusiveTx, InjectTx, OutTx}
use Rattle.state_judging.specs.DdmTypes.declared.sizes.LeafState.{LeafState}
use Rattle.state_judging.specs.TreeModel.State.States.{is_reading}
use Rattle.state_judging.specs.TreeModel.State.Shape.{are_distinct}
use Rattle.state_judging.specs.TreeModel.State.Values.{RequestValue, CopyValue, BufferValue, LeafValue}
use Rattle.state_judging.specs.TreeModel.State.Leaf.{way_at, state_at}
use Rattle.state_judging.specs.TreeRules.Bus.Own.{are_zero, copy_fits, words_suit, buffer_fits, request_suits, slot_suits, reserves_below, LeafRule, has_ways, leaf_lists, ways_fit, ways_alone, buffer_fit, buffered_once, one_waiting, slot_fits, leaf_replies, reservation_fits, leaf_test, leaf_rules, leaf_holds}
use Rattle.state_judging.specs.TreeRules.Bus.Item.{implies}
use Rattle.state_judging.proofs.TreeRules.Implying.{implies-true, implies-false}
use Rattle.state_judging.proofs.TreeRules.Lists.{all-pass}
use Rattle.bus_laws.proofs.Lists.{pass-pushed}
use Rattle.state_judging.specs.StateWords.Parts.{StandingValue}
use Rattle.state_reading.specs.declared.StateRefusal.{StateRefusal}
use Rattle.state_reading.specs.declared.StateRefusal.TheVariants.{BrokenLeaf}
use Rattle.state_reading.specs.Reading.{Read, and_then, given, times, word_that, any_word, words_that}
use Rattle.state_reading.specs.Parts as parts
use Rattle.state_reading.specs.Parts.{most_counted, count_word, word_to, word_below, word_from_1, word_if, item_words, halt_has_number, halt_of, read_hart, state_of, slot_of, reserved_of, not_before, way_not_before, last_of, read_standing, read_buffered, read_copy, ways_with, standing_item, item_of_buffer, places_differ, waiting_states, standing_state, buffer_state, slot_state_fits, is_whole_leaf, unless_broken, read_leaf}
use Rattle.state_judging.proofs.Inverted.{and_then-ok, given-ok, given-so, word_that-ok, words_that-ok, times-begun}
use Rattle.state_judging.proofs.Lists.{same-test, distinct-rest, distinct-apart, any-map, each-there, pass-each, each-pass}
use Rattle.state_judging.proofs.Searches.{each-both}
use Rattle.state_judging.proofs.WaysRead.{ways_of, AllWithin, length-ways, standing_fits, standing-within, ways-fit, ways-alone, not-there}
use Rattle.state_judging.proofs.OneWaits.{waits-alone}

-- ---- words of an item

zero-swap : (ws : List ℕ) → list_all (λ w. nat_eq w 0) ws ≡ true → are_zero ws ≡ true
zero-swap [] e = refl
zero-swap (w ∷ ws) e =
    let both = and_parts (nat_eq w 0) (list_all (λ w. nat_eq w 0) ws) e in
    both_true (same-test 0 w ∙ both.0) (zero-swap ws both.1)

-- where it has none they are 0
pub zero-unless : (b : Bool) (ws : List ℕ) → list_all (λ w. b || nat_eq w 0) ws ≡ true → implies (not b) (are_zero ws) ≡ true
zero-unless true ws e = implies-false (are_zero ws)
zero-unless false ws e = implies-true (are_zero ws) ∙ zero-swap ws e

pub zero-where : (b : Bool) (ws : List ℕ) → list_all (λ w. not b || nat_eq w 0) ws ≡ true → implies b (are_zero ws) ≡ true
zero-where true ws e = implies-true (are_zero ws) ∙ zero-swap ws e
zero-where false ws e = implies-false (are_zero ws)

-- ---- copies

pub read_copy-ok : (width : ℕ) (ok : ℕ → List CopyValue → Bool) (cs : List CopyValue) (k : ℕ) (ws : List ℕ) (r : Read (List CopyValue)) → read_copy width ok cs k ws ≡ Ok r → (c : CopyValue) × (ok c.item cs ≡ true) × (r.value ≡ cs ++ c ∷ [])
read_copy-ok width ok cs k ws r e =
    let x = and_then-ok (word_that (λ x. ok x cs) k ws) (λ x k ws. and_then (item_words true width k ws) (λ words k ws. given (cs ++ record { item = x; words = words } ∷ []) k ws)) r e in
    let words = and_then-ok (item_words true width x.0.at x.0.rest) (λ words k ws. given (cs ++ record { item = x.0.value; words = words } ∷ []) k ws) r x.2 in
    (record { item = x.0.value; words = words.0.value }, word_that-ok (λ x. ok x cs) k ws x.0 x.1, sym (given-ok (cs ++ record { item = x.0.value; words = words.0.value } ∷ []) words.0.at words.0.rest r words.2))

-- so many, each of one of n items
pub record AreCopies (n i : ℕ) (cs : List CopyValue) : Type 0 where
  pub count : length cs ≡ i
  pub fit : list_all (copy_fits n) cs ≡ true

pub no_copies : (n : ℕ) → AreCopies n 0 []
no_copies n = record { count = refl; fit = refl }

pub copies-next : (n width i : ℕ) (cs : List CopyValue) (k : ℕ) (ws : List ℕ) (r : Read (List CopyValue)) → AreCopies n i cs → read_copy width (λ x cs. nat_lt x n) cs k ws ≡ Ok r → AreCopies n (i + 1) r.value
copies-next n width i cs k ws r all e =
    let c = read_copy-ok width (λ x cs. nat_lt x n) cs k ws r e in
    subst (AreCopies n (i + 1)) (sym c.2) (record { count = length_push cs c.0 ∙ ap (λ j. j + 1) all.count; fit = pass-pushed (copy_fits n) cs c.0 all.fit c.1 })

-- ---- a hart

pub record HartRead (v u : LeafValue) : Type 0 where
  pub number : u.number ≡ v.number
  pub sizes : u.sizes ≡ v.sizes
  pub counted : nat_le u.done most_counted ≡ true
  pub ways : u.ways ≡ v.ways
  pub buffer : u.buffer ≡ v.buffer
  pub replies : u.replies ≡ v.replies

module _ (v : LeafValue) where
  abbrev hart_made : List ℕ → ℕ → ℕ → ℕ → ℕ → ℕ → List ℕ → Result (Read LeafValue) StateRefusal
  hart_made registers pc done code number k ws = given (record v { hart = record { registers = 0 ∷ registers; pc = pc; halt = halt_of code number }; done = done }) k ws

  abbrev behind_halt : List ℕ → ℕ → ℕ → ℕ → ℕ → List ℕ → Result (Read LeafValue) StateRefusal
  behind_halt registers pc done code k ws = and_then (word_if (halt_has_number code) k ws) (hart_made registers pc done code)

  abbrev behind_done : List ℕ → ℕ → ℕ → ℕ → List ℕ → Result (Read LeafValue) StateRefusal
  behind_done registers pc done k ws = and_then (word_to 9 k ws) (behind_halt registers pc done)

  abbrev behind_pc : List ℕ → ℕ → ℕ → List ℕ → Result (Read LeafValue) StateRefusal
  behind_pc registers pc k ws = and_then (count_word k ws) (behind_done registers pc)

  abbrev behind_registers : List ℕ → ℕ → List ℕ → Result (Read LeafValue) StateRefusal
  behind_registers registers k ws = and_then (word_that any_word k ws) (behind_pc registers)

  hart-given : (registers : List ℕ) (pc done code number k : ℕ) (ws : List ℕ) (r : Read LeafValue) → nat_le done most_counted ≡ true → hart_made registers pc done code number k ws ≡ Ok r → HartRead v r.value
  hart-given registers pc done code number k ws r counted e =
      given-so (HartRead v) (record v { hart = record { registers = 0 ∷ registers; pc = pc; halt = halt_of code number }; done = done }) k ws r e (record { number = refl; sizes = refl; counted = counted; ways = refl; buffer = refl; replies = refl })

  pub hart-ok : (k : ℕ) (ws : List ℕ) (r : Read LeafValue) → read_hart v k ws ≡ Ok r → HartRead v r.value
  unfolding read_hart
  hart-ok k ws r e =
      let registers = and_then-ok (words_that any_word 31 k ws) behind_registers r e in
      let pc = and_then-ok (word_that any_word registers.0.at registers.0.rest) (behind_pc registers.0.value) r registers.2 in
      let done = and_then-ok (count_word pc.0.at pc.0.rest) (behind_done registers.0.value pc.0.value) r pc.2 in
      let code = and_then-ok (word_to 9 done.0.at done.0.rest) (behind_halt registers.0.value pc.0.value done.0.value) r done.2 in
      let number = and_then-ok (word_if (halt_has_number code.0.value) code.0.at code.0.rest) (hart_made registers.0.value pc.0.value done.0.value code.0.value) r code.2 in
      hart-given registers.0.value pc.0.value done.0.value code.0.value number.0.value number.0.at number.0.rest r (word_that-ok (λ w. nat_le w most_counted) pc.0.at pc.0.rest done.0 done.1) number.2

-- ---- entries in ways

module _ (n : ℕ) (v : LeafValue) where
  abbrev standing_made : List StandingValue → ℕ → ℕ → ℕ → List ℕ → ℕ → List ℕ → Result (Read (List StandingValue)) StateRefusal
  standing_made ss x way code words k ws = given (record { item = x; entry = record { way = way; state = state_of code; words = words } } ∷ ss) k ws

  abbrev behind_state : List StandingValue → ℕ → ℕ → ℕ → ℕ → List ℕ → Result (Read (List StandingValue)) StateRefusal
  behind_state ss x way code k ws = and_then (item_words (not (is_reading (state_of code))) v.sizes.width k ws) (standing_made ss x way code)

  abbrev behind_way : List StandingValue → ℕ → ℕ → ℕ → List ℕ → Result (Read (List StandingValue)) StateRefusal
  behind_way ss x way k ws = and_then (word_from_1 5 k ws) (behind_state ss x way)

  abbrev behind_item : List StandingValue → ℕ → ℕ → List ℕ → Result (Read (List StandingValue)) StateRefusal
  behind_item ss x k ws = and_then (word_that (λ way. nat_lt way v.sizes.way_count && way_not_before v.sizes.sets x way (last_of ss)) k ws) (behind_way ss x)

  abbrev Stand : List StandingValue → Type 0
  Stand ss = list_all (standing_fits n v.sizes.way_count) ss ≡ true

  standing-given : (ss : List StandingValue) (x way code : ℕ) (words : List ℕ) (k : ℕ) (ws : List ℕ) (r : Read (List StandingValue)) → Stand ss → nat_lt x n ≡ true → nat_lt way v.sizes.way_count ≡ true → words_suit (state_of code) words ≡ true → standing_made ss x way code words k ws ≡ Ok r → Stand r.value
  standing-given ss x way code words k ws r all item place suit e =
      given-so Stand (record { item = x; entry = record { way = way; state = state_of code; words = words } } ∷ ss) k ws r e (both_true (both_true item (both_true place suit)) all)

  standing-next : (i : ℕ) (ss : List StandingValue) (k : ℕ) (ws : List ℕ) (r : Read (List StandingValue)) → Stand ss → read_standing n v ss k ws ≡ Ok r → Stand r.value
  standing-next i ss k ws r all e =
      let x = and_then-ok (word_that (λ x. nat_lt x n && not_before v.sizes.sets x (last_of ss)) k ws) (behind_item ss) r e in
      let way = and_then-ok (word_that (λ way. nat_lt way v.sizes.way_count && way_not_before v.sizes.sets x.0.value way (last_of ss)) x.0.at x.0.rest) (behind_way ss x.0.value) r x.2 in
      let code = and_then-ok (word_from_1 5 way.0.at way.0.rest) (behind_state ss x.0.value way.0.value) r way.2 in
      let words = and_then-ok (item_words (not (is_reading (state_of code.0.value))) v.sizes.width code.0.at code.0.rest) (standing_made ss x.0.value way.0.value code.0.value) r code.2 in
      let item = and_parts (nat_lt x.0.value n) (not_before v.sizes.sets x.0.value (last_of ss)) (word_that-ok (λ x. nat_lt x n && not_before v.sizes.sets x (last_of ss)) k ws x.0 x.1) in
      let place = and_parts (nat_lt way.0.value v.sizes.way_count) (way_not_before v.sizes.sets x.0.value way.0.value (last_of ss)) (word_that-ok (λ way. nat_lt way v.sizes.way_count && way_not_before v.sizes.sets x.0.value way (last_of ss)) x.0.at x.0.rest way.0 way.1) in
      let suit = zero-where (is_reading (state_of code.0.value)) words.0.value (words_that-ok (λ w. not (is_reading (state_of code.0.value)) || nat_eq w 0) v.sizes.width code.0.at code.0.rest words.0 words.1) in
      standing-given ss x.0.value way.0.value code.0.value words.0.value words.0.at words.0.rest r all item.0 place.0 suit words.2

  -- ---- entries in the buffer

  abbrev buffered_made : List BufferValue → ℕ → ℕ → List ℕ → ℕ → List ℕ → Result (Read (List BufferValue)) StateRefusal
  buffered_made es x code words k ws = given (es ++ record { item = x; state = state_of code; words = words } ∷ []) k ws

  abbrev behind_buffered_state : List BufferValue → ℕ → ℕ → ℕ → List ℕ → Result (Read (List BufferValue)) StateRefusal
  behind_buffered_state es x code k ws = and_then (item_words (not (is_reading (state_of code))) v.sizes.width k ws) (buffered_made es x code)

  abbrev behind_buffered_item : List BufferValue → ℕ → ℕ → List ℕ → Result (Read (List BufferValue)) StateRefusal
  behind_buffered_item es x k ws = and_then (word_from_1 5 k ws) (behind_buffered_state es x)

  abbrev buffered_fits : BufferValue → Bool
  buffered_fits e = nat_lt e.item n && words_suit e.state e.words

  record AreBuffered (i : ℕ) (es : List BufferValue) : Type 0 where
    count : length es ≡ i
    fit : list_all buffered_fits es ≡ true

  buffered-given : (i : ℕ) (es : List BufferValue) (x code : ℕ) (words : List ℕ) (k : ℕ) (ws : List ℕ) (r : Read (List BufferValue)) → AreBuffered i es → nat_lt x n ≡ true → words_suit (state_of code) words ≡ true → buffered_made es x code words k ws ≡ Ok r → AreBuffered (i + 1) r.value
  buffered-given i es x code words k ws r all item suit e =
      given-so (AreBuffered (i + 1)) (es ++ record { item = x; state = state_of code; words = words } ∷ []) k ws r e (record {
        count = length_push es (record { item = x; state = state_of code; words = words }) ∙ ap (λ j. j + 1) all.count;
        fit = pass-pushed buffered_fits es (record { item = x; state = state_of code; words = words }) all.fit (both_true item suit);
      })

  buffered-next : (i : ℕ) (es : List BufferValue) (k : ℕ) (ws : List ℕ) (r : Read (List BufferValue)) → AreBuffered i es → read_buffered n v es k ws ≡ Ok r → AreBuffered (i + 1) r.value
  buffered-next i es k ws r all e =
      let x = and_then-ok (word_below n k ws) (behind_buffered_item es) r e in
      let code = and_then-ok (word_from_1 5 x.0.at x.0.rest) (behind_buffered_state es x.0.value) r x.2 in
      let words = and_then-ok (item_words (not (is_reading (state_of code.0.value))) v.sizes.width code.0.at code.0.rest) (buffered_made es x.0.value code.0.value) r code.2 in
      let suit = zero-where (is_reading (state_of code.0.value)) words.0.value (words_that-ok (λ w. not (is_reading (state_of code.0.value)) || nat_eq w 0) v.sizes.width code.0.at code.0.rest words.0 words.1) in
      buffered-given i es x.0.value code.0.value words.0.value words.0.at words.0.rest r all (word_that-ok (λ x. nat_lt x n) k ws x.0 x.1) suit words.2

  -- ---- the leaf that was read

  -- with what was read of items
  abbrev leaf_of : ℕ → ℕ → ℕ → List StandingValue → List BufferValue → List CopyValue → LeafValue
  leaf_of reserved code asked ss buffer replies = record v { ways = ways_of n ss; buffer = buffer; slot = slot_of code asked; replies = replies; reservation = reserved_of reserved }

  abbrev leaf_made : ℕ → ℕ → ℕ → List StandingValue → List BufferValue → List CopyValue → ℕ → List ℕ → Result (Read LeafValue) StateRefusal
  leaf_made reserved code asked ss buffer replies k ws = unless_broken ss (leaf_of reserved code asked ss buffer replies) k ws

  abbrev behind_reply_count : ℕ → ℕ → ℕ → List StandingValue → List BufferValue → ℕ → ℕ → List ℕ → Result (Read LeafValue) StateRefusal
  behind_reply_count reserved code asked ss buffer replied k ws = and_then (times (read_copy v.sizes.width (λ x cs. nat_lt x n)) replied [] k ws) (leaf_made reserved code asked ss buffer)

  abbrev behind_buffer : ℕ → ℕ → ℕ → List StandingValue → List BufferValue → ℕ → List ℕ → Result (Read LeafValue) StateRefusal
  behind_buffer reserved code asked ss buffer k ws = and_then (word_to v.sizes.reply_room k ws) (behind_reply_count reserved code asked ss buffer)

  abbrev behind_buffer_count : ℕ → ℕ → ℕ → List StandingValue → ℕ → ℕ → List ℕ → Result (Read LeafValue) StateRefusal
  behind_buffer_count reserved code asked ss buffered k ws = and_then (times (read_buffered n v) buffered [] k ws) (behind_buffer reserved code asked ss)

  abbrev behind_standing : ℕ → ℕ → ℕ → List StandingValue → ℕ → List ℕ → Result (Read LeafValue) StateRefusal
  behind_standing reserved code asked ss k ws = and_then (word_to v.sizes.buffer_room k ws) (behind_buffer_count reserved code asked ss)

  abbrev behind_standing_count : ℕ → ℕ → ℕ → ℕ → ℕ → List ℕ → Result (Read LeafValue) StateRefusal
  behind_standing_count reserved code asked standing k ws = and_then (times (read_standing n v) standing [] k ws) (behind_standing reserved code asked)

  abbrev behind_asked : ℕ → ℕ → ℕ → ℕ → List ℕ → Result (Read LeafValue) StateRefusal
  behind_asked reserved code asked k ws = and_then (word_that any_word k ws) (behind_standing_count reserved code asked)

  abbrev asked_fits : ℕ → ℕ → Bool
  asked_fits code x = if nat_eq code 0 then nat_eq x 0 else nat_lt x n

  abbrev behind_slot : ℕ → ℕ → ℕ → List ℕ → Result (Read LeafValue) StateRefusal
  behind_slot reserved code k ws = and_then (word_that (asked_fits code) k ws) (behind_asked reserved code)

  abbrev behind_reserved : ℕ → ℕ → List ℕ → Result (Read LeafValue) StateRefusal
  behind_reserved reserved k ws = and_then (word_to 2 k ws) (behind_slot reserved)

  -- what its parts were read with
  record PartsRead (reserved code asked : ℕ) (ss : List StandingValue) (buffer : List BufferValue) (replies : List CopyValue) : Type 0 where
    reserves : nat_le reserved n ≡ true
    stand : list_all (standing_fits n v.sizes.way_count) ss ≡ true
    buffered : list_all buffered_fits buffer ≡ true
    buffer_room : length buffer ≤ v.sizes.buffer_room
    replied : list_all (copy_fits n) replies ≡ true
    reply_room : length replies ≤ v.sizes.reply_room
    whole : is_whole_leaf ss (leaf_of reserved code asked ss buffer replies) ≡ true

  -- the number, the sizes, the hart and the count of its instructions stay
  pub record LeafRead (u : LeafValue) : Type 0 where
    pub number : u.number ≡ v.number
    pub sizes : u.sizes ≡ v.sizes
    pub done : u.done ≡ v.done
    pub holds : leaf_holds n u ≡ true

  -- ---- the rules of a leaf

  slot-suits : (kind : TxKind) (o : Option LeafState) → slot_state_fits kind o ≡ true → request_suits kind o ≡ true
  slot-suits ReadTx (Some s) e = e
  slot-suits ReadTx None e = cc
  slot-suits EraseTx (Some s) e = e
  slot-suits EraseTx None e = cc
  slot-suits DataTx o e = cc
  slot-suits ExclusiveTx o e = cc
  slot-suits InjectTx o e = cc
  slot-suits OutTx o e = cc

  slot-fits : (u : LeafValue) (slot : Option RequestValue) → parts.slot_fits u slot ≡ true → slot_suits u slot ≡ true
  slot-fits u None e = refl
  slot-fits u (Some q) e = slot-suits q.kind (state_at q.item u) e

  reserves-below : (w : ℕ) → nat_le w n ≡ true → reserves_below n (reserved_of w) ≡ true
  reserves-below w e =
      elim (nat_eq w 0) as (λ b. nat_eq w 0 ≡ b → reserves_below n (if b then None else Some (w - 1)) ≡ true) [
        | true ↦ λ none. refl
        | false ↦ λ some.
            let most : w ≤ n = leb-true w n e in
            lt-ltb (w - 1) n (grind (arith, nat_tests, some, most))
      ] refl

  module _ (reserved code asked : ℕ) (ss : List StandingValue) (buffer : List BufferValue) (replies : List CopyValue) (p : PartsRead reserved code asked ss buffer replies) where
    abbrev u : LeafValue
    u = leaf_of reserved code asked ss buffer replies

    within : AllWithin n ss
    within = standing-within n v.sizes.way_count ss p.stand

    differ : are_distinct (map standing_item ss ++ map item_of_buffer buffer) ≡ true
    differ = (and_parts (are_distinct (map standing_item ss ++ map item_of_buffer buffer)) _ p.whole).0

    places : places_differ v.sizes.sets ss ≡ true
    places = (and_parts (places_differ v.sizes.sets ss) _ (and_parts (are_distinct (map standing_item ss ++ map item_of_buffer buffer)) _ p.whole).1).0

    last_two : (nat_le (waiting_states (map standing_state ss ++ map buffer_state buffer)) 1 ≡ true) × (parts.slot_fits u u.slot ≡ true)
    last_two = and_parts (nat_le (waiting_states (map standing_state ss ++ map buffer_state buffer)) 1) (parts.slot_fits u u.slot) (and_parts (places_differ v.sizes.sets ss) _ (and_parts (are_distinct (map standing_item ss ++ map item_of_buffer buffer)) _ p.whole).1).1

    buffer-fits : (e : BufferValue) → list_any (nat_eq (item_of_buffer e)) (map item_of_buffer buffer) ≡ true → buffered_fits e ≡ true → buffer_fits n u e ≡ true
    buffer-fits e there fits =
        let own = and_parts (nat_lt e.item n) (words_suit e.state e.words) fits in
        let apart = distinct-apart (map standing_item ss) (map item_of_buffer buffer) e.item differ there in
        let nowhere : way_at e.item (ways_of n ss) ≡ None = not-there n e.item ss within (any-map standing_item e.item ss ∙ apart) in
        both_true own.0 (both_true (ap is_none nowhere) own.1)

    leaf-rule : (nat_lt 0 v.sizes.sets && nat_lt 0 v.sizes.way_count) ≡ true → (q : LeafRule) → leaf_test q n u ≡ true
    leaf-rule some has_ways = some
    leaf-rule some leaf_lists = both_true (eq-eqb (length (ways_of n ss)) n (length-ways n ss)) (both_true (le-leb (length buffer) v.sizes.buffer_room p.buffer_room) (le-leb (length replies) v.sizes.reply_room p.reply_room))
    leaf-rule some ways_fit = ways-fit n v.sizes.way_count ss p.stand
    leaf-rule some ways_alone = ways-alone n v.sizes.sets ss within places u refl refl
    leaf-rule some buffer_fit = each-pass (buffer_fits n u) buffer (each-both (λ e. list_any (nat_eq (item_of_buffer e)) (map item_of_buffer buffer) ≡ true) (λ e. buffered_fits e ≡ true) (λ e. buffer_fits n u e ≡ true) buffer-fits buffer (each-there item_of_buffer buffer) (pass-each buffered_fits buffer p.buffered))
    leaf-rule some buffered_once = distinct-rest (map standing_item ss) (map item_of_buffer buffer) differ
    leaf-rule some one_waiting = waits-alone n ss buffer within (leb-true (waiting_states (map standing_state ss ++ map buffer_state buffer)) 1 last_two.0) u refl refl
    leaf-rule some slot_fits = slot-fits u (slot_of code asked) last_two.1
    leaf-rule some leaf_replies = p.replied
    leaf-rule some reservation_fits = reserves-below reserved p.reserves

    leaf-given : (k : ℕ) (ws : List ℕ) (r : Read LeafValue) → (nat_lt 0 v.sizes.sets && nat_lt 0 v.sizes.way_count) ≡ true → given u k ws ≡ Ok r → LeafRead r.value
    leaf-given k ws r some e = given-so LeafRead u k ws r e (record { number = refl; sizes = refl; done = refl; holds = all-pass (λ q. leaf_test q n u) leaf_rules (leaf-rule some) })

  unless-ok : (reserved code asked : ℕ) (ss : List StandingValue) (buffer : List BufferValue) (replies : List CopyValue) (k : ℕ) (ws : List ℕ) (r : Read LeafValue) → (nat_lt 0 v.sizes.sets && nat_lt 0 v.sizes.way_count) ≡ true
      → (is_whole_leaf ss (leaf_of reserved code asked ss buffer replies) ≡ true → PartsRead reserved code asked ss buffer replies) → leaf_made reserved code asked ss buffer replies k ws ≡ Ok r → LeafRead r.value
  unless-ok reserved code asked ss buffer replies k ws r some p e =
      elim (is_whole_leaf ss (leaf_of reserved code asked ss buffer replies)) as (λ b. is_whole_leaf ss (leaf_of reserved code asked ss buffer replies) ≡ b → (if b then given (leaf_of reserved code asked ss buffer replies) k ws else Err (BrokenLeaf v.number)) ≡ Ok r → LeafRead r.value) [
        | true ↦ λ whole e. leaf-given reserved code asked ss buffer replies (p whole) k ws r some e
        | false ↦ λ whole e. cc
      ] refl e

  none_buffered : AreBuffered 0 []
  none_buffered = record { count = refl; fit = refl }

  -- step by step, from the last one on
  module _ (some : (nat_lt 0 v.sizes.sets && nat_lt 0 v.sizes.way_count) ≡ true) where
    replies-ok : (reserved code asked : ℕ) (ss : List StandingValue) (buffer : List BufferValue) (k : ℕ) (ws : List ℕ) (r : Read LeafValue) → nat_le reserved n ≡ true → Stand ss → list_all buffered_fits buffer ≡ true → length buffer ≤ v.sizes.buffer_room
        → behind_buffer reserved code asked ss buffer k ws ≡ Ok r → LeafRead r.value
    replies-ok reserved code asked ss buffer k ws r reserves stand held room e =
        let replied = and_then-ok (word_to v.sizes.reply_room k ws) (behind_reply_count reserved code asked ss buffer) r e in
        let most : replied.0.value ≤ v.sizes.reply_room = leb-true replied.0.value v.sizes.reply_room (word_that-ok (λ w. nat_le w v.sizes.reply_room) k ws replied.0 replied.1) in
        filled replied.0.value replied.0.at replied.0.rest most replied.2
      where
        filled : (count k : ℕ) (ws : List ℕ) → count ≤ v.sizes.reply_room → behind_reply_count reserved code asked ss buffer count k ws ≡ Ok r → LeafRead r.value
        filled count k ws most e =
            let replies = and_then-ok (times (read_copy v.sizes.width (λ x cs. nat_lt x n)) count [] k ws) (leaf_made reserved code asked ss buffer) r e in
            let copies = times-begun (read_copy v.sizes.width (λ x cs. nat_lt x n)) (AreCopies n) (copies-next n v.sizes.width) count [] k ws replies.0 (no_copies n) replies.1 in
            unless-ok reserved code asked ss buffer replies.0.value replies.0.at replies.0.rest r some (λ whole. record {
              reserves = reserves;
              stand = stand;
              buffered = held;
              buffer_room = room;
              replied = copies.fit;
              reply_room = subst (λ c. c ≤ v.sizes.reply_room) (sym copies.count) most;
              whole = whole;
            }) replies.2

    buffer-ok : (reserved code asked : ℕ) (ss : List StandingValue) (k : ℕ) (ws : List ℕ) (r : Read LeafValue) → nat_le reserved n ≡ true → Stand ss → behind_standing reserved code asked ss k ws ≡ Ok r → LeafRead r.value
    buffer-ok reserved code asked ss k ws r reserves stand e =
        let buffered = and_then-ok (word_to v.sizes.buffer_room k ws) (behind_buffer_count reserved code asked ss) r e in
        let most : buffered.0.value ≤ v.sizes.buffer_room = leb-true buffered.0.value v.sizes.buffer_room (word_that-ok (λ w. nat_le w v.sizes.buffer_room) k ws buffered.0 buffered.1) in
        filled buffered.0.value buffered.0.at buffered.0.rest most buffered.2
      where
        filled : (count k : ℕ) (ws : List ℕ) → count ≤ v.sizes.buffer_room → behind_buffer_count reserved code asked ss count k ws ≡ Ok r → LeafRead r.value
        filled count k ws most e =
            let buffer = and_then-ok (times (read_buffered n v) count [] k ws) (behind_buffer reserved code asked ss) r e in
            let held = times-begun (read_buffered n v) AreBuffered buffered-next count [] k ws buffer.0 none_buffered buffer.1 in
            replies-ok reserved code asked ss buffer.0.value buffer.0.at buffer.0.rest r reserves stand held.fit (subst (λ c. c ≤ v.sizes.buffer_room) (sym held.count) most) buffer.2

    standing-ok : (reserved code asked : ℕ) (k : ℕ) (ws : List ℕ) (r : Read LeafValue) → nat_le reserved n ≡ true → behind_asked reserved code asked k ws ≡ Ok r → LeafRead r.value
    standing-ok reserved code asked k ws r reserves e =
        let count = and_then-ok (word_that any_word k ws) (behind_standing_count reserved code asked) r e in
        filled count.0.value count.0.at count.0.rest count.2
      where
        filled : (count k : ℕ) (ws : List ℕ) → behind_standing_count reserved code asked count k ws ≡ Ok r → LeafRead r.value
        filled count k ws e =
            let ss = and_then-ok (times (read_standing n v) count [] k ws) (behind_standing reserved code asked) r e in
            buffer-ok reserved code asked ss.0.value ss.0.at ss.0.rest r reserves (times-begun (read_standing n v) (λ i. Stand) standing-next count [] k ws ss.0 refl ss.1) ss.2

    pub leaf-ok : (k : ℕ) (ws : List ℕ) (r : Read LeafValue) → read_leaf n v k ws ≡ Ok r → LeafRead r.value
    unfolding read_leaf
    leaf-ok k ws r e =
        let reserved = and_then-ok (word_to n k ws) behind_reserved r e in
        asked reserved.0.value reserved.0.at reserved.0.rest (word_that-ok (λ w. nat_le w n) k ws reserved.0 reserved.1) reserved.2
      where
        asked : (reserved k : ℕ) (ws : List ℕ) → nat_le reserved n ≡ true → behind_reserved reserved k ws ≡ Ok r → LeafRead r.value
        asked reserved k ws reserves e =
            let code = and_then-ok (word_to 2 k ws) (behind_slot reserved) r e in
            let item = and_then-ok (word_that (asked_fits code.0.value) code.0.at code.0.rest) (behind_asked reserved code.0.value) r code.2 in
            standing-ok reserved code.0.value item.0.value item.0.at item.0.rest r reserves item.2
