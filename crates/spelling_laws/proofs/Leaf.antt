-- What is read of a leaf is what is spelled of it.
use Rattle.std.specs.Prelude.{◌≡◌, ℕ, zero, suc, ◌+◌, ◌<◌, true, false, not, nat_eq, nat_lt, ◌&&◌, List, [], ◌∷◌, ◌++◌, length, map, replicate, None, Ok, Err, refl, if◌then◌else◌}
use Rattle.std.specs.List.{flat_map, list_any}
use Rattle.std.proofs.Common.{ap, sym, ◌∙◌, subst, arith, append-nil, append_assoc, length-append}
use Rattle.std.proofs.lemmas.Bool.{and_parts, and_from, or_parts, not-true, not_from_false, ltb-true}
use Rattle.std.proofs.lemmas.List.Concat.{flat_map-append}
use Rattle.spelling_laws.specs.TreeModel.State.States.{is_reading}
use Rattle.spelling_laws.specs.TreeModel.State.Shape.{are_distinct}
use Rattle.spelling_laws.specs.TreeModel.State.Values.{BufferValue, LeafValue}
use Rattle.spelling_laws.specs.StateReading.declared.StateRefusal.TheVariants.{BrokenLeaf}
use Rattle.spelling_laws.specs.StateReading.Reading.{Read, any_word, given, times}
use Rattle.spelling_laws.specs.StateReading.Parts.{not_before, way_not_before, last_of, state_of, item_words, read_standing, read_buffered, read_copy, ways_with, standing_item, item_of_buffer, places_differ, is_whole_leaf, unless_broken, slot_of, reserved_of, read_leaf}
use Rattle.spelling_laws.specs.StateWords.Parts.{StandingValue, counted, standing, standing_words, buffer_words, item_and_words, leaf_words}
use Rattle.spelling_laws.specs.Spells.{Spells}
use Rattle.spelling_laws.proofs.Numbers.{state-spelled, slot-spelled, reserved-spelled}
use Rattle.spelling_laws.proofs.Lists.{item-words-read, copy-read}
use Rattle.spelling_laws.proofs.Standing.{backwards, InOrder, all-placed, standing-listed}
use Rattle.spelling_laws.proofs.Steps.{Added, is_to, is_below, is_from_1, step, word-step, listed-read, ended, spells-none, spells-both, spells-as}

-- ---- entries in ways

module _ (n : ℕ) (v : LeafValue) where
  pub record StandingRead (steps : ℕ) (ss : List StandingValue) (k : ℕ) (ws : List ℕ) (q : Read (List StandingValue)) : Type 0 where
    pub words : List ℕ
    pub spells : Spells k ws words q.at q.rest
    pub listed : flat_map standing_words (backwards q.value) ≡ flat_map standing_words (backwards ss) ++ words
    pub many : length q.value ≡ length ss + steps
    pub order : InOrder v.sizes.sets n v.sizes.way_count q.value

  standing-read : (ss : List StandingValue) (k : ℕ) (ws : List ℕ) (q : Read (List StandingValue)) → InOrder v.sizes.sets n v.sizes.way_count ss → read_standing n v ss k ws ≡ Ok q → StandingRead 1 ss k ws q
  standing-read ss k ws q order e =
      word-step (λ x. nat_lt x n && not_before v.sizes.sets x (last_of ss)) k ws _ q e (λ x k1 ws1 w1 p1 e.
      word-step (λ way. nat_lt way v.sizes.way_count && way_not_before v.sizes.sets x way (last_of ss)) k1 ws1 _ q e (λ way k2 ws2 w2 p2 e.
      word-step (is_from_1 5) k2 ws2 _ q e (λ code k3 ws3 w3 p3 e.
      step (item_words (not (is_reading (state_of code))) v.sizes.width k3 ws3) _ q e (λ words is e.
      let s : StandingValue = record { item = x; entry = record { way = way; state = state_of code; words = words.value } } in
      let x_fits = and_parts (nat_lt x n) (not_before v.sizes.sets x (last_of ss)) p1 in
      let way_fits = and_parts (nat_lt way v.sizes.way_count) (way_not_before v.sizes.sets x way (last_of ss)) p2 in
      ended (StandingRead 1 ss k ws) (record { value = s ∷ ss; at = words.at; rest = words.rest }) q
      (record {
        words = standing_words s;
        spells = spells-as (ap (λ c. x ∷ way ∷ c ∷ words.value) (state-spelled code p3)) (spells-both w1 (spells-both w2 (spells-both w3 (item-words-read (not (is_reading (state_of code))) v.sizes.width k3 ws3 words is))));
        listed = flat_map-append standing_words (backwards ss) (s ∷ []) ∙ ap (λ l. flat_map standing_words (backwards ss) ++ l) (append-nil (standing_words s));
        many = omega arith;
        order = (record { inside = ltb-true x n x_fits.0; way = ltb-true way v.sizes.way_count way_fits.0; set_fits = x_fits.1; way_fits = way_fits.1 }, order);
      }) e))))

  standing-times : (steps : ℕ) (ss : List StandingValue) (k : ℕ) (ws : List ℕ) (q : Read (List StandingValue)) → InOrder v.sizes.sets n v.sizes.way_count ss → times (read_standing n v) steps ss k ws ≡ Ok q → StandingRead steps ss k ws q
  unfolding times
  standing-times zero ss k ws q order e =
      ended (StandingRead zero ss k ws) (record { value = ss; at = k; rest = ws }) q
      (record { words = []; spells = spells-none k ws; listed = sym (append-nil (flat_map standing_words (backwards ss))); many = omega arith; order = order }) e
  standing-times (suc steps) ss k ws q order e =
      step (read_standing n v ss k ws) _ q e (λ one is e.
      let a = standing-read ss k ws one order is in
      let b = standing-times steps one.value one.at one.rest q a.order e in record {
        words = a.words ++ b.words;
        spells = spells-both a.spells b.spells;
        listed = b.listed ∙ ap (λ l. l ++ b.words) a.listed ∙ append_assoc (flat_map standing_words (backwards ss)) a.words b.words;
        many = omega (arith, a.many, b.many);
        order = b.order;
      })

  buffered-read : (es : List BufferValue) (k : ℕ) (ws : List ℕ) (q : Read (List BufferValue)) → read_buffered n v es k ws ≡ Ok q → Added buffer_words es k ws q
  buffered-read es k ws q e =
      word-step (is_below n) k ws _ q e (λ x k1 ws1 w1 p1 e.
      word-step (is_from_1 5) k1 ws1 _ q e (λ code k2 ws2 w2 p2 e.
      step (item_words (not (is_reading (state_of code))) v.sizes.width k2 ws2) _ q e (λ words is e.
      let entry : BufferValue = record { item = x; state = state_of code; words = words.value } in
      ended (Added buffer_words es k ws) (record { value = es ++ entry ∷ []; at = words.at; rest = words.rest }) q
      (record {
        entry = entry;
        value = refl;
        spells = spells-as (ap (λ c. x ∷ c ∷ words.value) (state-spelled code p2)) (spells-both w1 (spells-both w2 (item-words-read (not (is_reading (state_of code))) v.sizes.width k2 ws2 words is)));
      }) e)))

-- ---- what was looked at last

backwards-many : (ss : List StandingValue) → length (backwards ss) ≡ length ss
backwards-many [] = refl
backwards-many (s ∷ ss) = omega (arith, backwards-many ss, length-append (backwards ss) (s ∷ []))

any-front : (x : ℕ) (a b : List ℕ) → list_any (nat_eq x) (a ++ b) ≡ false → list_any (nat_eq x) a ≡ false
any-front x [] b e = refl
any-front x (y ∷ a) b e =
    let o = or_parts (nat_eq x y) (list_any (nat_eq x) (a ++ b)) e in
    let first : nat_eq x y ≡ false = o.0 in
    rw first (any-front x a b o.1)

front-differs : (a b : List ℕ) → are_distinct (a ++ b) ≡ true → are_distinct a ≡ true
front-differs [] b e = refl
front-differs (x ∷ a) b e =
    let p = and_parts (not (list_any (nat_eq x) (a ++ b))) (are_distinct (a ++ b)) e in
    and_from _ _ (not_from_false _ (any-front x a b (not-true _ p.0))) (front-differs a b p.1)

record WholeLeaf (ss : List StandingValue) (v : LeafValue) (q : Read LeafValue) (k : ℕ) (ws : List ℕ) : Type 0 where
  value : record { value = v; at = k; rest = ws } ≡ q
  items : are_distinct (map standing_item ss) ≡ true
  places : places_differ v.sizes.sets ss ≡ true

whole-read : (ss : List StandingValue) (v : LeafValue) (k : ℕ) (ws : List ℕ) (q : Read LeafValue) → unless_broken ss v k ws ≡ Ok q → WholeLeaf ss v q k ws
whole-read ss v k ws q e =
    elim (is_whole_leaf ss v) as (λ b. is_whole_leaf ss v ≡ b → (if b then given v k ws else Err (BrokenLeaf v.number)) ≡ Ok q → WholeLeaf ss v q k ws) [
      | true ↦ λ whole e.
          let p = and_parts (are_distinct (map standing_item ss ++ map item_of_buffer v.buffer)) _ whole in
          let r = and_parts (places_differ v.sizes.sets ss) _ p.1 in
          record { value = (cc); items = front-differs (map standing_item ss) (map item_of_buffer v.buffer) p.0; places = r.0 }
      | false ↦ λ whole e. cc
    ] refl e

-- ---- the leaf

pub record LeafRead (v : LeafValue) (k : ℕ) (ws : List ℕ) (q : Read LeafValue) : Type 0 where
  pub spells : Spells k ws (leaf_words q.value) q.at q.rest
  pub number : q.value.number ≡ v.number
  pub sizes : q.value.sizes ≡ v.sizes
  pub hart : q.value.hart ≡ v.hart
  pub done : q.value.done ≡ v.done

pub leaf-read : (n : ℕ) (v : LeafValue) (k : ℕ) (ws : List ℕ) (q : Read LeafValue) → 0 < v.sizes.sets → read_leaf n v k ws ≡ Ok q → LeafRead v k ws q
unfolding read_leaf leaf_words
leaf-read n v k ws q some_sets e =
    word-step (is_to n) k ws _ q e (λ reserved k1 ws1 w1 p1 e.
    word-step (is_to 2) k1 ws1 _ q e (λ code k2 ws2 w2 p2 e.
    word-step (λ x. if nat_eq code 0 then nat_eq x 0 else nat_lt x n) k2 ws2 _ q e (λ asked k3 ws3 w3 p3 e.
    word-step any_word k3 ws3 _ q e (λ many k4 ws4 w4 p4 e.
    step (times (read_standing n v) many [] k4 ws4) _ q e (λ ss is_standing e.
    word-step (is_to v.sizes.buffer_room) ss.at ss.rest _ q e (λ buffered k6 ws6 w6 p6 e.
    step (times (read_buffered n v) buffered [] k6 ws6) _ q e (λ buffer is_buffer e.
    word-step (is_to v.sizes.reply_room) buffer.at buffer.rest _ q e (λ replied k8 ws8 w8 p8 e.
    step (times (read_copy v.sizes.width (λ x cs. nat_lt x n)) replied [] k8 ws8) _ q e (λ replies is_replies e.
    let w : LeafValue = record v { ways = ways_with ss.value (replicate n None); buffer = buffer.value; slot = slot_of code asked; replies = replies.value; reservation = reserved_of reserved } in
    let whole = whole-read ss.value w replies.at replies.rest q e in
    let s = standing-times n v many [] k4 ws4 ss tt is_standing in
    let b = listed-read buffer_words (read_buffered n v) (buffered-read n v) buffered k6 ws6 buffer is_buffer in
    let r = listed-read item_and_words (read_copy v.sizes.width (λ x cs. nat_lt x n)) (copy-read v.sizes.width (λ x cs. nat_lt x n)) replied k8 ws8 replies is_replies in
    let all = all-placed v.sizes.sets n v.sizes.way_count ss.value s.order whole.items whole.places in
    let list = standing-listed v.sizes.sets n v.sizes.way_count some_sets ss.value all in
    let count : many ≡ length (backwards ss.value) = omega (arith, s.many, backwards-many ss.value) in
    let standing_are : many ∷ s.words ≡ counted standing_words (standing v.sizes.sets w.ways v.sizes.way_count) =
    ap (λ c. c ∷ s.words) count ∙ ap (λ l. length (backwards ss.value) ∷ l) (sym s.listed) ∙ ap (counted standing_words) (sym list) in
    subst (LeafRead v k ws) whole.value (record {
      spells =
          spells-both (spells-as (ap (λ r. r ∷ []) (reserved-spelled reserved)) w1)
          (spells-both (spells-both (spells-both (spells-as (slot-spelled n code asked p2 p3) (spells-both w2 w3))
          (spells-as standing_are (spells-both w4 s.spells)))
          (spells-as (ap (λ c. c ∷ flat_map buffer_words buffer.value) (sym b.0)) (spells-both w6 b.1)))
          (spells-as (ap (λ c. c ∷ flat_map item_and_words replies.value) (sym r.0)) (spells-both w8 r.1)));
      number = refl;
      sizes = refl;
      hart = refl;
      done = refl;
    }))))))))))
