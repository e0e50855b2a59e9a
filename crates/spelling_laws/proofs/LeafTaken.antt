-- A leaf that is spelled is read again, into one of its number and sizes with its hart.
use Rattle.std.specs.Prelude.{◌≡◌, ℕ, zero, suc, ◌+◌, ◌<◌, ◌≤◌, true, not, nat_eq, nat_lt, nat_le, ◌&&◌, List, [], ◌∷◌, ◌++◌, length, replicate, Option, Some, None, is_none, Ok, Err, refl, if◌then◌else◌}
use Rattle.std.specs.List.{AllByRecursion, flat_map, list_all}
use Rattle.std.proofs.Common.{ap, sym, ◌∙◌, subst, arith}
use Rattle.std.proofs.lemmas.Bool.{ltb-true, lt-ltb, le-leb, and_parts, and_from, not-false}
use Rattle.spelling_laws.specs.DdmTypes.declared.sizes.LeafState.{LeafState}
use Rattle.spelling_laws.specs.TreeModel.State.States.{is_reading}
use Rattle.spelling_laws.specs.TreeModel.State.Lists.{all_from}
use Rattle.spelling_laws.specs.TreeModel.State.Values.{RequestValue, WayValue, BufferValue, LeafValue}
use Rattle.spelling_laws.specs.TreeModel.State.Leaf.{way_at}
use Rattle.spelling_laws.specs.TreeRules.Bus.Own.{are_zero, words_suit, way_fits, buffer_fits, same_if_there, has_way_alone, reserves_below, IsLeafOk, has_ways, leaf_lists, ways_fit, ways_alone, buffer_fit, leaf_replies, reservation_fits}
use Rattle.spelling_laws.specs.StateReading.declared.StateRefusal.TheVariants.{BrokenLeaf}
use Rattle.spelling_laws.specs.StateReading.Reading.{any_word, given, times}
use Rattle.spelling_laws.specs.StateReading.Parts.{most_counted, not_before, way_not_before, last_of, state_of, item_words, read_standing, read_buffered, read_copy, ways_with, unless_broken, slot_of, reserved_of, read_leaf}
use Rattle.spelling_laws.specs.StateWords.Numbers.{state_number, reserved_word, slot_words}
use Rattle.spelling_laws.specs.StateWords.Parts.{StandingValue, counted, standing, standing_words, buffer_words, item_and_words, leaf_words}
use Rattle.value_laws.specs.Values.{AreWords, WayHasForm, BufferHasForm, SlotHasForm, LeafHasForm}
use Rattle.spelling_laws.proofs.Codes.{SlotCoded, none-coded, some-coded, state-fits, state-back, reserved-back}
use Rattle.spelling_laws.proofs.DirTaken.{copies-taken}
use Rattle.spelling_laws.proofs.Grouped.{four-grouped}
use Rattle.spelling_laws.proofs.LeafWhole.{ways-long, slot-inside, leaf-whole}
use Rattle.spelling_laws.proofs.Listed.{implied, onto, place_of, Stands, Ascending, AllBelow, Descending, below-more, set-passes, way-passes, onto-descends, listed-ascend, listed-back, all-from-at}
use Rattle.spelling_laws.proofs.ListsTaken.{item-words-taken}
use Rattle.spelling_laws.proofs.Standing.{ways_of}
use Rattle.spelling_laws.proofs.Steps.{is_to, is_below, is_from_1, spells-as}
use Rattle.spelling_laws.proofs.Taken.{Takes, AllTaken, take, take-part, take-word, taken-all, times-taken}

pub record LeafSpelled (n : ℕ) (v : LeafValue) : Type 0 where
  pub ok : IsLeafOk n v
  pub form : LeafHasForm v.sizes.width most_counted v

pub way-form : (width x : ℕ) (e : WayValue) (ways : List (Option WayValue)) → AllByRecursion (WayHasForm width) ways → way_at x ways ≡ Some e → AreWords width e.words
way-form width x e [] form is = cc
way-form width zero e (o ∷ ways) form is = subst (WayHasForm width) is form.0
way-form width (suc x) e (o ∷ ways) form is = way-form width x e ways form.1 is

way-fit : (way_count x : ℕ) (e : WayValue) (ways : List (Option WayValue)) → list_all (way_fits way_count) ways ≡ true → way_at x ways ≡ Some e → (nat_lt e.way way_count && words_suit e.state e.words) ≡ true
way-fit way_count x e [] fit is = cc
way-fit way_count zero e (o ∷ ways) fit is = subst (λ o. way_fits way_count o ≡ true) is ((and_parts (way_fits way_count o) (list_all (way_fits way_count) ways) fit).0)
way-fit way_count (suc x) e (o ∷ ways) fit is = way-fit way_count x e ways ((and_parts (way_fits way_count o) (list_all (way_fits way_count) ways) fit).1) is

-- the words of an entry in this state, as they are read
state-words-taken : (width : ℕ) (state : LeafState) (words : List ℕ) → length words ≡ width → words_suit state words ≡ true → Takes (item_words (not (is_reading (state_of (state_number state)))) width) words words
state-words-taken width state words size suit =
    item-words-taken (not (is_reading (state_of (state_number state)))) width words size (λ none. implied (is_reading state) (are_zero words) suit (ap is_reading (sym (state-back state)) ∙ not-false _ none))

module _ (n : ℕ) (v : LeafValue) (spelled : LeafSpelled n v) (e : LeafValue) where
  -- what is read into
  abbrev into : LeafValue
  into = record e { number = v.number; sizes = v.sizes; hart = v.hart; done = v.done }

  -- ---- entries in ways

  one-standing : (bound : ℕ) (ss : List StandingValue) (s : StandingValue) → Stands v.sizes.sets v.sizes.way_count v.ways s → bound ≤ place_of v.sizes.sets v.sizes.way_count v.ways s → AllBelow v.sizes.sets v.sizes.way_count v.ways bound ss
      → Takes (read_standing n into ss) (standing_words s) (s ∷ ss)
  one-standing bound ss s stands le below k at ws rest spells =
      let long = ways-long n v spelled.ok in
      let form = way-form v.sizes.width s.item s.entry v.ways spelled.form.ways stands.there in
      let fit = and_parts (nat_lt s.entry.way v.sizes.way_count) (words_suit s.entry.state s.entry.words) (way-fit v.sizes.way_count s.item s.entry v.ways (spelled.ok.each ways_fit) stands.there) in
      take-word (λ x. nat_lt x n && not_before v.sizes.sets x (last_of ss)) k ws _ _ s.item (and_from _ _ (lt-ltb s.item n (omega (arith, stands.inside, long))) (set-passes v.sizes.sets v.sizes.way_count v.ways bound s ss stands le below)) (s.entry.way ∷ state_number s.entry.state ∷ s.entry.words) at rest spells (λ k1 ws1 s1.
      take-word (λ way. nat_lt way v.sizes.way_count && way_not_before v.sizes.sets s.item way (last_of ss)) k1 ws1 _ _ s.entry.way (and_from _ _ fit.0 (way-passes v.sizes.sets v.sizes.way_count v.ways bound s ss stands le below)) (state_number s.entry.state ∷ s.entry.words) at rest s1 (λ k2 ws2 s2.
      take-word (is_from_1 5) k2 ws2 _ _ (state_number s.entry.state) (state-fits s.entry.state) s.entry.words at rest s2 (λ k3 ws3 s3.
      take (item_words (not (is_reading (state_of (state_number s.entry.state)))) v.sizes.width k3 ws3) _ _ (record { value = s.entry.words; at = at; rest = rest })
      (state-words-taken v.sizes.width s.entry.state s.entry.words form.count fit.1 k3 at ws3 rest s3)
      (ap (λ state. Ok (record { value = record { item = s.item; entry = record { way = s.entry.way; state = state; words = s.entry.words } } ∷ ss; at = at; rest = rest })) (state-back s.entry.state)))))

  standing-taken : (least : ℕ) (ss st : List StandingValue) → Ascending v.sizes.sets v.sizes.way_count v.ways least st → AllBelow v.sizes.sets v.sizes.way_count v.ways least ss
      → Takes (times (read_standing n into) (length st) ss) (flat_map standing_words st) (onto ss st)
  unfolding times
  standing-taken least ss [] order below k at ws rest spells = taken-all ss k at ws rest spells
  standing-taken least ss (s ∷ st) order below k at ws rest spells =
      let place = place_of v.sizes.sets v.sizes.way_count v.ways s in
      let next : AllBelow v.sizes.sets v.sizes.way_count v.ways (place + 1) (s ∷ ss) = (order.0, omega arith, below-more v.sizes.sets v.sizes.way_count v.ways least (place + 1) ss (omega (arith, order.1)) below) in
      take-part (read_standing n into ss) k ws (times (read_standing n into) (length st)) _ (standing_words s) (s ∷ ss) (one-standing least ss s order.0 order.1 below) (flat_map standing_words st) at rest spells (λ k1 ws1 s1.
      standing-taken (place + 1) (s ∷ ss) st order.2 next k1 at ws1 rest s1)

  -- ---- the buffer

  buffer-taken : (es bs : List BufferValue) → list_all (buffer_fits n v) bs ≡ true → AllByRecursion (BufferHasForm v.sizes.width) bs → AllTaken buffer_words (read_buffered n into) es bs
  buffer-taken es [] fit form = tt
  buffer-taken es (b ∷ bs) fit form =
      let p = and_parts (buffer_fits n v b) (list_all (buffer_fits n v) bs) fit in
      let q = and_parts (nat_lt b.item n) (is_none (way_at b.item v.ways) && words_suit b.state b.words) p.0 in
      let r = and_parts (is_none (way_at b.item v.ways)) (words_suit b.state b.words) q.1 in (
        (λ k at ws rest spells.
            take-word (is_below n) k ws _ _ b.item q.0 (state_number b.state ∷ b.words) at rest spells (λ k1 ws1 s1.
            take-word (is_from_1 5) k1 ws1 _ _ (state_number b.state) (state-fits b.state) b.words at rest s1 (λ k2 ws2 s2.
            take (item_words (not (is_reading (state_of (state_number b.state)))) v.sizes.width k2 ws2) _ _ (record { value = b.words; at = at; rest = rest })
            (state-words-taken v.sizes.width b.state b.words form.0.count r.1 k2 at ws2 rest s2)
            (ap (λ state. Ok (record { value = es ++ record { item = b.item; state = state; words = b.words } ∷ []; at = at; rest = rest })) (state-back b.state))))),
        buffer-taken (es ++ b ∷ []) bs p.1 form.1,
      )

  -- ---- the slot and the reservation

  slot-coded : (slot : Option RequestValue) → v.slot ≡ slot → SlotHasForm slot → SlotCoded n slot
  slot-coded None is form = none-coded n
  slot-coded (Some r) is form = some-coded n r.kind r.item form (slot-inside n v spelled.ok r is)

  reserved-fits : (o : Option ℕ) → reserves_below n o ≡ true → nat_le (reserved_word o) n ≡ true
  reserved-fits None below = le-leb 0 n (omega arith)
  reserved-fits (Some x) below = let less : x < n = ltb-true x n below in le-leb (x + 1) n (omega (arith, less))

  -- ---- the leaf

  abbrev listed : List StandingValue
  listed = standing v.sizes.sets v.ways v.sizes.way_count

  abbrev ss : List StandingValue
  ss = onto [] listed

  descends : Descending v.sizes.sets v.sizes.way_count v.ways ss
  descends = onto-descends v.sizes.sets v.sizes.way_count v.ways 0 [] listed (listed-ascend v.sizes.sets v.sizes.way_count v.ways) tt tt

  alone : (x : ℕ) (w : WayValue) → x < length v.ways → way_at x v.ways ≡ Some w → (w.way < v.sizes.way_count) × (all_from (same_if_there v.sizes.sets x w.way) 0 v.ways ≡ true)
  alone x w inside is =
      let fit = and_parts (nat_lt w.way v.sizes.way_count) (words_suit w.state w.words) (way-fit v.sizes.way_count x w v.ways (spelled.ok.each ways_fit) is) in
      let own = all-from-at (has_way_alone v) 0 x v.ways None (spelled.ok.each ways_alone) inside in
      let number : 0 + x ≡ x = omega arith in
      let here : has_way_alone v x (way_at x v.ways) ≡ true = subst (λ y. has_way_alone v y (way_at x v.ways) ≡ true) number own in
      (ltb-true w.way v.sizes.way_count fit.0, subst (λ o. has_way_alone v x o ≡ true) is here)

  ways-back : ways_of n ss ≡ v.ways
  ways-back =
      let sets = and_parts (nat_lt 0 v.sizes.sets) (nat_lt 0 v.sizes.way_count) (spelled.ok.each has_ways) in
      subst (λ m. ways_of m ss ≡ v.ways) (ways-long n v spelled.ok) (listed-back v.sizes.sets v.sizes.way_count v.ways (ltb-true 0 v.sizes.sets sets.0) alone)

  framed-taken : Takes (read_leaf n into) (leaf_words v) v
  unfolding read_leaf leaf_words
  framed-taken k at ws rest spells =
      let ok = spelled.ok in
      let form = spelled.form in
      let lists = and_parts (nat_eq (length v.ways) n) _ (ok.each leaf_lists) in
      let rooms = and_parts (nat_le (length v.buffer) v.sizes.buffer_room) (nat_le (length v.replies) v.sizes.reply_room) lists.1 in
      let c = slot-coded v.slot refl form.slot in
      let replies_end = counted item_and_words v.replies in
      let buffer_end = counted buffer_words v.buffer ++ replies_end in
      let standing_end = counted standing_words listed ++ buffer_end in
      take-word (is_to n) k ws _ _ (reserved_word v.reservation) (reserved-fits v.reservation (ok.each reservation_fits)) (c.code ∷ c.asked ∷ standing_end) at rest
      (spells-as (ap (λ l. reserved_word v.reservation ∷ l) (four-grouped (slot_words v.slot) (counted standing_words listed) (counted buffer_words v.buffer) replies_end ∙ ap (λ l. l ++ standing_end) c.words)) spells) (λ k1 ws1 s1.
      take-word (is_to 2) k1 ws1 _ _ c.code c.most (c.asked ∷ standing_end) at rest s1 (λ k2 ws2 s2.
      take-word (λ x. if nat_eq c.code 0 then nat_eq x 0 else nat_lt x n) k2 ws2 _ _ c.asked c.fits standing_end at rest s2 (λ k3 ws3 s3.
      take-word any_word k3 ws3 _ _ (length listed) refl (flat_map standing_words listed ++ buffer_end) at rest s3 (λ k4 ws4 s4.
      take-part (times (read_standing n into) (length listed) []) k4 ws4 _ _ (flat_map standing_words listed) ss (standing-taken 0 [] listed (listed-ascend v.sizes.sets v.sizes.way_count v.ways) tt) buffer_end at rest s4 (λ k5 ws5 s5.
      take-word (is_to v.sizes.buffer_room) k5 ws5 _ _ (length v.buffer) rooms.0 (flat_map buffer_words v.buffer ++ replies_end) at rest s5 (λ k6 ws6 s6.
      take-part (times (read_buffered n into) (length v.buffer) []) k6 ws6 _ _ (flat_map buffer_words v.buffer) v.buffer (times-taken buffer_words (read_buffered n into) [] v.buffer (buffer-taken [] v.buffer (ok.each buffer_fit) form.buffer)) replies_end at rest s6 (λ k7 ws7 s7.
      take-word (is_to v.sizes.reply_room) k7 ws7 _ _ (length v.replies) rooms.1 (flat_map item_and_words v.replies) at rest s7 (λ k8 ws8 s8.
      take (times (read_copy v.sizes.width (λ x cs. nat_lt x n)) (length v.replies) [] k8 ws8) _ _ (record { value = v.replies; at = at; rest = rest })
      (times-taken item_and_words (read_copy v.sizes.width (λ x cs. nat_lt x n)) [] v.replies (copies-taken n v.sizes.width [] v.replies (ok.each leaf_replies) form.replies) k8 at ws8 rest s8)
      (let same : record into { ways = ways_with ss (replicate n None); buffer = v.buffer; slot = slot_of c.code c.asked; replies = v.replies; reservation = reserved_of (reserved_word v.reservation) } ≡ v = rw (ways-back, c.back, reserved-back v.reservation) refl in
      ap (λ w. unless_broken ss w at rest) same ∙ ap (λ b. if b then given v at rest else Err (BrokenLeaf v.number)) (leaf-whole n v ok ss descends))))))))))

  pub leaf-taken : v.number ≡ e.number → v.sizes ≡ e.sizes → Takes (read_leaf n (record e { hart = v.hart; done = v.done })) (leaf_words v) v
  leaf-taken number sizes =
      let same : into ≡ record e { hart = v.hart; done = v.done } = rw (number, sizes) refl in
      subst (λ e. Takes (read_leaf n e) (leaf_words v) v) same framed-taken
