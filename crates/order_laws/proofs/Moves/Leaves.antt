-- The words that a leaf has of an item, after each thing that its bus tells it or takes from it.
use Rattle.std.proofs.Common.{◌≡◌, ◌≢◌, ℕ, ◌<◌, Bool, true, false, List, [], ◌∷◌, ◌++◌, length, Option, Some, None, option_map, refl, sym, ap, subst, ◌∙◌}
use Rattle.order_laws.specs.DdmTypes.declared.sizes.LeafState.{LeafState}
use Rattle.order_laws.specs.TreeModel.State.States.{entry_hold, is_held, state_lost, state_with_data, state_with_exclusive, state_with_inject, state_answered}
use Rattle.order_laws.specs.TreeModel.State.Values.{LeafValue}
use Rattle.order_laws.specs.TreeModel.State.Leaf.{LeafEntry, entry_at, entry_state, leaf_entry, leaf_hold, Fate, stays, ends, becomes, enters, ways_after, buffer_after, words_in, words_of_item, free_way, enters_free, fate_by, fate_by_loss, fate_when_lost, fate_with_data, fate_with_exclusive, fate_answering, fate_with_inject, reply_of, leaf_lose, leaf_take_data, leaf_take_exclusive, leaf_answer, leaf_take_inject, leaf_give_up}
use Rattle.order_laws.specs.TreeRules.Order.Copies.{copies_here, entry_copies}
pub use Rattle.order_laws.specs.Moves.HeldWords.{held_words}
use Rattle.bus_laws.proofs.HartChanges.{entry_with, entry-becomes, entry-becomes_other, entry-enters, entry-enters_other}
use Rattle.bus_laws.proofs.LeafEnds.{entry-ends, entry-ends_other}
use Rattle.bus_laws.proofs.ItemLists.{words-pushed, words-pushed_other}

pub entry_copies-are : (place clock : List ℕ) (o : Option LeafEntry) → entry_copies place clock o ≡ copies_here place clock (held_words o)
entry_copies-are place clock None = refl
entry_copies-are place clock (Some e) = at (is_held (entry_hold (Some e.state))) refl where
  at : (b : Bool) → is_held (entry_hold (Some e.state)) ≡ b → entry_copies place clock (Some e) ≡ copies_here place clock (held_words (Some e))
  at true is = rw is refl
  at false is = rw is refl

-- whether there are some
abbrev holds_words : Option LeafEntry → Bool
holds_words o = is_held (entry_hold (option_map entry_state o))

pub free-words : (x : ℕ) (v : LeafValue) → is_held (leaf_hold x v) ≡ false → held_words (leaf_entry x v) ≡ []
unfolding leaf_hold
free-words x v h = at (leaf_entry x v) refl where
  at : (o : Option LeafEntry) → leaf_entry x v ≡ o → held_words (leaf_entry x v) ≡ []
  at None is = rw is refl
  at (Some e) is =
      let free : is_held (entry_hold (Some e.state)) ≡ false = rw is at h in
      rw (is, free) refl

pub back : {X : Type 0} (xs : List X) → xs ++ [] ≡ xs
back [] = refl
back (y ∷ ys) = ap (λ zs. y ∷ zs) (back ys)

module _ (x : ℕ) (v : LeafValue) where
  abbrev after : Fate → Option LeafEntry
  after f = entry_at x (ways_after x f v.ways) (buffer_after x f v.ways v.buffer)

  after-becomes : (s : LeafState) (w : List ℕ) (e : LeafEntry) → leaf_entry x v ≡ Some e → after (becomes s w) ≡ Some (record { state = s; words = w })
  after-becomes s w e is = entry-becomes x s w v.ways v.buffer ∙ ap (option_map (entry_with s w)) is

  after-ends : after ends ≡ None
  after-ends = entry-ends x v.ways v.buffer

  abbrev width : ℕ
  width = v.sizes.width

  -- ---- told to lose the item: none are left

  lost-state : (s : LeafState) (w : List ℕ) → leaf_entry x v ≡ Some (record { state = s; words = w }) → held_words (after (fate_by_loss width w (state_lost s))) ≡ []
  lost-state LeafState.Shared w is = ap held_words after-ends
  lost-state LeafState.Exclusive w is = ap held_words after-ends
  lost-state LeafState.Waiting w is = ap held_words (after-becomes LeafState.ReadingWaiting (words_in LeafState.ReadingWaiting width w) _ is)
  lost-state LeafState.Reading w is = ap held_words (after-becomes LeafState.Reading (words_in LeafState.Reading width w) _ is)
  lost-state LeafState.ReadingWaiting w is = ap held_words (after-becomes LeafState.ReadingWaiting (words_in LeafState.ReadingWaiting width w) _ is)

  pub lost-words : held_words (leaf_entry x (leaf_lose x v)) ≡ []
  unfolding leaf_lose
  lost-words = at (leaf_entry x v) refl where
    at : (o : Option LeafEntry) → leaf_entry x v ≡ o → held_words (after (fate_when_lost width (leaf_entry x v))) ≡ []
    at None is = rw is (ap held_words is)
    at (Some e) is = subst (λ o. held_words (after (fate_when_lost width o)) ≡ []) (sym is) (lost-state e.state e.words is)

  -- ---- told exclusive, or to answer: the same

  exclusive-state : (s : LeafState) (w : List ℕ) → leaf_entry x v ≡ Some (record { state = s; words = w }) → held_words (after (fate_by width w (state_with_exclusive s))) ≡ held_words (leaf_entry x v)
  exclusive-state LeafState.Shared w is = refl
  exclusive-state LeafState.Exclusive w is = refl
  exclusive-state LeafState.Waiting w is = ap held_words (after-becomes LeafState.Exclusive (words_in LeafState.Exclusive width w) _ is) ∙ sym (ap held_words is)
  exclusive-state LeafState.Reading w is = refl
  exclusive-state LeafState.ReadingWaiting w is = refl

  pub exclusive-words : held_words (leaf_entry x (leaf_take_exclusive x v)) ≡ held_words (leaf_entry x v)
  unfolding leaf_take_exclusive
  exclusive-words = at (leaf_entry x v) refl where
    at : (o : Option LeafEntry) → leaf_entry x v ≡ o → held_words (after (fate_with_exclusive width (leaf_entry x v))) ≡ held_words (leaf_entry x v)
    at None is = subst (λ o. held_words (after (fate_with_exclusive width o)) ≡ held_words (leaf_entry x v)) (sym is) refl
    at (Some e) is = subst (λ o. held_words (after (fate_with_exclusive width o)) ≡ held_words (leaf_entry x v)) (sym is) (exclusive-state e.state e.words is)

  answered-state : (s : LeafState) (w : List ℕ) → leaf_entry x v ≡ Some (record { state = s; words = w }) → held_words (after (fate_by width w (state_answered s))) ≡ held_words (leaf_entry x v)
  answered-state LeafState.Shared w is = ap held_words (after-becomes LeafState.Shared (words_in LeafState.Shared width w) _ is) ∙ sym (ap held_words is)
  answered-state LeafState.Exclusive w is = ap held_words (after-becomes LeafState.Shared (words_in LeafState.Shared width w) _ is) ∙ sym (ap held_words is)
  answered-state LeafState.Waiting w is = ap held_words (after-becomes LeafState.Waiting (words_in LeafState.Waiting width w) _ is) ∙ sym (ap held_words is)
  answered-state LeafState.Reading w is = refl
  answered-state LeafState.ReadingWaiting w is = refl

  pub answered-words : held_words (leaf_entry x (leaf_answer x v)) ≡ held_words (leaf_entry x v)
  unfolding leaf_answer
  answered-words = at (leaf_entry x v) refl where
    at : (o : Option LeafEntry) → leaf_entry x v ≡ o → held_words (after (fate_answering width (leaf_entry x v))) ≡ held_words (leaf_entry x v)
    at None is = subst (λ o. held_words (after (fate_answering width o)) ≡ held_words (leaf_entry x v)) (sym is) refl
    at (Some e) is = subst (λ o. held_words (after (fate_answering width o)) ≡ held_words (leaf_entry x v)) (sym is) (answered-state e.state e.words is)

  -- and the same words go to the replies
  reply-words : (o : Option LeafEntry) → words_of_item x (v.replies ++ reply_of x o) ≡ words_of_item x v.replies ++ held_words o
  reply-words o = by o where
    none : words_of_item x (v.replies ++ []) ≡ words_of_item x v.replies ++ []
    none = ap (words_of_item x) (back v.replies) ∙ sym (back (words_of_item x v.replies))

    state : (s : LeafState) (w : List ℕ) → words_of_item x (v.replies ++ reply_of x (Some (record { state = s; words = w }))) ≡ words_of_item x v.replies ++ held_words (Some (record { state = s; words = w }))
    state LeafState.Shared w = words-pushed x v.replies (record { item = x; words = w }) refl
    state LeafState.Exclusive w = words-pushed x v.replies (record { item = x; words = w }) refl
    state LeafState.Waiting w = words-pushed x v.replies (record { item = x; words = w }) refl
    state LeafState.Reading w = none
    state LeafState.ReadingWaiting w = none

    by : (o : Option LeafEntry) → words_of_item x (v.replies ++ reply_of x o) ≡ words_of_item x v.replies ++ held_words o
    by None = none
    by (Some e) = state e.state e.words

  pub answered-replies : words_of_item x (leaf_answer x v).replies ≡ words_of_item x v.replies ++ held_words (leaf_entry x v)
  unfolding leaf_answer
  answered-replies = reply-words (leaf_entry x v)

  -- ---- told data or inject, where it had none and has some then: those words

  absent-state : (s : LeafState) (w : List ℕ) → leaf_entry x v ≡ Some (record { state = s; words = w }) → is_held (leaf_hold x v) ≡ false → is_held (entry_hold (Some s)) ≡ false
  unfolding leaf_hold
  absent-state s w is h = rw is at h

  module _ (words : List ℕ) (absent : is_held (leaf_hold x v) ≡ false) where
    data-state : (s : LeafState) (w : List ℕ) → leaf_entry x v ≡ Some (record { state = s; words = w }) → is_held (entry_hold (Some s)) ≡ false → held_words (after (fate_by width words (state_with_data s))) ≡ words ∷ []
    data-state LeafState.Shared w is h = cc
    data-state LeafState.Exclusive w is h = cc
    data-state LeafState.Waiting w is h = cc
    data-state LeafState.Reading w is h = ap held_words (after-becomes LeafState.Shared words _ is)
    data-state LeafState.ReadingWaiting w is h = ap held_words (after-becomes LeafState.Waiting words _ is)

    pub data-words : is_held (leaf_hold x (leaf_take_data x words v)) ≡ true → held_words (leaf_entry x (leaf_take_data x words v)) ≡ words ∷ []
    unfolding leaf_take_data leaf_hold
    data-words has = at (leaf_entry x v) refl where
      at : (o : Option LeafEntry) → leaf_entry x v ≡ o → held_words (after (fate_with_data width words (leaf_entry x v))) ≡ words ∷ []
      at None is =
          let told : holds_words (after (fate_with_data width words None)) ≡ true = subst (λ o. holds_words (after (fate_with_data width words o)) ≡ true) is has in
          let now : holds_words None ≡ true = subst (λ o. holds_words o ≡ true) is told in
          cc
      at (Some e) is = subst (λ o. held_words (after (fate_with_data width words o)) ≡ words ∷ []) (sym is) (data-state e.state e.words is (absent-state e.state e.words is absent))

    inject-state : (s : LeafState) (w : List ℕ) → leaf_entry x v ≡ Some (record { state = s; words = w }) → is_held (entry_hold (Some s)) ≡ false → held_words (after (fate_by width words (state_with_inject s))) ≡ words ∷ []
    inject-state LeafState.Shared w is h = cc
    inject-state LeafState.Exclusive w is h = cc
    inject-state LeafState.Waiting w is h = cc
    inject-state LeafState.Reading w is h = ap held_words (after-becomes LeafState.Exclusive words _ is)
    inject-state LeafState.ReadingWaiting w is h = ap held_words (after-becomes LeafState.Exclusive words _ is)

    enters-way : (o : Option ℕ) → x < length v.ways → leaf_entry x v ≡ None → holds_words (after (enters_free LeafState.Exclusive words o)) ≡ true → held_words (after (enters_free LeafState.Exclusive words o)) ≡ words ∷ []
    enters-way None l is has =
        let now : holds_words None ≡ true = subst (λ o. holds_words o ≡ true) is has in
        cc
    enters-way (Some way) l is has = ap held_words (entry-enters x way LeafState.Exclusive words v.ways v.buffer l)

    pub inject-words : x < length v.ways → is_held (leaf_hold x (leaf_take_inject x words v)) ≡ true → held_words (leaf_entry x (leaf_take_inject x words v)) ≡ words ∷ []
    unfolding leaf_take_inject leaf_hold
    inject-words l has = at (leaf_entry x v) refl where
      at : (o : Option LeafEntry) → leaf_entry x v ≡ o → held_words (after (fate_with_inject v.sizes x words v.ways (leaf_entry x v))) ≡ words ∷ []
      at None is = subst (λ o. held_words (after (fate_with_inject v.sizes x words v.ways o)) ≡ words ∷ []) (sym is) (enters-way (free_way v.sizes x v.ways) l is (subst (λ o. holds_words (after (fate_with_inject v.sizes x words v.ways o)) ≡ true) is has))
      at (Some e) is = subst (λ o. held_words (after (fate_with_inject v.sizes x words v.ways o)) ≡ words ∷ []) (sym is) (inject-state e.state e.words is (absent-state e.state e.words is absent))

  -- ---- where it had some they stay

  module _ (words : List ℕ) (held : is_held (leaf_hold x v) ≡ true) where
    held-state : (s : LeafState) (w : List ℕ) → leaf_entry x v ≡ Some (record { state = s; words = w }) → is_held (entry_hold (Some s)) ≡ true
    unfolding leaf_hold
    held-state s w is = rw is at held

    data-stays : (s : LeafState) → is_held (entry_hold (Some s)) ≡ true → after (fate_by width words (state_with_data s)) ≡ leaf_entry x v
    data-stays LeafState.Shared h = refl
    data-stays LeafState.Exclusive h = refl
    data-stays LeafState.Waiting h = refl
    data-stays LeafState.Reading h = cc
    data-stays LeafState.ReadingWaiting h = cc

    pub data-held : leaf_entry x (leaf_take_data x words v) ≡ leaf_entry x v
    unfolding leaf_take_data
    data-held = at (leaf_entry x v) refl where
      at : (o : Option LeafEntry) → leaf_entry x v ≡ o → after (fate_with_data width words (leaf_entry x v)) ≡ leaf_entry x v
      at None is = subst (λ o. after (fate_with_data width words o) ≡ leaf_entry x v) (sym is) refl
      at (Some e) is = subst (λ o. after (fate_with_data width words o) ≡ leaf_entry x v) (sym is) (data-stays e.state (held-state e.state e.words is))

    inject-stays : (s : LeafState) → is_held (entry_hold (Some s)) ≡ true → after (fate_by width words (state_with_inject s)) ≡ leaf_entry x v
    inject-stays LeafState.Shared h = refl
    inject-stays LeafState.Exclusive h = refl
    inject-stays LeafState.Waiting h = refl
    inject-stays LeafState.Reading h = cc
    inject-stays LeafState.ReadingWaiting h = cc

    none-held : leaf_entry x v ≡ None → ⊥
    unfolding leaf_hold
    none-held is = let wrong : false ≡ true = rw is at held in cc

    pub inject-held : leaf_entry x (leaf_take_inject x words v) ≡ leaf_entry x v
    unfolding leaf_take_inject
    inject-held = at (leaf_entry x v) refl where
      at : (o : Option LeafEntry) → leaf_entry x v ≡ o → after (fate_with_inject v.sizes x words v.ways (leaf_entry x v)) ≡ leaf_entry x v
      at None is = absurd (none-held is)
      at (Some e) is = subst (λ o. after (fate_with_inject v.sizes x words v.ways o) ≡ leaf_entry x v) (sym is) (inject-stays e.state (held-state e.state e.words is))

  -- ---- the copy leaves

  pub gone-words : held_words (leaf_entry x (leaf_give_up x v)) ≡ []
  gone-words = ap held_words after-ends

  -- ---- another item's entry stays

  module _ (y : ℕ) (ne : y ≢ x) where
    other-fate : (f : Fate) → entry_at y (ways_after x f v.ways) (buffer_after x f v.ways v.buffer) ≡ leaf_entry y v
    other-fate stays = refl
    other-fate ends = entry-ends_other x v.ways v.buffer y ne
    other-fate (becomes s w) = entry-becomes_other x s w v.ways v.buffer y ne
    other-fate (enters way s w) = entry-enters_other x way s w v.ways v.buffer y ne

    pub lost-other : leaf_entry y (leaf_lose x v) ≡ leaf_entry y v
    unfolding leaf_lose
    lost-other = other-fate (fate_when_lost width (leaf_entry x v))

    pub data-other : (words : List ℕ) → leaf_entry y (leaf_take_data x words v) ≡ leaf_entry y v
    unfolding leaf_take_data
    data-other words = other-fate (fate_with_data width words (leaf_entry x v))

    pub exclusive-other : leaf_entry y (leaf_take_exclusive x v) ≡ leaf_entry y v
    unfolding leaf_take_exclusive
    exclusive-other = other-fate (fate_with_exclusive width (leaf_entry x v))

    pub answered-other : leaf_entry y (leaf_answer x v) ≡ leaf_entry y v
    unfolding leaf_answer
    answered-other = other-fate (fate_answering width (leaf_entry x v))

    pub inject-other : (words : List ℕ) → leaf_entry y (leaf_take_inject x words v) ≡ leaf_entry y v
    unfolding leaf_take_inject
    inject-other words = other-fate (fate_with_inject v.sizes x words v.ways (leaf_entry x v))

    pub gone-other : leaf_entry y (leaf_give_up x v) ≡ leaf_entry y v
    gone-other = other-fate ends

    reply-other : (o : Option LeafEntry) → words_of_item y (v.replies ++ reply_of x o) ≡ words_of_item y v.replies
    reply-other None = ap (words_of_item y) (back v.replies)
    reply-other (Some e) = state e.state e.words where
      state : (s : LeafState) (w : List ℕ) → words_of_item y (v.replies ++ reply_of x (Some (record { state = s; words = w }))) ≡ words_of_item y v.replies
      state LeafState.Shared w = words-pushed_other y v.replies _ ne
      state LeafState.Exclusive w = words-pushed_other y v.replies _ ne
      state LeafState.Waiting w = words-pushed_other y v.replies _ ne
      state LeafState.Reading w = ap (words_of_item y) (back v.replies)
      state LeafState.ReadingWaiting w = ap (words_of_item y) (back v.replies)

    pub answered-replies_other : words_of_item y (leaf_answer x v).replies ≡ words_of_item y v.replies
    unfolding leaf_answer
    answered-replies_other = reply-other (leaf_entry x v)
