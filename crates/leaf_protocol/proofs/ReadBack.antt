-- One entry read as a step of many, and the words of one that waits for data.
use Rattle.std.proofs.Common.{◌≡◌, ℕ, zero, suc, ◌+◌, ◌-◌, ◌<◌, ◌≤◌, Bool, true, false, cond, not, ◌&&◌, ◌||◌, nat_eq, nat_le, nat_lt, List, [], ◌∷◌, ◌++◌, length, map, drop, Option, Some, None, refl, sym, subst, ap, ap₂, ◌∙◌}
use Rattle.std.specs.Prelude.{replicate, option_map, if◌then◌else◌, Result, Ok, Err}
use Rattle.std.proofs.lemmas.Bool.{eqb-true}
use Rattle.std.proofs.lemmas.List.{length-replicate}
use Rattle.leaf_protocol.specs.DdmTypes.declared.answers.TxKind.{TxKind}
use Rattle.leaf_protocol.specs.DdmTypes.declared.sizes.LeafState.{LeafState}
use Rattle.rv_hart.specs.HartState.{HartState}
use Rattle.leaf_protocol.specs.TreeModel.State.States.{is_reading}
use Rattle.leaf_protocol.specs.TreeModel.State.Shape.{are_distinct}
use Rattle.leaf_protocol.specs.TreeModel.State.Values.{BufferValue, CopyValue, LeafValue}
use Rattle.leaf_protocol.specs.TreeModel.State.Leaf.{words_in}
use Rattle.leaf_protocol.specs.StateWords.Parts.{StandingValue}
use Rattle.leaf_protocol.specs.StateReading.declared.StateRefusal.{StateRefusal}
use Rattle.leaf_protocol.specs.StateReading.declared.StateRefusal.TheVariants.{BadWord, BrokenLeaf}
use Rattle.leaf_protocol.specs.StateReading.Reading.{Read, and_then, given, times, word_that, any_word, words_that}
use Rattle.leaf_protocol.specs.StateReading.Parts.{not_before, way_not_before, word_to, word_below, word_from_1, item_words, state_of, slot_of, reserved_of, ways_with, last_of, read_standing, read_buffered, read_copy, read_leaf, standing_item, item_of_buffer, standing_state, buffer_state, places_differ, waiting_states, slot_fits, is_whole_leaf, unless_broken}
use Rattle.leaf_protocol.proofs.StateReading.Steps.{times_begun, times_went_on, times_refused, times_done}
use Rattle.tx_queue.specs.QueueList.{QueueList}
use Rattle.leaf_protocol.specs.Entries.{EntriesValue}
use Rattle.leaf_protocol.specs.Leaf.{copy_value, leaf_of, request_value}
use Rattle.leaf_protocol.specs.ReadBack.{AreThere, BufferRead, EntriesRead, IsSized, StandingRead, are_together, bare, entries_read, entry_read, buffered_read}
use Rattle.leaf_protocol.proofs.Together.{none-there}

module _ {A B C : Type 0} where
  chained : (r : Result (Read A) StateRefusal) (f : A → ℕ → List ℕ → Result (Read C) StateRefusal) (h : A → ℕ → List ℕ → Result (Read B) StateRefusal) (g : B → ℕ → List ℕ → Result (Read C) StateRefusal)
      → ((a : A) (k : ℕ) (ws : List ℕ) → f a k ws ≡ and_then (h a k ws) g) → and_then r f ≡ and_then (and_then r h) g
  chained (Ok r) f h g each = each r.value r.at r.rest
  chained (Err e) f h g each = refl

-- an entry more in ways
pub standing-read : (n way_count width sets : ℕ) (ss : List StandingValue) (k : ℕ) (ws : List ℕ)
    → read_standing n (bare way_count width sets) ss k ws ≡ and_then (entry_read n sets way_count width (last_of ss) k ws) (λ s k ws. given (s ∷ ss) k ws)
standing-read n way_count width sets ss k ws =
    chained (word_that (λ x. nat_lt x n && not_before sets x (last_of ss)) k ws) _ _ (λ s k ws. given (s ∷ ss) k ws) (λ x k ws.
    chained (word_that (λ way. nat_lt way way_count && way_not_before sets x way (last_of ss)) k ws) _ _ (λ s k ws. given (s ∷ ss) k ws) (λ way k ws.
    chained (word_from_1 5 k ws) _ _ (λ s k ws. given (s ∷ ss) k ws) (λ code k ws.
    chained (item_words (not (is_reading (state_of code))) width k ws) _ _ (λ s k ws. given (s ∷ ss) k ws) (λ words k ws. refl))))

-- an entry more in the buffer
pub buffered-read : (n way_count width sets : ℕ) (bs : List BufferValue) (k : ℕ) (ws : List ℕ)
    → read_buffered n (bare way_count width sets) bs k ws ≡ and_then (buffered_read n width k ws) (λ b k ws. given (bs ++ b ∷ []) k ws)
buffered-read n way_count width sets bs k ws =
    chained (word_below n k ws) _ _ (λ b k ws. given (bs ++ b ∷ []) k ws) (λ x k ws.
    chained (word_from_1 5 k ws) _ _ (λ b k ws. given (bs ++ b ∷ []) k ws) (λ code k ws.
    chained (item_words (not (is_reading (state_of code))) width k ws) _ _ (λ b k ws. given (bs ++ b ∷ []) k ws) (λ words k ws. refl)))

-- ---- words that are all 0

abbrev value_of : Result (Read (List ℕ)) StateRefusal → List ℕ
value_of (Ok r) = r.value
value_of (Err e) = []

zeros : (n k : ℕ) (ws words : List ℕ) (at : ℕ) (rest : List ℕ) → words_that (λ w. false || nat_eq w 0) n k ws ≡ Ok (record { value = words; at = at; rest = rest }) → words ≡ replicate n 0
unfolding words_that
zeros zero k ws words at rest is = sym (ap value_of is)
zeros (suc n) k [] words at rest is = absurd cc
zeros (suc n) k (w ∷ ws) words at rest is =
    elim (nat_eq w 0) as (λ b. nat_eq w 0 ≡ b → and_then (cond b (given w (k + 1) ws) (Err (BadWord k))) (λ w k ws. and_then (words_that (λ w. false || nat_eq w 0) n k ws) (λ more k ws. given (w ∷ more) k ws)) ≡ Ok (record { value = words; at = at; rest = rest }) → words ≡ 0 ∷ replicate n 0) [
      | true ↦ λ zero_here go. later (words_that (λ w. false || nat_eq w 0) n (k + 1) ws) (zeros n (k + 1) ws) (eqb-true w 0 zero_here) go
      | false ↦ λ other go. absurd cc
    ] refl is
  where
    later : (r : Result (Read (List ℕ)) StateRefusal) → ((more : List ℕ) (at : ℕ) (rest : List ℕ) → r ≡ Ok (record { value = more; at = at; rest = rest }) → more ≡ replicate n 0) → w ≡ 0
        → and_then r (λ more k ws. given (w ∷ more) k ws) ≡ Ok (record { value = words; at = at; rest = rest }) → words ≡ 0 ∷ replicate n 0
    later (Ok r) each here go =
        let all : r.value ≡ replicate n 0 = each r.value r.at r.rest refl in
        sym (ap value_of go) ∙ ap₂ (λ v vs. v ∷ vs) here all
    later (Err e) each here go = absurd cc

-- the words that were read of an entry suit its state
pub suiting : (s : LeafState) (width k : ℕ) (ws words : List ℕ) (at : ℕ) (rest : List ℕ) → item_words (not (is_reading s)) width k ws ≡ Ok (record { value = words; at = at; rest = rest }) → words ≡ words_in s width words
suiting LeafState.Shared width k ws words at rest is = refl
suiting LeafState.Exclusive width k ws words at rest is = refl
suiting LeafState.Waiting width k ws words at rest is = refl
suiting LeafState.Reading width k ws words at rest is = zeros width k ws words at rest is
suiting LeafState.ReadingWaiting width k ws words at rest is = zeros width k ws words at rest is

-- ---- entries one by one

-- one entry more where there are as many items and sets as in these entries: in a way, and in the buffer
abbrev pub standing_of : ℕ → ℕ → EntriesValue → List StandingValue → ℕ → List ℕ → Result (Read (List StandingValue)) StateRefusal
standing_of way_count width e = read_standing (length e.ways) (bare way_count width e.sets)

abbrev pub buffered_of : ℕ → ℕ → EntriesValue → List BufferValue → ℕ → List ℕ → Result (Read (List BufferValue)) StateRefusal
buffered_of way_count width e = read_buffered (length e.ways) (bare way_count width e.sets)

-- so many entries in ways were read since `start`, from word `first` on
pub record StandingSoFar (way_count width : ℕ) (words : List ℕ) (start : EntriesValue) (count first done at : ℕ) (e : EntriesValue) (last : Option StandingValue) (whole : Bool) : Type 0 where
  pub entries : List StandingValue
  pub left : times (standing_of way_count width start) count [] first (drop first words) ≡ times (standing_of way_count width start) (count - done) entries at (drop at words)
  pub newest : last ≡ last_of entries
  pub there : AreThere (length start.ways) entries [] e whole
  pub sizes : IsSized start e

pub sized-same : (e : EntriesValue) → IsSized e e
sized-same e = record { sets = refl; room = refl; items = refl }

pub sized-on : {e f g : EntriesValue} → IsSized e f → IsSized f g → IsSized e g
sized-on one two = record { sets = two.sets ∙ one.sets; room = two.room ∙ one.room; items = two.items ∙ one.items }

module _ (way_count width : ℕ) (words : List ℕ) (start : EntriesValue) (count first : ℕ) where
  pub standing-begun : (e : EntriesValue) → e ≡ record start { ways = replicate (length start.ways) None; buffer = [] } → StandingSoFar way_count width words start count first 0 first e None true
  standing-begun e is = record {
    entries = [];
    left = times_begun (standing_of way_count width start) count [] first (drop first words);
    newest = refl;
    there = rw is (none-there (length start.ways) (record start { ways = replicate (length start.ways) None; buffer = [] }) refl refl);
    sizes = rw is (record { sets = refl; room = refl; items = length-replicate (length start.ways) None });
  }

  module _ {done at : ℕ} {e : EntriesValue} {last : Option StandingValue} {whole : Bool} (before : StandingSoFar way_count width words start count first done at e last whole) (more : done < count) where
    -- the step is that of the start
    step-here : (ss : List StandingValue) → standing_of way_count width e ss at (drop at words) ≡ standing_of way_count width start ss at (drop at words)
    step-here ss = ap₂ (λ n sets. read_standing n (bare way_count width sets) ss at (drop at words)) before.sizes.items before.sizes.sets

    pub standing-more : (s : StandingValue) (now : Bool) (f : EntriesValue) (next : ℕ)
        → ((ss : List StandingValue) → last ≡ last_of ss → standing_of way_count width e ss at (drop at words) ≡ Ok (record { value = s ∷ ss; at = next; rest = drop next words }))
        → ((ss : List StandingValue) → AreThere (length e.ways) ss [] e whole → AreThere (length e.ways) (s ∷ ss) [] f now) → IsSized e f
        → StandingSoFar way_count width words start count first (done + 1) next f (Some s) now
    standing-more s now f next read there sizes = record {
      entries = s ∷ before.entries;
      left = before.left ∙ times_went_on (standing_of way_count width start) count done before.entries at (drop at words) (s ∷ before.entries) next (drop next words) more (sym (step-here before.entries) ∙ read before.entries before.newest);
      newest = refl;
      there = let P : ℕ → Type 0 = λ n. AreThere n before.entries [] e whole → AreThere n (s ∷ before.entries) [] f now in subst P before.sizes.items (there before.entries) before.there;
      sizes = sized-on before.sizes sizes;
    }

    pub standing-refused : (r : StateRefusal) → ((ss : List StandingValue) → last ≡ last_of ss → standing_of way_count width e ss at (drop at words) ≡ Err r)
        → times (standing_of way_count width start) count [] first (drop first words) ≡ Err r
    standing-refused r refused =
        before.left ∙ times_refused (standing_of way_count width start) count done before.entries at (drop at words) r more (sym (step-here before.entries) ∙ refused before.entries before.newest)

  pub standing-done : {done at : ℕ} {e : EntriesValue} {last : Option StandingValue} {whole : Bool} → StandingSoFar way_count width words start count first done at e last whole → count ≤ done
      → StandingRead (length start.ways) (times (standing_of way_count width start) count [] first (drop first words)) words at e whole
  standing-done {done} {at} before all = record {
    entries = before.entries;
    is = before.left ∙ times_done (standing_of way_count width start) count done before.entries at (drop at words) all;
    there = before.there;
  }

-- so many entries in the buffer were read since `start`, from word `first` on, behind these in ways
pub record BufferedSoFar (way_count width : ℕ) (words : List ℕ) (start : EntriesValue) (ss : List StandingValue) (count first done at : ℕ) (e : EntriesValue) (whole : Bool) : Type 0 where
  pub entries : List BufferValue
  pub left : times (buffered_of way_count width start) count [] first (drop first words) ≡ times (buffered_of way_count width start) (count - done) entries at (drop at words)
  pub there : AreThere (length start.ways) ss entries e whole

module _ (way_count width : ℕ) (words : List ℕ) (start : EntriesValue) (ss : List StandingValue) (count first : ℕ) where
  pub buffered-begun : {whole : Bool} → AreThere (length start.ways) ss [] start whole → BufferedSoFar way_count width words start ss count first 0 first start whole
  buffered-begun there = record { entries = []; left = times_begun (buffered_of way_count width start) count [] first (drop first words); there = there }

  module _ {done at : ℕ} {e : EntriesValue} {whole : Bool} (before : BufferedSoFar way_count width words start ss count first done at e whole) (sizes : IsSized start e) (more : done < count) where
    buffer-step : (bs : List BufferValue) → buffered_of way_count width e bs at (drop at words) ≡ buffered_of way_count width start bs at (drop at words)
    buffer-step bs = ap₂ (λ n sets. read_buffered n (bare way_count width sets) bs at (drop at words)) sizes.items sizes.sets

    there-here : AreThere (length e.ways) ss before.entries e whole
    there-here = let P : ℕ → Type 0 = λ n. AreThere n ss before.entries e whole in subst P (sym sizes.items) before.there

    pub buffered-more : (now : Bool) (f : EntriesValue) (next : ℕ)
        → ((ss : List StandingValue) (bs : List BufferValue) → AreThere (length e.ways) ss bs e whole → BufferRead (length e.ways) ss (buffered_of way_count width e bs at (drop at words)) words next f now)
        → BufferedSoFar way_count width words start ss count first (done + 1) next f now
    buffered-more now f next read =
        let one = read ss before.entries there-here in
        record {
          entries = one.entries;
          left = before.left ∙ times_went_on (buffered_of way_count width start) count done before.entries at (drop at words) one.entries next (drop next words) more (sym (buffer-step before.entries) ∙ one.is);
          there = let P : ℕ → Type 0 = λ n. AreThere n ss one.entries f now in subst P sizes.items one.there;
        }

    pub buffered-refused : (r : StateRefusal) → ((bs : List BufferValue) → buffered_of way_count width e bs at (drop at words) ≡ Err r)
        → times (buffered_of way_count width start) count [] first (drop first words) ≡ Err r
    buffered-refused r refused =
        before.left ∙ times_refused (buffered_of way_count width start) count done before.entries at (drop at words) r more (sym (buffer-step before.entries) ∙ refused before.entries)

  pub buffered-done : {done at : ℕ} {e : EntriesValue} {whole : Bool} → BufferedSoFar way_count width words start ss count first done at e whole → count ≤ done
      → BufferRead (length start.ways) ss (times (buffered_of way_count width start) count [] first (drop first words)) words at e whole
  buffered-done {done} {at} before all = record {
    entries = before.entries;
    is = before.left ∙ times_done (buffered_of way_count width start) count done before.entries at (drop at words) all;
    there = before.there;
  }

-- ---- a whole leaf

all_four : (a b c d : Bool) → (a && (b && (c && d))) ≡ ((a && (b && c)) && d)
all_four true true c d = refl
all_four true false c d = refl
all_four false b c d = refl

judged : (ss : List StandingValue) (v : LeafValue) → is_whole_leaf ss v ≡ (are_together v.sizes.sets ss v.buffer && slot_fits v v.slot)
judged ss v =
    all_four (are_distinct (map standing_item ss ++ map item_of_buffer v.buffer)) (places_differ v.sizes.sets ss) (nat_le (waiting_states (map standing_state ss ++ map buffer_state v.buffer)) 1) (slot_fits v v.slot)

module _ {n : ℕ} {ss : List StandingValue} {bs : List BufferValue} {e : EntriesValue} {whole : Bool} (there : AreThere n ss bs e whole) (v : LeafValue) (sets : v.sizes.sets ≡ e.sets) (buffer : v.buffer ≡ bs) (k : ℕ) (ws : List ℕ) where
  judged-here : is_whole_leaf ss v ≡ (whole && slot_fits v v.slot)
  judged-here = judged ss v ∙ ap (λ b. b && slot_fits v v.slot) (ap₂ (λ s b. are_together s ss b) sets buffer ∙ sym there.judged)

  -- whole, or broken by its entries or by its slot
  pub leaf-whole : whole ≡ true → slot_fits v v.slot ≡ true → unless_broken ss v k ws ≡ given v k ws
  leaf-whole all fits = ap (λ b. cond b (given v k ws) (Err (BrokenLeaf v.number))) (judged-here ∙ ap₂ (λ a b. a && b) all fits)

  pub entries-broken : whole ≡ false → unless_broken ss v k ws ≡ Err (BrokenLeaf v.number)
  entries-broken broken = ap (λ b. cond b (given v k ws) (Err (BrokenLeaf v.number))) (judged-here ∙ ap (λ a. a && slot_fits v v.slot) broken)

  pub slot-broken : whole ≡ true → slot_fits v v.slot ≡ false → unless_broken ss v k ws ≡ Err (BrokenLeaf v.number)
  slot-broken all broken = ap (λ b. cond b (given v k ws) (Err (BrokenLeaf v.number))) (judged-here ∙ ap₂ (λ a b. a && b) all broken)

-- ---- a whole part of a leaf, by the reading of all its entries

module _ {A B : Type 0} where
  after : (r : Result (Read A) StateRefusal) (f g : A → ℕ → List ℕ → Result (Read B) StateRefusal) → ((a : A) (k : ℕ) (ws : List ℕ) → f a k ws ≡ g a k ws) → and_then r f ≡ and_then r g
  after (Ok r) f g each = each r.value r.at r.rest
  after (Err e) f g each = refl

-- what stands behind the entries: the replies, and whether the leaf is whole
abbrev pub behind_entries : ℕ → LeafValue → ℕ → ℕ → ℕ → List StandingValue × List BufferValue → ℕ → List ℕ → Result (Read LeafValue) StateRefusal
behind_entries n v reserved code asked both k ws =
    and_then (word_to v.sizes.reply_room k ws) (λ replied k ws.
    and_then (times (read_copy v.sizes.width (λ x cs. nat_lt x n)) replied [] k ws) (λ replies k ws.
    unless_broken both.0 (record v { ways = ways_with both.0 (replicate n None); buffer = both.1; slot = slot_of code asked; replies = replies; reservation = reserved_of reserved }) k ws))

pub leaf_read : (n : ℕ) (v : LeafValue) (k : ℕ) (ws : List ℕ) → read_leaf n v k ws
    ≡ and_then (word_to n k ws) (λ reserved k ws. and_then (word_to 2 k ws) (λ code k ws. and_then (word_that (λ x. if nat_eq code 0 then nat_eq x 0 else nat_lt x n) k ws) (λ asked k ws.
    and_then (entries_read n v.sizes.way_count v.sizes.width v.sizes.sets v.sizes.buffer_room k ws) (behind_entries n v reserved code asked))))
unfolding read_leaf
leaf_read n v k ws =
    after (word_to n k ws) _ _ (λ reserved k ws. after (word_to 2 k ws) _ _ (λ code k ws. after (word_that (λ x. if nat_eq code 0 then nat_eq x 0 else nat_lt x n) k ws) _ _ (λ asked k ws.
    chained (word_that any_word k ws) _ _ (behind_entries n v reserved code asked) (λ standing k ws.
    chained (times (read_standing n v) standing [] k ws) _ _ (behind_entries n v reserved code asked) (λ ss k ws.
    chained (word_to v.sizes.buffer_room k ws) _ _ (behind_entries n v reserved code asked) (λ buffered k ws.
    chained (times (read_buffered n v) buffered [] k ws) _ _ (behind_entries n v reserved code asked) (λ bs k ws. refl)))))))

-- a leaf `v` with these parts, from word `first` on, and what was read of it
module _ (way_count width number : ℕ) (e : EntriesValue) (slot : Option (TxKind × ℕ)) (replies : QueueList (ℕ × List ℕ)) (reservation : Option ℕ) (h : HartState) (v : LeafValue) (view : leaf_of way_count width number e slot replies reservation h ≡ v) (words : List ℕ) (first reserved code asked replied : ℕ) where
  abbrev refilled : List StandingValue → List BufferValue → List CopyValue → LeafValue
  refilled ss bs cs = record (leaf_of way_count width number e slot replies reservation h) { ways = ways_with ss (replicate (length e.ways) None); buffer = bs; slot = slot_of code asked; replies = cs; reservation = reserved_of reserved }

  -- the words before the replies were read
  pub record HeadRead (k₁ k₂ k₃ k₄ k₅ : ℕ) (f : EntriesValue) (whole : Bool) : Type 0 where
    pub reservation_read : word_to (length v.ways) first (drop first words) ≡ Ok (record { value = reserved; at = k₁; rest = drop k₁ words })
    pub kind_read : word_to 2 k₁ (drop k₁ words) ≡ Ok (record { value = code; at = k₂; rest = drop k₂ words })
    pub item_read : word_that (λ x. if nat_eq code 0 then nat_eq x 0 else nat_lt x (length v.ways)) k₂ (drop k₂ words) ≡ Ok (record { value = asked; at = k₃; rest = drop k₃ words })
    pub entries : EntriesRead (length e.ways) (entries_read (length e.ways) way_count width e.sets e.room k₃ (drop k₃ words)) words k₄ f whole
    pub count_read : word_to replies.capacity k₄ (drop k₄ words) ≡ Ok (record { value = replied; at = k₅; rest = drop k₅ words })

  module _ {k₁ k₂ k₃ k₄ k₅ : ℕ} {f : EntriesValue} {whole : Bool} (head : HeadRead k₁ k₂ k₃ k₄ k₅ f whole) where
    ways-there : length v.ways ≡ length e.ways
    ways-there = ap (λ (l : LeafValue). length l.ways) (sym view)

    -- what is left to read
    to_replies : read_leaf (length v.ways) v first (drop first words)
        ≡ and_then (times (read_copy width (λ x cs. nat_lt x (length v.ways))) replied [] k₅ (drop k₅ words)) (λ cs k ws. unless_broken head.entries.standing (refilled head.entries.standing head.entries.buffered cs) k ws)
    to_replies = rw (← view) (
        leaf_read (length e.ways) (leaf_of way_count width number e slot replies reservation h) first (drop first words)
        ∙ (rw (rw (← view) at head.reservation_read, head.kind_read, rw (← view) at head.item_read, head.entries.is, head.count_read) refl)
        )

    pub refused_by_replies : (r : StateRefusal) → times (read_copy width (λ x cs. nat_lt x (length v.ways))) replied [] k₅ (drop k₅ words) ≡ Err r → read_leaf (length v.ways) v first (drop first words) ≡ Err r
    refused_by_replies r refused = to_replies ∙ rw refused refl

    module _ (sizes : IsSized e f) (slot' : Option (TxKind × ℕ)) (replies' : QueueList (ℕ × List ℕ)) (reservation' : Option ℕ) (last : ℕ)
        (copies_read : times (read_copy width (λ x cs. nat_lt x (length v.ways))) replied [] k₅ (drop k₅ words) ≡ Ok (record { value = map copy_value replies'.list; at = last; rest = drop last words }))
        (slot_read : option_map request_value slot' ≡ slot_of code asked) (reserved_read : reservation' ≡ reserved_of reserved) (capacity : replies'.capacity ≡ replies.capacity) where
      abbrev now : LeafValue
      now = leaf_of way_count width number f slot' replies' reservation' h

      abbrev wanted : LeafValue
      wanted = refilled head.entries.standing head.entries.buffered (map copy_value replies'.list)

      all_read : read_leaf (length v.ways) v first (drop first words) ≡ unless_broken head.entries.standing wanted last (drop last words)
      all_read = to_replies ∙ rw copies_read refl

      is_wanted : whole ≡ true → now ≡ wanted
      is_wanted all =
          let ways = head.entries.there.ways all in
          let buffer = head.entries.there.buffer all in
          λ i. record {
            number = number;
            sizes = record { sets = sizes.sets i; way_count = way_count; buffer_room = sizes.room i; reply_room = capacity i; width = width };
            hart = h.hart;
            done = h.done;
            ways = ways i;
            buffer = buffer i;
            slot = slot_read i;
            replies = map copy_value replies'.list;
            reservation = reserved_read i;
          }

      pub whole_read : whole ≡ true → slot_fits now now.slot ≡ true → read_leaf (length v.ways) v first (drop first words) ≡ Ok (record { value = now; at = last; rest = drop last words })
      whole_read all fits =
          all_read ∙ (leaf-whole head.entries.there wanted (sym sizes.sets) refl last (drop last words) all (subst (λ (l : LeafValue). slot_fits l l.slot ≡ true) (is_wanted all) fits) ∙ ap (λ l. given l last (drop last words)) (sym (is_wanted all)))

      pub broken_by_entries : whole ≡ false → read_leaf (length v.ways) v first (drop first words) ≡ Err (BrokenLeaf number)
      broken_by_entries broken = all_read ∙ entries-broken head.entries.there wanted (sym sizes.sets) refl last (drop last words) broken

      pub broken_by_slot : whole ≡ true → slot_fits now now.slot ≡ false → read_leaf (length v.ways) v first (drop first words) ≡ Err (BrokenLeaf number)
      broken_by_slot all broken =
          all_read ∙ slot-broken head.entries.there wanted (sym sizes.sets) refl last (drop last words) all (subst (λ (l : LeafValue). slot_fits l l.slot ≡ false) (is_wanted all) broken)
