-- What a directory, or the top, is that was read: all that it keeps by itself.
-- `behind_x` is what is read behind x, and `x_made` what is made of all that was read.
-- Letters: n is how many items there are, kids how many children its bus has, d the directory before, e the one that was read, k the
-- number of the next word, ws are the words.
use Rattle.std.specs.Prelude.{◌≡◌, ◌≤◌, ℕ, zero, suc, ◌+◌, ◌-◌, Bool, true, false, not, ◌&&◌, ◌||◌, nat_eq, nat_lt, nat_le, List, [], ◌∷◌, ◌++◌, length, map, replicate, slice_set, Some, None, Result, Ok, refl, if◌then◌else◌}
use Rattle.std.specs.List.{list_any, list_all}
use Rattle.std.proofs.Common.{sym, ap, subst, ◌∙◌, arith}
use Rattle.std.proofs.lemmas.Bool.{and_parts, eqb-true, eq-eqb, leb-true, le-leb}
use Rattle.std.proofs.lemmas.List.{length_push, length-set, length-replicate, map-append}
use Rattle.std.specs.Cmp.Derive.{both_true}
use Rattle.state_judging.specs.DdmTypes.declared.keys.Stamp.{Stamp}
use Rattle.state_judging.specs.TreeModel.State.Kinds.{brings_copy}
use Rattle.state_judging.specs.TreeModel.State.Shape.{are_distinct}
use Rattle.state_judging.specs.TreeModel.State.Values.{RequestValue, CopyValue, DownValue, Note, DirItem, DirValue}
use Rattle.state_judging.specs.TreeModel.State.Leaf.{copy_item, is_copy}
use Rattle.state_judging.specs.TreeModel.State.Directory.{is_top}
use Rattle.state_judging.specs.TreeRules.Bus.Own.{are_zero, copy_fits, down_fits, request_fits, note_fits, item_fits, top_item, DirRule, dir_lists, notes_fit, down_entries, dir_requests, dir_replies, parked_fit, parked_once, dir_test, dir_rules, dir_holds}
use Rattle.state_judging.specs.TreeRules.Bus.Item.{implies}
use Rattle.state_judging.specs.TreeRules.Order.Time.{stamp_ends}
use Rattle.state_judging.proofs.TreeRules.Lists.{all-pass}
use Rattle.bus_laws.proofs.Lists.{pass-set, pass-pushed}
use Rattle.state_judging.specs.StateWords.Parts.{is_recorded}
use Rattle.state_reading.specs.declared.StateRefusal.{StateRefusal}
use Rattle.state_reading.specs.Reading.{Read, and_then, given, times, word_that, any_word}
use Rattle.state_reading.specs.Parts.{most_counted, count_word, word_to, word_below, word_from_1, word_if, item_words, listed, stamp_words, hold_of, note_of_words, joins_fit, Recorded, comes_after, read_record, kind_of, read_down, read_request, read_copy, at_rest, read_records, read_dir}
use Rattle.state_judging.proofs.Inverted.{and_then-ok, given-so, word_that-ok, words_that-ok, times-begun, listed-ok}
use Rattle.state_judging.proofs.Lists.{same-test, pass-replicate, distinct-pushed, any-map}
use Rattle.state_judging.proofs.LeafRead.{zero-unless, read_copy-ok, AreCopies, no_copies, copies-next}

-- ---- a stamp has no number of a level that isn't there

swap : (w : ℕ) → nat_eq w 0 ≡ true → nat_eq 0 w ≡ true
swap w e = same-test 0 w ∙ e

stamp-ends : (level s0 s1 s2 s3 : ℕ) → (nat_lt 0 level || nat_eq s0 0) ≡ true → (nat_lt 1 level || nat_eq s1 0) ≡ true → (nat_lt 2 level || nat_eq s2 0) ≡ true → (nat_lt 3 level || nat_eq s3 0) ≡ true
    → stamp_ends level (record { s0 = s0; s1 = s1; s2 = s2; s3 = s3 }) ≡ true
stamp-ends zero s0 s1 s2 s3 e0 e1 e2 e3 = both_true (swap s0 e0) (both_true (swap s1 e1) (both_true (swap s2 e2) (both_true (swap s3 e3) refl)))
stamp-ends (suc zero) s0 s1 s2 s3 e0 e1 e2 e3 = both_true (swap s1 e1) (both_true (swap s2 e2) (both_true (swap s3 e3) refl))
stamp-ends (suc (suc zero)) s0 s1 s2 s3 e0 e1 e2 e3 = both_true (swap s2 e2) (both_true (swap s3 e3) refl)
stamp-ends (suc (suc (suc zero))) s0 s1 s2 s3 e0 e1 e2 e3 = both_true (swap s3 e3) refl
stamp-ends (suc (suc (suc (suc level)))) s0 s1 s2 s3 e0 e1 e2 e3 = none-left level
  where
    none-left : (level : ℕ) → stamp_ends (suc (suc (suc (suc level)))) (record { s0 = s0; s1 = s1; s2 = s2; s3 = s3 }) ≡ true
    none-left zero = refl
    none-left (suc level) = refl

module _ (level : ℕ) where
  abbrev stamp_made : ℕ → ℕ → ℕ → ℕ → ℕ → List ℕ → Result (Read Stamp) StateRefusal
  stamp_made s0 s1 s2 s3 k ws = given (record { s0 = s0; s1 = s1; s2 = s2; s3 = s3 }) k ws

  abbrev behind_s2 : ℕ → ℕ → ℕ → ℕ → List ℕ → Result (Read Stamp) StateRefusal
  behind_s2 s0 s1 s2 k ws = and_then (word_if (nat_lt 3 level) k ws) (stamp_made s0 s1 s2)

  abbrev behind_s1 : ℕ → ℕ → ℕ → List ℕ → Result (Read Stamp) StateRefusal
  behind_s1 s0 s1 k ws = and_then (word_if (nat_lt 2 level) k ws) (behind_s2 s0 s1)

  abbrev behind_s0 : ℕ → ℕ → List ℕ → Result (Read Stamp) StateRefusal
  behind_s0 s0 k ws = and_then (word_if (nat_lt 1 level) k ws) (behind_s1 s0)

  later-ok : (s0 s1 k : ℕ) (ws : List ℕ) (r : Read Stamp) → (nat_lt 0 level || nat_eq s0 0) ≡ true → (nat_lt 1 level || nat_eq s1 0) ≡ true → behind_s1 s0 s1 k ws ≡ Ok r → stamp_ends level r.value ≡ true
  later-ok s0 s1 k ws r e0 e1 e =
      let s2 = and_then-ok (word_if (nat_lt 2 level) k ws) (behind_s2 s0 s1) r e in
      let s3 = and_then-ok (word_if (nat_lt 3 level) s2.0.at s2.0.rest) (stamp_made s0 s1 s2.0.value) r s2.2 in
      let e2 = word_that-ok (λ w. nat_lt 2 level || nat_eq w 0) k ws s2.0 s2.1 in
      let e3 = word_that-ok (λ w. nat_lt 3 level || nat_eq w 0) s2.0.at s2.0.rest s3.0 s3.1 in
      all s2.0.value s3.0.value s3.0.at s3.0.rest e2 e3 s3.2
    where
      all : (s2 s3 k : ℕ) (ws : List ℕ) → (nat_lt 2 level || nat_eq s2 0) ≡ true → (nat_lt 3 level || nat_eq s3 0) ≡ true → stamp_made s0 s1 s2 s3 k ws ≡ Ok r → stamp_ends level r.value ≡ true
      all s2 s3 k ws e2 e3 e = given-so (λ s. stamp_ends level s ≡ true) (record { s0 = s0; s1 = s1; s2 = s2; s3 = s3 }) k ws r e (stamp-ends level s0 s1 s2 s3 e0 e1 e2 e3)

  pub stamp-ok : (k : ℕ) (ws : List ℕ) (r : Read Stamp) → stamp_words level k ws ≡ Ok r → stamp_ends level r.value ≡ true
  stamp-ok k ws r e =
      let s0 = and_then-ok (word_if (nat_lt 0 level) k ws) behind_s0 r e in
      let s1 = and_then-ok (word_if (nat_lt 1 level) s0.0.at s0.0.rest) (behind_s1 s0.0.value) r s0.2 in
      later-ok s0.0.value s1.0.value s1.0.at s1.0.rest r (word_that-ok (λ w. nat_lt 0 level || nat_eq w 0) k ws s0.0 s0.1) (word_that-ok (λ w. nat_lt 1 level || nat_eq w 0) s0.0.at s0.0.rest s1.0 s1.1) s1.2

-- ---- records of items

note-fits : (kids note child joined : ℕ) → (if nat_eq note 0 then nat_eq child 0 else nat_lt child kids) ≡ true → (if nat_eq note 1 || nat_eq note 2 then joins_fit kids child joined else nat_eq joined 0) ≡ true
    → note_fits kids (note_of_words note child joined) ≡ true
note-fits kids zero child joined c j = refl
note-fits kids (suc zero) child joined c j = both_true c j
note-fits kids (suc (suc zero)) child joined c j = both_true c j
note-fits kids (suc (suc (suc zero))) child joined c j = c
note-fits kids (suc (suc (suc (suc note)))) child joined c j = refl

top-fits : (top : Bool) (hold answering : ℕ) (note : Note) → (if top then nat_eq hold 2 else nat_le hold 2) ≡ true → (not top || nat_eq answering 0) ≡ true → top ≡ true → top_item (record { hold = hold_of hold; note = note; answering = nat_eq answering 1 }) ≡ true
top-fits true hold answering note h a is =
    let two : hold ≡ 2 = eqb-true hold 2 h in
    let none : answering ≡ 0 = eqb-true answering 0 a in
    rw (two, none) refl
top-fits false hold answering note h a is = cc

module _ (n kids : ℕ) (top : Bool) where
  pub record AreItems (items : List DirItem) : Type 0 where
    pub count : length items ≡ n
    pub fit : list_all (item_fits kids) items ≡ true
    pub exclusive : top ≡ true → list_all top_item items ≡ true

  one-more : (items : List DirItem) (x : ℕ) (i : DirItem) → AreItems items → item_fits kids i ≡ true → (top ≡ true → top_item i ≡ true) → AreItems (slice_set items x i)
  one-more items x i all fits is_top = record {
    count = length-set items x i ∙ all.count;
    fit = pass-set (item_fits kids) items x i all.fit fits;
    exclusive = λ is. pass-set top_item items x i (all.exclusive is) (is_top is);
  }

  abbrev answers : ℕ → ℕ → ℕ → ℕ → ℕ → Bool
  answers hold note child joined w = nat_le w 1 && (not top || nat_eq w 0) && is_recorded top (record { hold = hold_of hold; note = note_of_words note child joined; answering = nat_eq w 1 })

  abbrev record_made : Recorded → ℕ → ℕ → ℕ → ℕ → ℕ → ℕ → ℕ → List ℕ → Result (Read Recorded) StateRefusal
  record_made q x hold note child joined answering k ws = given (record { last = Some x; items = slice_set q.items x (record { hold = hold_of hold; note = note_of_words note child joined; answering = nat_eq answering 1 }) }) k ws

  abbrev behind_joined : Recorded → ℕ → ℕ → ℕ → ℕ → ℕ → ℕ → List ℕ → Result (Read Recorded) StateRefusal
  behind_joined q x hold note child joined k ws = and_then (word_that (answers hold note child joined) k ws) (record_made q x hold note child joined)

  abbrev joins : ℕ → ℕ → ℕ → Bool
  joins note child w = if nat_eq note 1 || nat_eq note 2 then joins_fit kids child w else nat_eq w 0

  abbrev behind_child : Recorded → ℕ → ℕ → ℕ → ℕ → ℕ → List ℕ → Result (Read Recorded) StateRefusal
  behind_child q x hold note child k ws = and_then (word_that (joins note child) k ws) (behind_joined q x hold note child)

  abbrev is_child : ℕ → ℕ → Bool
  is_child note w = if nat_eq note 0 then nat_eq w 0 else nat_lt w kids

  abbrev behind_note : Recorded → ℕ → ℕ → ℕ → ℕ → List ℕ → Result (Read Recorded) StateRefusal
  behind_note q x hold note k ws = and_then (word_that (is_child note) k ws) (behind_child q x hold note)

  abbrev behind_hold : Recorded → ℕ → ℕ → ℕ → List ℕ → Result (Read Recorded) StateRefusal
  behind_hold q x hold k ws = and_then (word_to 3 k ws) (behind_note q x hold)

  abbrev holds : ℕ → Bool
  holds w = if top then nat_eq w 2 else nat_le w 2

  abbrev behind_item : Recorded → ℕ → ℕ → List ℕ → Result (Read Recorded) StateRefusal
  behind_item q x k ws = and_then (word_that holds k ws) (behind_hold q x)

  answering-ok : (q : Recorded) (x hold note child joined k : ℕ) (ws : List ℕ) (r : Read Recorded) → AreItems q.items → holds hold ≡ true → is_child note child ≡ true → joins note child joined ≡ true → behind_joined q x hold note child joined k ws ≡ Ok r → AreItems r.value.items
  answering-ok q x hold note child joined k ws r all h c j e =
      let answering = and_then-ok (word_that (answers hold note child joined) k ws) (record_made q x hold note child joined) r e in
      last answering.0.value answering.0.at answering.0.rest (word_that-ok (answers hold note child joined) k ws answering.0 answering.1) answering.2
    where
      last : (answering k : ℕ) (ws : List ℕ) → answers hold note child joined answering ≡ true → record_made q x hold note child joined answering k ws ≡ Ok r → AreItems r.value.items
      last answering k ws a e =
          let parts = and_parts (nat_le answering 1 && (not top || nat_eq answering 0)) (is_recorded top (record { hold = hold_of hold; note = note_of_words note child joined; answering = nat_eq answering 1 })) a in
          given-so (λ (q : Recorded). AreItems q.items) (record { last = Some x; items = slice_set q.items x (record { hold = hold_of hold; note = note_of_words note child joined; answering = nat_eq answering 1 }) }) k ws r e
          (one-more q.items x (record { hold = hold_of hold; note = note_of_words note child joined; answering = nat_eq answering 1 }) all (note-fits kids note child joined c j) (top-fits top hold answering (note_of_words note child joined) h (and_parts (nat_le answering 1) (not top || nat_eq answering 0) parts.0).1))

  record-ok : (q : Recorded) (k : ℕ) (ws : List ℕ) (r : Read Recorded) → AreItems q.items → read_record n kids top q k ws ≡ Ok r → AreItems r.value.items
  record-ok q k ws r all e =
      let x = and_then-ok (word_that (λ x. nat_lt x n && comes_after x q.last) k ws) (behind_item q) r e in
      let hold = and_then-ok (word_that holds x.0.at x.0.rest) (behind_hold q x.0.value) r x.2 in
      noted x.0.value hold.0.value hold.0.at hold.0.rest (word_that-ok holds x.0.at x.0.rest hold.0 hold.1) hold.2
    where
      noted : (x hold k : ℕ) (ws : List ℕ) → holds hold ≡ true → behind_hold q x hold k ws ≡ Ok r → AreItems r.value.items
      noted x hold k ws h e =
          let note = and_then-ok (word_to 3 k ws) (behind_note q x hold) r e in
          let child = and_then-ok (word_that (is_child note.0.value) note.0.at note.0.rest) (behind_child q x hold note.0.value) r note.2 in
          let joined = and_then-ok (word_that (joins note.0.value child.0.value) child.0.at child.0.rest) (behind_joined q x hold note.0.value child.0.value) r child.2 in
          answering-ok q x hold note.0.value child.0.value joined.0.value joined.0.at joined.0.rest r all h (word_that-ok (is_child note.0.value) note.0.at note.0.rest child.0 child.1) (word_that-ok (joins note.0.value child.0.value) child.0.at child.0.rest joined.0 joined.1) joined.2

  resting : (b : Bool) → item_fits kids (at_rest b) ≡ true
  resting true = refl
  resting false = refl

  resting_top : (b : Bool) → b ≡ true → top_item (at_rest b) ≡ true
  resting_top true e = refl
  resting_top false e = cc

  none_recorded : AreItems (replicate n (at_rest top))
  none_recorded = record {
    count = length-replicate n (at_rest top);
    fit = pass-replicate (item_fits kids) n (at_rest top) (resting top);
    exclusive = λ is. pass-replicate top_item n (at_rest top) (resting_top top is);
  }

  pub records-ok : (k : ℕ) (ws : List ℕ) (r : Read Recorded) → read_records n kids top k ws ≡ Ok r → AreItems r.value.items
  records-ok k ws r e =
      let count = and_then-ok (word_that any_word k ws) (λ count k ws. times (read_record n kids top) count (record { last = None; items = replicate n (at_rest top) }) k ws) r e in
      times-begun (read_record n kids top) (λ i (q : Recorded). AreItems q.items) (λ i q k ws r all e. record-ok q k ws r all e) count.0.value (record { last = None; items = replicate n (at_rest top) }) count.0.at count.0.rest r none_recorded count.2

-- ---- entries of the down list

module _ (n level width : ℕ) where
  pub record AreDown (i : ℕ) (es : List DownValue) : Type 0 where
    pub count : length es ≡ i
    pub fit : list_all (down_fits n) es ≡ true
    pub stamps : list_all (λ e. stamp_ends level e.stamp) es ≡ true

  abbrev down_made : List DownValue → ℕ → ℕ → Stamp → List ℕ → ℕ → List ℕ → Result (Read (List DownValue)) StateRefusal
  down_made es code x stamp words k ws = given (es ++ record { kind = kind_of code; item = x; words = words; stamp = stamp } ∷ []) k ws

  abbrev behind_stamp : List DownValue → ℕ → ℕ → Stamp → ℕ → List ℕ → Result (Read (List DownValue)) StateRefusal
  behind_stamp es code x stamp k ws = and_then (item_words (brings_copy (kind_of code)) width k ws) (down_made es code x stamp)

  abbrev behind_down_item : List DownValue → ℕ → ℕ → ℕ → List ℕ → Result (Read (List DownValue)) StateRefusal
  behind_down_item es code x k ws = and_then (stamp_words level k ws) (behind_stamp es code x)

  abbrev behind_kind : List DownValue → ℕ → ℕ → List ℕ → Result (Read (List DownValue)) StateRefusal
  behind_kind es code k ws = and_then (word_below n k ws) (behind_down_item es code)

  down-given : (i : ℕ) (es : List DownValue) (code x : ℕ) (stamp : Stamp) (words : List ℕ) (k : ℕ) (ws : List ℕ) (r : Read (List DownValue)) → AreDown i es → nat_lt x n ≡ true → stamp_ends level stamp ≡ true → implies (not (brings_copy (kind_of code))) (are_zero words) ≡ true
      → down_made es code x stamp words k ws ≡ Ok r → AreDown (i + 1) r.value
  down-given i es code x stamp words k ws r all item ends suit e =
      given-so (AreDown (i + 1)) (es ++ record { kind = kind_of code; item = x; words = words; stamp = stamp } ∷ []) k ws r e (record {
        count = length_push es (record { kind = kind_of code; item = x; words = words; stamp = stamp }) ∙ ap (λ j. j + 1) all.count;
        fit = pass-pushed (down_fits n) es (record { kind = kind_of code; item = x; words = words; stamp = stamp }) all.fit (both_true item suit);
        stamps = pass-pushed (λ e. stamp_ends level e.stamp) es (record { kind = kind_of code; item = x; words = words; stamp = stamp }) all.stamps ends;
      })

  down-next : (i : ℕ) (es : List DownValue) (k : ℕ) (ws : List ℕ) (r : Read (List DownValue)) → AreDown i es → read_down n level width es k ws ≡ Ok r → AreDown (i + 1) r.value
  down-next i es k ws r all e =
      let code = and_then-ok (word_from_1 5 k ws) (behind_kind es) r e in
      let x = and_then-ok (word_below n code.0.at code.0.rest) (behind_down_item es code.0.value) r code.2 in
      stamped code.0.value x.0.value x.0.at x.0.rest (word_that-ok (λ w. nat_lt w n) code.0.at code.0.rest x.0 x.1) x.2
    where
      stamped : (code x k : ℕ) (ws : List ℕ) → nat_lt x n ≡ true → behind_down_item es code x k ws ≡ Ok r → AreDown (i + 1) r.value
      stamped code x k ws item e =
          let stamp = and_then-ok (stamp_words level k ws) (behind_stamp es code x) r e in
          let words = and_then-ok (item_words (brings_copy (kind_of code)) width stamp.0.at stamp.0.rest) (down_made es code x stamp.0.value) r stamp.2 in
          let suit = zero-unless (brings_copy (kind_of code)) words.0.value (words_that-ok (λ w. brings_copy (kind_of code) || nat_eq w 0) width stamp.0.at stamp.0.rest words.0 words.1) in
          down-given i es code x stamp.0.value words.0.value words.0.at words.0.rest r all item (stamp-ok level k ws stamp.0 stamp.1) suit words.2

  pub down-ok : (room k : ℕ) (ws : List ℕ) (r : Read (List DownValue)) → listed room (read_down n level width) k ws ≡ Ok r → (i : ℕ) × (i ≤ room) × AreDown i r.value
  down-ok room k ws r e = listed-ok (read_down n level width) AreDown down-next room k ws r (record { count = refl; fit = refl; stamps = refl }) e

-- ---- requests, replies and parked copies

pub record AreRequests (n i : ℕ) (rs : List RequestValue) : Type 0 where
  pub count : length rs ≡ i
  pub fit : list_all (request_fits n) rs ≡ true

module _ (n : ℕ) where
  requests-next : (i : ℕ) (rs : List RequestValue) (k : ℕ) (ws : List ℕ) (r : Read (List RequestValue)) → AreRequests n i rs → read_request n rs k ws ≡ Ok r → AreRequests n (i + 1) r.value
  requests-next i rs k ws r all e =
      let code = and_then-ok (word_that (λ w. nat_eq w 1 || nat_eq w 3) k ws) (λ code k ws. and_then (word_below n k ws) (λ x k ws. given (rs ++ record { kind = kind_of code; item = x } ∷ []) k ws)) r e in
      let x = and_then-ok (word_below n code.0.at code.0.rest) (λ x k ws. given (rs ++ record { kind = kind_of code.0.value; item = x } ∷ []) k ws) r code.2 in
      last code.0.value x.0.value x.0.at x.0.rest (word_that-ok (λ w. nat_lt w n) code.0.at code.0.rest x.0 x.1) x.2
    where
      last : (code x k : ℕ) (ws : List ℕ) → nat_lt x n ≡ true → given (rs ++ record { kind = kind_of code; item = x } ∷ []) k ws ≡ Ok r → AreRequests n (i + 1) r.value
      last code x k ws item e =
          given-so (AreRequests n (i + 1)) (rs ++ record { kind = kind_of code; item = x } ∷ []) k ws r e (record {
            count = length_push rs (record { kind = kind_of code; item = x }) ∙ ap (λ j. j + 1) all.count;
            fit = pass-pushed (request_fits n) rs (record { kind = kind_of code; item = x }) all.fit item;
          })

  pub requests-ok : (room k : ℕ) (ws : List ℕ) (r : Read (List RequestValue)) → listed room (read_request n) k ws ≡ Ok r → (i : ℕ) × (i ≤ room) × AreRequests n i r.value
  requests-ok room k ws r e = listed-ok (read_request n) (AreRequests n) requests-next room k ws r (record { count = refl; fit = refl }) e

  pub replies-ok : (width room k : ℕ) (ws : List ℕ) (r : Read (List CopyValue)) → listed room (read_copy width (λ x cs. nat_lt x n)) k ws ≡ Ok r → (i : ℕ) × (i ≤ room) × AreCopies n i r.value
  replies-ok width room k ws r e = listed-ok (read_copy width (λ x cs. nat_lt x n)) (AreCopies n) (copies-next n width) room k ws r (no_copies n) e

  -- no item is parked twice
  pub record AreParked (i : ℕ) (cs : List CopyValue) : Type 0 where
    pub copies : AreCopies n i cs
    pub differ : are_distinct (map copy_item cs) ≡ true

  abbrev may_park : ℕ → List CopyValue → Bool
  may_park x cs = nat_lt x n && not (list_any (is_copy x) cs)

  parked-pushed : (i : ℕ) (cs : List CopyValue) (c : CopyValue) → AreParked i cs → may_park c.item cs ≡ true → AreParked (i + 1) (cs ++ c ∷ [])
  parked-pushed i cs c all may =
      let parts = and_parts (nat_lt c.item n) (not (list_any (is_copy c.item) cs)) may in
      let alone : list_any (nat_eq c.item) (map copy_item cs) ≡ false = sym (any-map copy_item c.item cs) ∙ no (list_any (is_copy c.item) cs) parts.1 in
      record {
        copies = record { count = length_push cs c ∙ ap (λ j. j + 1) all.copies.count; fit = pass-pushed (copy_fits n) cs c all.copies.fit parts.0 };
        differ = ap are_distinct (map-append copy_item cs (c ∷ [])) ∙ distinct-pushed (map copy_item cs) c.item all.differ alone;
      }
    where
      no : (b : Bool) → not b ≡ true → b ≡ false
      no true e = cc
      no false e = refl

  parked-next : (width i : ℕ) (cs : List CopyValue) (k : ℕ) (ws : List ℕ) (r : Read (List CopyValue)) → AreParked i cs → read_copy width may_park cs k ws ≡ Ok r → AreParked (i + 1) r.value
  parked-next width i cs k ws r all e =
      let c = read_copy-ok width may_park cs k ws r e in
      subst (AreParked (i + 1)) (sym c.2) (parked-pushed i cs c.0 all c.1)

  pub parked-ok : (width room k : ℕ) (ws : List ℕ) (r : Read (List CopyValue)) → listed room (read_copy width may_park) k ws ≡ Ok r → (i : ℕ) × (i ≤ room) × AreParked i r.value
  parked-ok width room k ws r e = listed-ok (read_copy width may_park) AreParked (parked-next width) room k ws r (record { copies = no_copies n; differ = refl }) e

-- ---- the whole directory

module _ (n kids : ℕ) (d : DirValue) where
  -- the bus, the level and the sizes stay
  pub record DirRead (e : DirValue) : Type 0 where
    pub bus : e.bus ≡ d.bus
    pub level : e.level ≡ d.level
    pub sizes : e.sizes ≡ d.sizes
    pub holds : dir_holds n kids e ≡ true
    pub counted : nat_le e.count most_counted ≡ true
    pub epoch : stamp_ends d.level e.epoch ≡ true
    pub stamps : list_all (λ (x : DownValue). stamp_ends d.level x.stamp) e.down ≡ true
    pub exclusive : is_top d ≡ true → list_all top_item e.items ≡ true

  abbrev dir_of : ℕ → Stamp → Recorded → List DownValue → List RequestValue → List CopyValue → List CopyValue → ℕ → DirValue
  dir_of count epoch items down requests replies parked reserved = record d { items = items.items; down = down; requests = requests; replies = replies; parked = parked; reserved = reserved; count = count; epoch = epoch }

  abbrev dir_made : ℕ → Stamp → Recorded → List DownValue → List RequestValue → List CopyValue → List CopyValue → ℕ → ℕ → List ℕ → Result (Read DirValue) StateRefusal
  dir_made count epoch items down requests replies parked reserved k ws = given (dir_of count epoch items down requests replies parked reserved) k ws

  abbrev behind_parked : ℕ → Stamp → Recorded → List DownValue → List RequestValue → List CopyValue → List CopyValue → ℕ → List ℕ → Result (Read DirValue) StateRefusal
  behind_parked count epoch items down requests replies parked k ws = and_then (word_to (d.sizes.parking_room - length parked) k ws) (dir_made count epoch items down requests replies parked)

  abbrev behind_replies : ℕ → Stamp → Recorded → List DownValue → List RequestValue → List CopyValue → ℕ → List ℕ → Result (Read DirValue) StateRefusal
  behind_replies count epoch items down requests replies k ws = and_then (listed d.sizes.parking_room (read_copy d.sizes.width (may_park n)) k ws) (behind_parked count epoch items down requests replies)

  abbrev behind_requests : ℕ → Stamp → Recorded → List DownValue → List RequestValue → ℕ → List ℕ → Result (Read DirValue) StateRefusal
  behind_requests count epoch items down requests k ws = and_then (listed d.sizes.reply_room (read_copy d.sizes.width (λ x cs. nat_lt x n)) k ws) (behind_replies count epoch items down requests)

  abbrev behind_down : ℕ → Stamp → Recorded → List DownValue → ℕ → List ℕ → Result (Read DirValue) StateRefusal
  behind_down count epoch items down k ws = and_then (listed d.sizes.request_room (read_request n) k ws) (behind_requests count epoch items down)

  abbrev behind_records : ℕ → Stamp → Recorded → ℕ → List ℕ → Result (Read DirValue) StateRefusal
  behind_records count epoch items k ws = and_then (listed d.sizes.down_room (read_down n d.level d.sizes.width) k ws) (behind_down count epoch items)

  abbrev behind_epoch : ℕ → Stamp → ℕ → List ℕ → Result (Read DirValue) StateRefusal
  behind_epoch count epoch k ws = and_then (read_records n kids (is_top d) k ws) (behind_records count epoch)

  abbrev behind_count : ℕ → ℕ → List ℕ → Result (Read DirValue) StateRefusal
  behind_count count k ws = and_then (stamp_words d.level k ws) (behind_epoch count)

  -- its lists within their room
  record ListsRead (items : List DirItem) (down : List DownValue) (requests : List RequestValue) (replies : List CopyValue) (parked : List CopyValue) (reserved : ℕ) : Type 0 where
    recorded : AreItems n kids (is_top d) items
    down_fit : list_all (down_fits n) down ≡ true
    down_stamps : list_all (λ (x : DownValue). stamp_ends d.level x.stamp) down ≡ true
    down_room : length down ≤ d.sizes.down_room
    requests_fit : list_all (request_fits n) requests ≡ true
    request_room : length requests ≤ d.sizes.request_room
    replies_fit : list_all (copy_fits n) replies ≡ true
    reply_room : length replies ≤ d.sizes.reply_room
    parked_fits : list_all (copy_fits n) parked ≡ true
    parked_differ : are_distinct (map copy_item parked) ≡ true
    parking_room : length parked + reserved ≤ d.sizes.parking_room

  module _ (count : ℕ) (epoch : Stamp) (items : Recorded) (down : List DownValue) (requests : List RequestValue) (replies parked : List CopyValue) (reserved : ℕ) (p : ListsRead items.items down requests replies parked reserved) where
    dir-rule : (q : DirRule) → dir_test q n kids (dir_of count epoch items down requests replies parked reserved) ≡ true
    dir-rule dir_lists =
        both_true (eq-eqb (length items.items) n p.recorded.count)
        (both_true (le-leb (length down) d.sizes.down_room p.down_room)
        (both_true (le-leb (length requests) d.sizes.request_room p.request_room)
        (both_true (le-leb (length replies) d.sizes.reply_room p.reply_room) (le-leb (length parked + reserved) d.sizes.parking_room p.parking_room))))
    dir-rule notes_fit = p.recorded.fit
    dir-rule down_entries = p.down_fit
    dir-rule dir_requests = p.requests_fit
    dir-rule dir_replies = p.replies_fit
    dir-rule parked_fit = p.parked_fits
    dir-rule parked_once = p.parked_differ

    dir-given : nat_le count most_counted ≡ true → stamp_ends d.level epoch ≡ true → (k : ℕ) (ws : List ℕ) (r : Read DirValue) → dir_made count epoch items down requests replies parked reserved k ws ≡ Ok r → DirRead r.value
    dir-given counted ends k ws r e =
        given-so DirRead (dir_of count epoch items down requests replies parked reserved) k ws r e (record {
          bus = refl;
          level = refl;
          sizes = refl;
          holds = all-pass (λ q. dir_test q n kids (dir_of count epoch items down requests replies parked reserved)) dir_rules dir-rule;
          counted = counted;
          epoch = ends;
          stamps = p.down_stamps;
          exclusive = p.recorded.exclusive;
        })

  -- step by step, from the last one on
  module _ (count : ℕ) (epoch : Stamp) (items : Recorded) (counted : nat_le count most_counted ≡ true) (ends : stamp_ends d.level epoch ≡ true) (recorded : AreItems n kids (is_top d) items.items) (r : Read DirValue) where
    parking-ok : (down : List DownValue) (requests : List RequestValue) (replies : List CopyValue) (i j l k : ℕ) (ws : List ℕ) → i ≤ d.sizes.down_room → AreDown n d.level d.sizes.width i down → j ≤ d.sizes.request_room → AreRequests n j requests → l ≤ d.sizes.reply_room → AreCopies n l replies
        → behind_replies count epoch items down requests replies k ws ≡ Ok r → DirRead r.value
    parking-ok down requests replies i j l k ws i_most all_down j_most all_requests l_most all_replies e =
        let parked = and_then-ok (listed d.sizes.parking_room (read_copy d.sizes.width (may_park n)) k ws) (behind_parked count epoch items down requests replies) r e in
        let park = parked-ok n d.sizes.width d.sizes.parking_room k ws parked.0 parked.1 in
        last parked.0.value park.0 parked.0.at parked.0.rest park.1 park.2 parked.2
      where
        last : (parked : List CopyValue) (c k : ℕ) (ws : List ℕ) → c ≤ d.sizes.parking_room → AreParked n c parked → behind_parked count epoch items down requests replies parked k ws ≡ Ok r → DirRead r.value
        last parked c k ws c_most all e =
            let reserved = and_then-ok (word_to (d.sizes.parking_room - length parked) k ws) (dir_made count epoch items down requests replies parked) r e in
            let most : reserved.0.value ≤ d.sizes.parking_room - length parked = leb-true reserved.0.value (d.sizes.parking_room - length parked) (word_that-ok (λ w. nat_le w (d.sizes.parking_room - length parked)) k ws reserved.0 reserved.1) in
            let room : length parked + reserved.0.value ≤ d.sizes.parking_room = omega (arith, most, c_most, all.copies.count) in
            dir-given count epoch items down requests replies parked reserved.0.value (record {
              recorded = recorded;
              down_fit = all_down.fit;
              down_stamps = all_down.stamps;
              down_room = subst (λ c. c ≤ d.sizes.down_room) (sym all_down.count) i_most;
              requests_fit = all_requests.fit;
              request_room = subst (λ c. c ≤ d.sizes.request_room) (sym all_requests.count) j_most;
              replies_fit = all_replies.fit;
              reply_room = subst (λ c. c ≤ d.sizes.reply_room) (sym all_replies.count) l_most;
              parked_fits = all.copies.fit;
              parked_differ = all.differ;
              parking_room = room;
            }) counted ends reserved.0.at reserved.0.rest r reserved.2

    sends-ok : (down : List DownValue) (i k : ℕ) (ws : List ℕ) → i ≤ d.sizes.down_room → AreDown n d.level d.sizes.width i down → behind_down count epoch items down k ws ≡ Ok r → DirRead r.value
    sends-ok down i k ws i_most all_down e =
        let requests = and_then-ok (listed d.sizes.request_room (read_request n) k ws) (behind_requests count epoch items down) r e in
        let asks = requests-ok n d.sizes.request_room k ws requests.0 requests.1 in
        replied requests.0.value asks.0 requests.0.at requests.0.rest asks.1 asks.2 requests.2
      where
        replied : (requests : List RequestValue) (j k : ℕ) (ws : List ℕ) → j ≤ d.sizes.request_room → AreRequests n j requests → behind_requests count epoch items down requests k ws ≡ Ok r → DirRead r.value
        replied requests j k ws j_most all_requests e =
            let replies = and_then-ok (listed d.sizes.reply_room (read_copy d.sizes.width (λ x cs. nat_lt x n)) k ws) (behind_replies count epoch items down requests) r e in
            let answers = replies-ok n d.sizes.width d.sizes.reply_room k ws replies.0 replies.1 in
            parking-ok down requests replies.0.value i j answers.0 replies.0.at replies.0.rest i_most all_down j_most all_requests answers.1 answers.2 replies.2

    lists-ok : (k : ℕ) (ws : List ℕ) → behind_records count epoch items k ws ≡ Ok r → DirRead r.value
    lists-ok k ws e =
        let down = and_then-ok (listed d.sizes.down_room (read_down n d.level d.sizes.width) k ws) (behind_down count epoch items) r e in
        let comes = down-ok n d.level d.sizes.width d.sizes.down_room k ws down.0 down.1 in
        sends-ok down.0.value comes.0 down.0.at down.0.rest comes.1 comes.2 down.2

  pub dir-ok : (k : ℕ) (ws : List ℕ) (r : Read DirValue) → read_dir n kids d k ws ≡ Ok r → DirRead r.value
  unfolding read_dir
  dir-ok k ws r e =
      let count = and_then-ok (count_word k ws) behind_count r e in
      let epoch = and_then-ok (stamp_words d.level count.0.at count.0.rest) (behind_epoch count.0.value) r count.2 in
      let items = and_then-ok (read_records n kids (is_top d) epoch.0.at epoch.0.rest) (behind_records count.0.value epoch.0.value) r epoch.2 in
      lists-ok count.0.value epoch.0.value items.0.value (word_that-ok (λ w. nat_le w most_counted) k ws count.0 count.1) (stamp-ok d.level count.0.at count.0.rest epoch.0 epoch.1) (records-ok n kids (is_top d) epoch.0.at epoch.0.rest items.0 items.1) r items.0.at items.0.rest items.2
