-- The items of a directory that are spelled by records are read again: those without a record are at rest.
use Rattle.std.specs.Prelude.{◌≡◌, ℕ, suc, ◌+◌, ◌^◌, ◌<◌, Bool, true, false, not, nat_eq, nat_lt, nat_le, ◌&&◌, ◌||◌, List, [], ◌∷◌, ◌++◌, length, replicate, slice_set, count_by, Option, Some, None, Ok, refl, if◌then◌else◌}
use Rattle.std.specs.List.{list_all}
use Rattle.std.proofs.Common.{ap, sym, ◌∙◌, subst, arith, append_assoc, length-append, zero-add}
use Rattle.std.proofs.lemmas.Bool.{lt-ltb, and_parts, and_from, or_parts}
use Rattle.std.proofs.lemmas.List.{set_at}
use Rattle.std.proofs.lemmas.List.Sums.{sum_by-cons}
use Rattle.spelling_laws.specs.DdmTypes.declared.sizes.Hold.{Hold}
use Rattle.spelling_laws.specs.TreeModel.State.States.{is_held, is_exclusive}
use Rattle.spelling_laws.specs.TreeModel.State.Values.{Note, no_note, local, up_read, up_erase, DirItem}
use Rattle.spelling_laws.specs.TreeModel.State.Directory.{in_set}
use Rattle.spelling_laws.specs.TreeRules.Bus.Own.{item_fits, note_fits, top_item}
use Rattle.spelling_laws.specs.StateReading.Reading.{any_word, times}
use Rattle.spelling_laws.specs.StateReading.Parts.{hold_of, note_of_words, joins_fit, Recorded, comes_after, read_record, at_rest, read_records}
use Rattle.spelling_laws.specs.StateWords.Numbers.{hold_number, flag_number}
use Rattle.spelling_laws.specs.StateWords.Parts.{is_noted, is_recorded, record_words, records_from, records}
use Rattle.spelling_laws.proofs.Codes.{NoteCoded, hold-fits, hold-back, flag-fits, flag-back}
use Rattle.spelling_laws.proofs.Steps.{is_to, spells-as}
use Rattle.spelling_laws.proofs.Taken.{Takes, take-part, take-word, taken-all}

-- ---- what an item has

pub note-coded : (kids : ℕ) (note : Note) → note_fits kids note ≡ true → NoteCoded kids note
note-coded kids no_note fits = record { code = 0; child = 0; joined = 0; words = refl; most = refl; child_fits = refl; joined_fits = refl; back = refl }
note-coded kids (local first joined) fits =
    let p = and_parts (nat_lt first kids) (nat_lt joined (2 ^ kids) && not (in_set first joined)) fits in
    record { code = 1; child = first; joined = joined; words = refl; most = refl; child_fits = p.0; joined_fits = p.1; back = refl }
note-coded kids (up_read first joined) fits =
    let p = and_parts (nat_lt first kids) (nat_lt joined (2 ^ kids) && not (in_set first joined)) fits in
    record { code = 2; child = first; joined = joined; words = refl; most = refl; child_fits = p.0; joined_fits = p.1; back = refl }
note-coded kids (up_erase child) fits = record { code = 3; child = child; joined = 0; words = refl; most = refl; child_fits = fits; joined_fits = refl; back = refl }

-- an item of the top is held Exclusive there, and is not answered for
abbrev pub suits_top : Bool → DirItem → Bool
suits_top true i = top_item i
suits_top false i = true

none-noted : (note : Note) → is_noted note ≡ false → note ≡ no_note
none-noted no_note e = refl
none-noted (local first joined) e = cc
none-noted (up_read first joined) e = cc
none-noted (up_erase child) e = cc

none-held : (h : Hold) → is_held h ≡ false → h ≡ Hold.Invalid
none-held Hold.Invalid e = refl
none-held Hold.Shared e = cc
none-held Hold.Exclusive e = cc

held-exclusive : (h : Hold) → is_exclusive h ≡ true → h ≡ Hold.Exclusive
held-exclusive Hold.Invalid e = cc
held-exclusive Hold.Shared e = cc
held-exclusive Hold.Exclusive e = refl

not-answering : (b : Bool) → not b ≡ true → b ≡ false
not-answering true e = cc
not-answering false e = refl

-- an item without a record is at rest
unrecorded : (top : Bool) (hold : Hold) (note : Note) (answering : Bool) → suits_top top (record { hold = hold; note = note; answering = answering }) ≡ true → is_recorded top (record { hold = hold; note = note; answering = answering }) ≡ false
    → record { hold = hold; note = note; answering = answering } ≡ at_rest top
unrecorded true hold note answering suits none =
    let p = and_parts (is_exclusive hold) (not answering) suits in
    rw (none-noted note none, held-exclusive hold p.0, not-answering answering p.1) refl
unrecorded false hold note answering suits none =
    let p = or_parts (is_held hold) (is_noted note || answering) none in
    let r = or_parts (is_noted note) answering p.1 in
    let b : answering ≡ false = r.1 in
    rw (none-held hold p.0, none-noted note r.0, b) refl

hold-passes : (top : Bool) (i : DirItem) → suits_top top i ≡ true → (if top then nat_eq (hold_number i.hold) 2 else nat_le (hold_number i.hold) 2) ≡ true
hold-passes true i suits = let held = held-exclusive i.hold ((and_parts (is_exclusive i.hold) (not i.answering) suits).0) in ap (λ h. nat_eq (hold_number h) 2) held
hold-passes false i suits = hold-fits i.hold

answering-passes : (top b : Bool) (i : DirItem) → suits_top top i ≡ true → i.answering ≡ b → (not top || nat_eq (flag_number b) 0) ≡ true
answering-passes true b i suits e =
    let none : b ≡ false = sym e ∙ not-answering i.answering ((and_parts (is_exclusive i.hold) (not i.answering) suits).1) in
    ap (λ b. nat_eq (flag_number b) 0) none
answering-passes false b i suits e = refl

-- ---- the records

module _ (n kids : ℕ) (top : Bool) where
  abbrev pub ItemSuits : DirItem → Bool
  ItemSuits i = item_fits kids i && suits_top top i

  -- the last record was of a lesser item
  abbrev pub is_last_below : ℕ → Option ℕ → Type 0
  is_last_below x None = Unit {0}
  is_last_below x (Some y) = y < x

  comes-last : (x : ℕ) (o : Option ℕ) → is_last_below x o → comes_after x o ≡ true
  comes-last x None below = refl
  comes-last x (Some y) below = lt-ltb y x below

  last-later : (x : ℕ) (o : Option ℕ) → is_last_below x o → is_last_below (x + 1) o
  last-later x None below = tt
  last-later x (Some y) below = omega (arith, below)

  pub record-taken : (r : Recorded) (x : ℕ) (i : DirItem) → x < n → is_last_below x r.last → ItemSuits i ≡ true → is_recorded top i ≡ true → Takes (read_record n kids top r) (record_words x i) (record { last = Some x; items = slice_set r.items x i })
  record-taken r x i inside below suits recorded k at ws rest s =
      let p = and_parts (item_fits kids i) (suits_top top i) suits in
      let c = note-coded kids i.note p.0 in
      let hold = hold-back i.hold in
      let note = c.back in
      let flag = flag-back i.answering in
      let same : record { hold = hold_of (hold_number i.hold); note = note_of_words c.code c.child c.joined; answering = nat_eq (flag_number i.answering) 1 } ≡ i = rw (hold, note, flag) refl in
      take-word (λ x. nat_lt x n && comes_after x r.last) k ws _ _ x (and_from _ _ (lt-ltb x n inside) (comes-last x r.last below)) (hold_number i.hold ∷ c.code ∷ c.child ∷ c.joined ∷ flag_number i.answering ∷ []) at rest
      (spells-as (ap (λ l. x ∷ hold_number i.hold ∷ l ++ flag_number i.answering ∷ []) c.words) s) (λ k1 ws1 s1.
      take-word (λ w. if top then nat_eq w 2 else nat_le w 2) k1 ws1 _ _ (hold_number i.hold) (hold-passes top i p.1) (c.code ∷ c.child ∷ c.joined ∷ flag_number i.answering ∷ []) at rest s1 (λ k2 ws2 s2.
      take-word (is_to 3) k2 ws2 _ _ c.code c.most (c.child ∷ c.joined ∷ flag_number i.answering ∷ []) at rest s2 (λ k3 ws3 s3.
      take-word (λ w. if nat_eq c.code 0 then nat_eq w 0 else nat_lt w kids) k3 ws3 _ _ c.child c.child_fits (c.joined ∷ flag_number i.answering ∷ []) at rest s3 (λ k4 ws4 s4.
      take-word (λ w. if nat_eq c.code 1 || nat_eq c.code 2 then joins_fit kids c.child w else nat_eq w 0) k4 ws4 _ _ c.joined c.joined_fits (flag_number i.answering ∷ []) at rest s4 (λ k5 ws5 s5.
      take-word (λ w. nat_le w 1 && (not top || nat_eq w 0) && is_recorded top (record { hold = hold_of (hold_number i.hold); note = note_of_words c.code c.child c.joined; answering = nat_eq w 1 })) k5 ws5 _ _ (flag_number i.answering)
      (and_from _ _ (and_from _ _ (flag-fits i.answering) (answering-passes top i.answering i p.1 refl)) (ap (is_recorded top) same ∙ recorded)) [] at rest s5 (λ k6 ws6 s6.
      taken-all _ k6 at ws6 rest s6 ∙ ap (λ i. Ok (record { value = record { last = Some x; items = slice_set r.items x i }; at = at; rest = rest })) same))))))

  abbrev count : List DirItem → ℕ
  count items = count_by (is_recorded top) items

  abbrev one_if : Bool → ℕ
  one_if b = if b then 1 else 0

  abbrev resting : List DirItem → List DirItem
  resting items = replicate (length items) (at_rest top)

  pub record RecordsTaken (before items : List DirItem) (last : Option ℕ) : Type 0 where
    pub then_last : Option ℕ
    pub takes : Takes (times (read_record n kids top) (count items) (record { last = last; items = before ++ resting items })) (records_from top (length before) items) (record { last = then_last; items = before ++ items })

  pub records-taken : (items before : List DirItem) (last : Option ℕ) → length before + length items ≡ n → is_last_below (length before) last → list_all ItemSuits items ≡ true → RecordsTaken before items last
  unfolding times records_from
  records-taken [] before last size below suits = record { then_last = last; takes = λ k at ws rest s. taken-all _ k at ws rest s }
  records-taken (i ∷ items) before last size below suits =
      let p = and_parts (ItemSuits i) (list_all ItemSuits items) suits in
      let x = length before in
      let next : length (before ++ i ∷ []) ≡ x + 1 = length-append before (i ∷ []) in
      let first = sum_by-cons (λ i. one_if (is_recorded top i)) i items in
      elim (is_recorded top i) as (λ b. is_recorded top i ≡ b → RecordsTaken before (i ∷ items) last) [
        | true ↦ λ is.
            let more = records-taken items (before ++ i ∷ []) (Some x) (omega (arith, size, next)) (omega (arith, next)) p.1 in
            let many : count (i ∷ items) ≡ suc (count items) = first ∙ ap (λ b. one_if b + count items) is ∙ omega arith in
            let set : slice_set (before ++ at_rest top ∷ resting items) x i ≡ (before ++ i ∷ []) ++ resting items = set_at before (at_rest top) (resting items) i x refl ∙ sym (append_assoc before (i ∷ []) (resting items)) in
            let words : records_from top x (i ∷ items) ≡ record_words x i ++ records_from top (length (before ++ i ∷ [])) items = ap (λ b. (if b then record_words x i else []) ++ records_from top (x + 1) items) is ∙ ap (λ y. record_words x i ++ records_from top y items) (sym next) in
            record {
              then_last = more.then_last;
              takes = λ k at ws rest s.
                  ap (λ c. times (read_record n kids top) c (record { last = last; items = before ++ at_rest top ∷ resting items }) k ws) many
                  ∙ take-part (read_record n kids top (record { last = last; items = before ++ at_rest top ∷ resting items })) k ws (times (read_record n kids top) (count items)) _ (record_words x i)
                  (record { last = Some x; items = slice_set (before ++ at_rest top ∷ resting items) x i })
                  (record-taken (record { last = last; items = before ++ at_rest top ∷ resting items }) x i (omega (arith, size)) below p.0 is)
                  (records_from top (length (before ++ i ∷ [])) items) at rest (spells-as words s) (λ k1 ws1 s1.
                  ap (λ l. times (read_record n kids top) (count items) (record { last = Some x; items = l }) k1 ws1) set
                  ∙ more.takes k1 at ws1 rest s1
                  ∙ ap (λ l. Ok (record { value = record { last = more.then_last; items = l }; at = at; rest = rest })) (append_assoc before (i ∷ []) items));
            }
        | false ↦ λ is.
            let later : is_last_below (length (before ++ i ∷ [])) last = subst (λ y. is_last_below y last) (sym next) (last-later x last below) in
            let more = records-taken items (before ++ i ∷ []) last (omega (arith, size, next)) later p.1 in
            let many : count (i ∷ items) ≡ count items = first ∙ ap (λ b. one_if b + count items) is ∙ zero-add (count items) in
            let rest_is : i ≡ at_rest top = unrecorded top i.hold i.note i.answering ((and_parts (item_fits kids i) (suits_top top i) p.0).1) is in
            let same : before ++ at_rest top ∷ resting items ≡ (before ++ i ∷ []) ++ resting items = ap (λ j. before ++ j ∷ resting items) (sym rest_is) ∙ sym (append_assoc before (i ∷ []) (resting items)) in
            let words : records_from top x (i ∷ items) ≡ records_from top (length (before ++ i ∷ [])) items = ap (λ b. (if b then record_words x i else []) ++ records_from top (x + 1) items) is ∙ ap (λ y. records_from top y items) (sym next) in
            record {
              then_last = more.then_last;
              takes = λ k at ws rest s.
                  ap (λ c. times (read_record n kids top) c (record { last = last; items = before ++ at_rest top ∷ resting items }) k ws) many
                  ∙ ap (λ l. times (read_record n kids top) (count items) (record { last = last; items = l }) k ws) same
                  ∙ more.takes k at ws rest (spells-as words s)
                  ∙ ap (λ l. Ok (record { value = record { last = more.then_last; items = l }; at = at; rest = rest })) (append_assoc before (i ∷ []) items);
            }
      ] refl

  pub record ItemsTaken (items : List DirItem) : Type 0 where
    pub last : Option ℕ
    pub takes : Takes (read_records n kids top) (records top items) (record { last = last; items = items })

  pub items-taken : (items : List DirItem) → length items ≡ n → list_all ItemSuits items ≡ true → ItemsTaken items
  unfolding records
  items-taken items size suits =
      let r = records-taken items [] None (omega (arith, size)) tt suits in
      record {
        last = r.then_last;
        takes = λ k at ws rest s.
            take-word any_word k ws _ _ (count items) refl (records_from top 0 items) at rest s (λ k1 ws1 s1.
            ap (λ m. times (read_record n kids top) (count items) (record { last = None; items = replicate m (at_rest top) }) k1 ws1) (sym size) ∙ r.takes k1 at ws1 rest s1);
      }
