-- What is read of a directory's records is what is spelled of its items: items without a record are at rest.
use Rattle.std.specs.Prelude.{◌≡◌, ℕ, zero, suc, ◌+◌, ◌-◌, ◌<◌, ◌≤◌, Bool, true, false, not, nat_eq, nat_lt, nat_le, ◌&&◌, ◌||◌, List, [], ◌∷◌, ◌++◌, length, drop, replicate, slice_set, count_by, Option, Some, None, Ok, refl, if◌then◌else◌}
use Rattle.std.specs.List.{list_all}
use Rattle.std.proofs.Common.{ap, sym, ◌∙◌, subst, arith, append_assoc, append-nil, length-set, add-one, zero-add}
use Rattle.std.proofs.lemmas.Bool.{eqb-true, ltb-true, and_parts, and_from}
use Rattle.std.proofs.lemmas.List.{drop-drop, length-replicate}
use Rattle.std.proofs.lemmas.List.Sums.{sum_by-cons}
use Rattle.spelling_laws.specs.TreeModel.State.Values.{DirItem}
use Rattle.spelling_laws.specs.StateReading.Reading.{Read, any_word, times}
use Rattle.spelling_laws.specs.StateReading.Parts.{hold_of, note_of_words, joins_fit, Recorded, comes_after, read_record, at_rest, read_records}
use Rattle.spelling_laws.specs.StateWords.Numbers.{hold_number, note_words}
use Rattle.spelling_laws.specs.StateWords.Parts.{is_recorded, record_words, record_of, records_from, records}
use Rattle.spelling_laws.specs.Spells.{Spells}
use Rattle.spelling_laws.proofs.Numbers.{hold-spelled, note-spelled, flag-spelled}
use Rattle.spelling_laws.proofs.Steps.{is_to, step, word-step, ended, spells-none, spells-both, spells-as}

module _ (top : Bool) where
  -- none has a record
  abbrev pub all_rest : List DirItem → Bool
  all_rest items = list_all (λ i. not (is_recorded top i)) items

  rest-drop : (x : ℕ) (items : List DirItem) → all_rest items ≡ true → all_rest (drop x items) ≡ true
  rest-drop zero items rest = rest
  rest-drop (suc x) [] rest = refl
  rest-drop (suc x) (i ∷ items) rest = rest-drop x items ((and_parts _ _ rest).1)

  not-recorded : (i : DirItem) → not (is_recorded top i) ≡ true → is_recorded top i ≡ false
  not-recorded i e = elim (is_recorded top i) as (λ b. not b ≡ true → b ≡ false) [ true ↦ λ e. cc | false ↦ λ e. refl ] e

  -- items at rest have no words
  pub rest-spelled : (b : ℕ) (items : List DirItem) → all_rest items ≡ true → records_from top b items ≡ []
  unfolding records_from
  rest-spelled b [] rest = refl
  rest-spelled b (i ∷ items) rest =
      let parts = and_parts (not (is_recorded top i)) (all_rest items) rest in
      let none : is_recorded top i ≡ false = not-recorded i parts.0 in
      rw none (rest-spelled (b + 1) items parts.1)

  pub rest-counted : (items : List DirItem) → all_rest items ≡ true → count_by (is_recorded top) items ≡ 0
  rest-counted [] rest = refl
  rest-counted (i ∷ items) rest =
      let parts = and_parts (not (is_recorded top i)) (all_rest items) rest in
      let none : is_recorded top i ≡ false = not-recorded i parts.0 in
      rw none (rest-counted items parts.1)

  -- one record more, behind those that there are
  pub record-more : (b i : ℕ) (items : List DirItem) (r : DirItem) → i < length items → all_rest (drop i items) ≡ true → is_recorded top r ≡ true
      → records_from top b (slice_set items i r) ≡ records_from top b items ++ record_words (b + i) r
  unfolding records_from
  record-more b i [] r inside rest is = absurd (omega (arith, inside))
  record-more b zero (j ∷ items) r inside rest is =
      let parts = and_parts (not (is_recorded top j)) (all_rest items) rest in
      let none : is_recorded top j ≡ false = not-recorded j parts.0 in
      let at : b ≡ b + 0 = omega arith in
      rw (is, none, rest-spelled (b + 1) items parts.1) (append-nil (record_words b r) ∙ ap (λ x. record_words x r) at)
  record-more b (suc i) (j ∷ items) r inside rest is =
      let at : b + 1 + i ≡ b + suc i = omega arith in
      ap (λ l. record_of top b j ++ l) (record-more (b + 1) i items r (omega (arith, inside)) rest is ∙ ap (λ x. records_from top (b + 1) items ++ record_words x r) at)
      ∙ sym (append_assoc (record_of top b j) (records_from top (b + 1) items) (record_words (b + suc i) r))

  abbrev count : List DirItem → ℕ
  count items = count_by (is_recorded top) items

  abbrev one_if : Bool → ℕ
  one_if b = if b then 1 else 0

  count-first : (i : DirItem) (items : List DirItem) → count (i ∷ items) ≡ one_if (is_recorded top i) + count items
  count-first i items = sum_by-cons (λ i. one_if (is_recorded top i)) i items

  pub count-more : (i : ℕ) (items : List DirItem) (r : DirItem) → i < length items → all_rest (drop i items) ≡ true → is_recorded top r ≡ true → count (slice_set items i r) ≡ count items + 1
  count-more i [] r inside rest is = absurd (omega (arith, inside))
  count-more zero (j ∷ items) r inside rest is =
      let parts = and_parts (not (is_recorded top j)) (all_rest items) rest in
      let none = rest-counted items parts.1 in
      let here = ap one_if is in
      let there = ap one_if (not-recorded j parts.0) in
      omega (arith, count-first r items, count-first j items, none, here, there)
  count-more (suc i) (j ∷ items) r inside rest is =
      let more = count-more i items r (omega (arith, inside)) rest is in
      omega (arith, more, count-first j items, count-first j (slice_set items i r))

  drop-past : (x : ℕ) (items : List DirItem) (r : DirItem) → all_rest (drop x items) ≡ true → all_rest (drop (suc x) (slice_set items x r)) ≡ true
  drop-past x [] r rest = refl
  drop-past zero (i ∷ items) r rest = (and_parts _ _ rest).1
  drop-past (suc x) (i ∷ items) r rest = drop-past x items r rest

  replicated-rest : (n : ℕ) (i : DirItem) → not (is_recorded top i) ≡ true → all_rest (replicate n i) ≡ true
  replicated-rest zero i e = refl
  replicated-rest (suc n) i e = and_from _ _ e (replicated-rest n i e)

  -- the number behind the last record
  abbrev pub past_last : Option ℕ → ℕ
  past_last None = 0
  past_last (Some y) = y + 1

  past-comes : (x : ℕ) (o : Option ℕ) → comes_after x o ≡ true → past_last o ≤ x
  past-comes x None e = omega arith
  past-comes x (Some y) e = let less : y < x = ltb-true y x e in omega (arith, less)

  rest-further : (a x : ℕ) (items : List DirItem) → a ≤ x → all_rest (drop a items) ≡ true → all_rest (drop x items) ≡ true
  rest-further a x items le rest =
      let far : a + (x - a) ≡ x = omega arith in
      subst (λ k. all_rest (drop k items) ≡ true) far (ap all_rest (sym (drop-drop (x - a) a items)) ∙ rest-drop (x - a) (drop a items) rest)

  rest-at : not (is_recorded top (at_rest top)) ≡ true
  rest-at = elim top as (λ b. not (is_recorded b (at_rest b)) ≡ true) [ true ↦ refl | false ↦ refl ]

-- ---- what the words pass

if-then : (b x y : Bool) → (if b then x else y) ≡ true → b ≡ true → x ≡ true
if-then true x y e is = e
if-then false x y e is = cc

if-else : (b x y : Bool) → (if b then x else y) ≡ true → b ≡ false → y ≡ true
if-else true x y e is = cc
if-else false x y e is = e

hold-fits : (top : Bool) (w : ℕ) → (if top then nat_eq w 2 else nat_le w 2) ≡ true → nat_le w 2 ≡ true
hold-fits true w e = ap (λ w. nat_le w 2) (eqb-true w 2 e)
hold-fits false w e = e

-- ---- the records

module _ (n kids : ℕ) (top : Bool) where
  -- what the records that were read leave to those behind them
  pub record IsRecorded (r : Recorded) : Type 0 where
    pub many : length r.items ≡ n
    pub behind : all_rest top (drop (past_last top r.last) r.items) ≡ true

  pub record RecordsRead (steps : ℕ) (r : Recorded) (k : ℕ) (ws : List ℕ) (q : Read Recorded) : Type 0 where
    pub words : List ℕ
    pub spells : Spells k ws words q.at q.rest
    pub items : records_from top 0 q.value.items ≡ records_from top 0 r.items ++ words
    pub counts : count_by (is_recorded top) q.value.items ≡ count_by (is_recorded top) r.items + steps
    pub whole : IsRecorded q.value

  record-read : (r : Recorded) (k : ℕ) (ws : List ℕ) (q : Read Recorded) → IsRecorded r → read_record n kids top r k ws ≡ Ok q → RecordsRead 1 r k ws q
  record-read r k ws q ok e =
      word-step (λ x. nat_lt x n && comes_after x r.last) k ws _ q e (λ x k1 ws1 w1 p1 e.
      word-step (λ w. if top then nat_eq w 2 else nat_le w 2) k1 ws1 _ q e (λ hold k2 ws2 w2 p2 e.
      word-step (is_to 3) k2 ws2 _ q e (λ note k3 ws3 w3 p3 e.
      word-step (λ w. if nat_eq note 0 then nat_eq w 0 else nat_lt w kids) k3 ws3 _ q e (λ child k4 ws4 w4 p4 e.
      word-step (λ w. if nat_eq note 1 || nat_eq note 2 then joins_fit kids child w else nat_eq w 0) k4 ws4 _ q e (λ joined k5 ws5 w5 p5 e.
      word-step (λ w. nat_le w 1 && (not top || nat_eq w 0) && is_recorded top (record { hold = hold_of hold; note = note_of_words note child joined; answering = nat_eq w 1 })) k5 ws5 _ q e (λ answering k6 ws6 w6 p6 e.
      let i : DirItem = record { hold = hold_of hold; note = note_of_words note child joined; answering = nat_eq answering 1 } in
      let far = and_parts (nat_lt x n) (comes_after x r.last) p1 in
      let inside : x < length r.items = omega (arith, ltb-true x n far.0, ok.many) in
      let at = rest-further top (past_last top r.last) x r.items (past-comes top x r.last far.1) ok.behind in
      let all = and_parts (nat_le answering 1 && (not top || nat_eq answering 0)) (is_recorded top i) p6 in
      let few = (and_parts (nat_le answering 1) (not top || nat_eq answering 0) all.0).0 in
      let spelled : x ∷ hold ∷ note ∷ child ∷ joined ∷ answering ∷ [] ≡ record_words x i =
      ap (λ h. x ∷ h ∷ note ∷ child ∷ joined ∷ answering ∷ []) (hold-spelled hold (hold-fits top hold p2))
      ∙ ap (λ ns. x ∷ hold_number (hold_of hold) ∷ ns ++ answering ∷ []) (note-spelled note child joined p3 (λ none. eqb-true child 0 (if-then (nat_eq note 0) _ _ p4 none)) (λ alone. eqb-true joined 0 (if-else (nat_eq note 1 || nat_eq note 2) _ _ p5 alone)))
      ∙ ap (λ f. x ∷ hold_number (hold_of hold) ∷ note_words (note_of_words note child joined) ++ f ∷ []) (flag-spelled answering few) in
      ended (RecordsRead 1 r k ws) (record { value = record { last = Some x; items = slice_set r.items x i }; at = k6; rest = ws6 }) q
      (record {
        words = record_words x i;
        spells = spells-as spelled (spells-both w1 (spells-both w2 (spells-both w3 (spells-both w4 (spells-both w5 w6)))));
        items = record-more top 0 x r.items i inside at all.1 ∙ ap (λ y. records_from top 0 r.items ++ record_words y i) (zero-add x);
        counts = count-more top x r.items i inside at all.1;
        whole = record { many = length-set r.items x i ∙ ok.many; behind = subst (λ y. all_rest top (drop y (slice_set r.items x i)) ≡ true) (sym (add-one x)) (drop-past top x r.items i at) };
      }) e))))))

  records-times : (steps : ℕ) (r : Recorded) (k : ℕ) (ws : List ℕ) (q : Read Recorded) → IsRecorded r → times (read_record n kids top) steps r k ws ≡ Ok q → RecordsRead steps r k ws q
  unfolding times
  records-times zero r k ws q ok e =
      ended (RecordsRead zero r k ws) (record { value = r; at = k; rest = ws }) q
      (record { words = []; spells = spells-none k ws; items = sym (append-nil (records_from top 0 r.items)); counts = omega arith; whole = ok }) e
  records-times (suc steps) r k ws q ok e =
      step (read_record n kids top r k ws) _ q e (λ one is e.
      let a = record-read r k ws one ok is in
      let b = records-times steps one.value one.at one.rest q a.whole e in record {
        words = a.words ++ b.words;
        spells = spells-both a.spells b.spells;
        items = b.items ∙ ap (λ l. l ++ b.words) a.items ∙ append_assoc (records_from top 0 r.items) a.words b.words;
        counts = omega (arith, a.counts, b.counts);
        whole = b.whole;
      })

  pub record DirItems (k : ℕ) (ws : List ℕ) (q : Read Recorded) : Type 0 where
    pub spells : Spells k ws (records top q.value.items) q.at q.rest
    pub many : length q.value.items ≡ n

  pub records-read : (k : ℕ) (ws : List ℕ) (q : Read Recorded) → read_records n kids top k ws ≡ Ok q → DirItems k ws q
  unfolding records
  records-read k ws q e =
      word-step any_word k ws _ q e (λ count k1 ws1 w1 p1 e.
      let at_first : List DirItem = replicate n (at_rest top) in
      let rest = replicated-rest top n (at_rest top) (rest-at top) in
      let a = records-times count (record { last = None; items = at_first }) k1 ws1 q (record { many = length-replicate n (at_rest top); behind = rest }) e in
      let counts : count ≡ count_by (is_recorded top) q.value.items = omega (arith, a.counts, rest-counted top at_first rest) in
      let words : a.words ≡ records_from top 0 q.value.items = ap (λ l. l ++ a.words) (sym (rest-spelled top 0 at_first rest)) ∙ sym a.items in
      record { spells = spells-as (ap (λ c. c ∷ a.words) counts ∙ ap (λ l. count_by (is_recorded top) q.value.items ∷ l) words) (spells-both w1 a.spells); many = a.whole.many })
