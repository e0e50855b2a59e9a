-- The items of a directory, and the children in a set.
-- Letters: x is an item, i what is kept of one, is of each from x on.
use Rattle.std.proofs.Common.{true≢false, ◌≡◌, ◌≤◌, ◌<◌, ℕ, suc, ◌+◌, ◌-◌, Bool, true, false, cond, List, [], ◌∷◌, ◌++◌, codes, drop, length, filter, flat_map, slice_index, refl, sym, ap, subst, ◌∙◌, append_assoc, arith}
use Rattle.std.specs.List.{range_with_len}
use Rattle.std.specs.Prelude.{count_by}
use Rattle.std.proofs.lemmas.List.Sums.{sum_by-cons}
use Rattle.film_parts.specs.StateWords.Parts.{is_recorded, record_words, records, records_from}
use Rattle.std.proofs.lemmas.List.{drop_all}
use Rattle.film_parts.specs.DdmText.Adds.{Adds, ◌▸◌}
use Rattle.film_parts.specs.DdmTypes.declared.sizes.Hold.{Hold}
use Rattle.film_parts.specs.Puts.{Puts, Tells}
use Rattle.film_parts.specs.Records.{IsPlain}
use Rattle.film_parts.specs.StateWords.Numbers.{flag_number, hold_number, note_words}
use Rattle.film_parts.specs.TreeModel.State.Values.{DirItem, Note, no_note, local, up_read, up_erase}
use Rattle.film_model.specs.Part.{Part, numbered}
use Rattle.film_parts.proofs.ListSteps.{Split}
use Rattle.film_parts.proofs.Numbered.{numbered_step, numbered_last}
use Rattle.film_parts.specs.TreeModel.State.Directory.{in_set}
use Rattle.film_model.specs.Directory.{answering_text, dir_item_text, hold_text, note_text, set_text}
use Rattle.film_model.specs.Part.{number_text}

-- ---- sets

-- of so many children from one on, those in the set
abbrev pub members_from : ℕ → ℕ → ℕ → List ℕ
members_from first count set = flat_map number_text (filter (λ c. in_set c set) (range_with_len first count))

pub all_members : (out : List ℕ) (children set : ℕ) → out ++ members_from 0 (children - 0) set ≡ out ++ set_text children set
unfolding set_text
all_members out children set = let same : children - 0 ≡ children = omega arith in ap (λ n. out ++ members_from 0 n set) same

member_or_not : (b : Bool) (child : ℕ) (cs : List ℕ) → flat_map number_text (cond b (child ∷ cs) cs) ≡ cond b (number_text child) [] ++ flat_map number_text cs
member_or_not true child cs = refl
member_or_not false child cs = refl

pub first_member : (child children set : ℕ) → child < children → members_from child (children - child) set ≡ cond (in_set child set) (number_text child) [] ++ members_from (child + 1) (children - (child + 1)) set
first_member child children set inside =
    let one_more : children - child ≡ suc (children - (child + 1)) = omega arith in
    ap (λ n. members_from child n set) one_more ∙ member_or_not (in_set child set) child (filter (λ c. in_set c set) (range_with_len (child + 1) (children - (child + 1))))

pub no_members : (child children set : ℕ) → children ≤ child → members_from child (children - child) set ≡ []
no_members child children set past = let none : children - child ≡ 0 = omega arith in ap (λ n. members_from child n set) none

-- ---- records

two_sums : (b : Bool) (n : ℕ) → cond b 1 0 + n ≡ cond b (suc n) n
two_sums true n = omega arith
two_sums false n = omega arith

module _ (top : Bool) where
  pub count_first : (i : DirItem) (more : List DirItem) → count_by (is_recorded top) (i ∷ more) ≡ cond (is_recorded top i) (suc (count_by (is_recorded top) more)) (count_by (is_recorded top) more)
  count_first i more = sum_by-cons (λ e. cond (is_recorded top e) 1 0) i more ∙ two_sums (is_recorded top i) (count_by (is_recorded top) more)

  -- an item with its record, and one without
  recorded_words : (x : ℕ) (i : DirItem) (more : List DirItem) → is_recorded top i ≡ true → records_from top x (i ∷ more) ≡ record_words x i ++ records_from top (x + 1) more
  unfolding records_from
  recorded_words x i more recorded = ap (λ b. cond b (record_words x i) [] ++ records_from top (x + 1) more) recorded

  other_words : (x : ℕ) (i : DirItem) (more : List DirItem) → is_recorded top i ≡ false → records_from top x (i ∷ more) ≡ records_from top (x + 1) more
  unfolding records_from
  other_words x i more other = ap (λ b. cond b (record_words x i) [] ++ records_from top (x + 1) more) other

  -- a record that is next is of this item or a later one
  head_later : (i : DirItem) (more : List DirItem) (x : ℕ) (rest : List ℕ) (b : Bool) → is_recorded top i ≡ b → 0 < count_by (is_recorded top) (i ∷ more)
      → (0 < count_by (is_recorded top) more → x + 1 ≤ slice_index (records_from top (x + 1) more ++ rest) 0) → x ≤ slice_index (records_from top x (i ∷ more) ++ rest) 0
  head_later i more x rest true recorded some later = rw (recorded_words x i more recorded) (omega arith)
  head_later i more x rest false other some later =
      let fewer : count_by (is_recorded top) (i ∷ more) ≡ count_by (is_recorded top) more = count_first i more ∙ ap (λ b. cond b (suc (count_by (is_recorded top) more)) (count_by (is_recorded top) more)) other in
      let after : x + 1 ≤ slice_index (records_from top (x + 1) more ++ rest) 0 = later (subst (λ n. 0 < n) fewer some) in
      rw (other_words x i more other) (omega (arith, after))

  -- a record that is next is of this item or a later one
  later_head : (is : List DirItem) (x : ℕ) (rest : List ℕ) → 0 < count_by (is_recorded top) is → x ≤ slice_index (records_from top x is ++ rest) 0
  later_head [] x rest some = absurd (omega arith)
  later_head (i ∷ more) x rest some = head_later i more x rest (is_recorded top i) refl some (later_head more (x + 1) rest)

-- the record of an item, word by word
three_words : (n : Note) → note_words n ≡ slice_index (note_words n) 0 ∷ slice_index (note_words n) 1 ∷ slice_index (note_words n) 2 ∷ []
three_words no_note = refl
three_words (local first joined) = refl
three_words (up_read first joined) = refl
three_words (up_erase child) = refl

pub record_spelled : (w0 rest : List ℕ) (x : ℕ) (i : DirItem) → w0 ≡ record_words x i ++ rest
    → w0 ≡ x ∷ hold_number i.hold ∷ slice_index (note_words i.note) 0 ∷ slice_index (note_words i.note) 1 ∷ slice_index (note_words i.note) 2 ∷ flag_number i.answering ∷ rest
record_spelled w0 rest x i is = is ∙ ap (λ (ws : List ℕ). (x ∷ hold_number i.hold ∷ ws ++ flag_number i.answering ∷ []) ++ rest) (three_words i.note)

pub note_spelled : (n : Note) {a b c : ℕ} → a ≡ slice_index (note_words n) 0 → b ≡ slice_index (note_words n) 1 → c ≡ slice_index (note_words n) 2 → a ∷ b ∷ c ∷ [] ≡ note_words n
note_spelled n a b c = rw (a, b, c) (sym (three_words n))

pub item_put : {o0 o1 o2 o3 : List ℕ} (children : ℕ) (i : DirItem) → Adds o0 o1 (hold_text i.hold) → Adds o1 o2 (note_text children i.note) → Adds o2 o3 (answering_text i.answering) → Adds o0 o3 (dir_item_text children i)
unfolding dir_item_text
item_put children i hold note answering = hold ▸ note ▸ answering

-- what is told of an item without a record
plain_text : (children : ℕ) (top : Bool) (hold : Hold) (note : Note) (answering : Bool) → is_recorded top (record { hold = hold; note = note; answering = answering }) ≡ false
    → IsPlain top (record { hold = hold; note = note; answering = answering }) → dir_item_text children (record { hold = hold; note = note; answering = answering }) ≡ cond top (codes " E") []
unfolding dir_item_text hold_text note_text answering_text
plain_text children true hold no_note answering other plain = rw (plain.0, plain.1) refl
plain_text children true hold (local first joined) answering other plain = absurd (true≢false other)
plain_text children true hold (up_read first joined) answering other plain = absurd (true≢false other)
plain_text children true hold (up_erase child) answering other plain = absurd (true≢false other)
plain_text children false Hold.Invalid no_note false other plain = refl
plain_text children false Hold.Invalid no_note true other plain = absurd (true≢false other)
plain_text children false Hold.Invalid (local first joined) answering other plain = absurd (true≢false other)
plain_text children false Hold.Invalid (up_read first joined) answering other plain = absurd (true≢false other)
plain_text children false Hold.Invalid (up_erase child) answering other plain = absurd (true≢false other)
plain_text children false Hold.Shared note answering other plain = absurd (true≢false other)
plain_text children false Hold.Exclusive note answering other plain = absurd (true≢false other)

-- whether a record is next
module _ (top : Bool) (words rest : List ℕ) (x : ℕ) (i : DirItem) (more : List DirItem) (records : ℕ) (is : words ≡ records_from top x (i ∷ more) ++ rest) (count : records ≡ count_by (is_recorded top) (i ∷ more)) where
  pub next_is_recorded : 0 < records → slice_index words 0 ≡ x → is_recorded top i ≡ true
  next_is_recorded some head = go (is_recorded top i) refl where
    go : (b : Bool) → is_recorded top i ≡ b → is_recorded top i ≡ true
    go true recorded = recorded
    go false other =
        let fewer : records ≡ count_by (is_recorded top) more = count ∙ count_first top i more ∙ ap (λ b. cond b (suc (count_by (is_recorded top) more)) (count_by (is_recorded top) more)) other in
        let later : x + 1 ≤ slice_index (records_from top (x + 1) more ++ rest) 0 = later_head top more (x + 1) rest (subst (λ n. 0 < n) fewer some) in
        let same : slice_index (records_from top (x + 1) more ++ rest) 0 ≡ x = ap (λ (ws : List ℕ). slice_index (ws ++ rest) 0) (sym (other_words top x i more other)) ∙ ap (λ (ws : List ℕ). slice_index ws 0) (sym is) ∙ head in
        absurd (omega (arith, later, same))

  pub other_is_not : (b : Bool) → b ≡ false → (0 < records → slice_index words 0 ≡ x → b ≡ true) → is_recorded top i ≡ false
  other_is_not b not_next would = go (is_recorded top i) refl where
    go : (r : Bool) → is_recorded top i ≡ r → is_recorded top i ≡ false
    go false other = other
    go true recorded =
        let several : records ≡ suc (count_by (is_recorded top) more) = count ∙ count_first top i more ∙ ap (λ r. cond r (suc (count_by (is_recorded top) more)) (count_by (is_recorded top) more)) recorded in
        let head : slice_index words 0 ≡ x = ap (λ (ws : List ℕ). slice_index ws 0) (is ∙ ap (λ (ws : List ℕ). ws ++ rest) (recorded_words top x i more recorded)) in
        absurd (true≢false (sym (would (omega (arith, several)) head) ∙ not_next))

  module _ (children : ℕ) {old new : List ℕ} where
    -- the record was read
    pub recorded_put : {after : List ℕ} → is_recorded top i ≡ true → ((y : ℕ) (j : DirItem) (left : List ℕ) → words ≡ record_words y j ++ left → Puts old new (dir_item_text children j) after left)
        → (records - 1 ≡ count_by (is_recorded top) more) × Puts old new (dir_item_text children i) after (records_from top (x + 1) more ++ rest)
    recorded_put recorded put =
        let several : records ≡ suc (count_by (is_recorded top) more) = count ∙ count_first top i more ∙ ap (λ r. cond r (suc (count_by (is_recorded top) more)) (count_by (is_recorded top) more)) recorded in
        (omega (arith, several), put x i (records_from top (x + 1) more ++ rest) (is ∙ ap (λ (ws : List ℕ). ws ++ rest) (recorded_words top x i more recorded) ∙ append_assoc (record_words x i) (records_from top (x + 1) more) rest))

    -- there is none
    pub plain_put : is_recorded top i ≡ false → IsPlain top i → Adds old new (cond top (codes " E") [])
        → (records ≡ count_by (is_recorded top) more) × Puts old new (dir_item_text children i) words (records_from top (x + 1) more ++ rest)
    plain_put other plain added =
        let fewer : records ≡ count_by (is_recorded top) more = count ∙ count_first top i more ∙ ap (λ b. cond b (suc (count_by (is_recorded top) more)) (count_by (is_recorded top) more)) other in
        (fewer, record { added = rw (plain_text children top i.hold i.note i.answering other plain) added; left = is ∙ ap (λ (ws : List ℕ). ws ++ rest) (other_words top x i more other) })

-- ---- all items

-- before the item x: the words and the records that are left, and the parts so far
pub record ItemsAt (top : Bool) (part : ℕ → DirItem → Part) (is : List DirItem) (rest : List ℕ) (start : List Part) (x : ℕ) (words : List ℕ) (left : ℕ) (now : List Part) : Type 0 where
  pub words_are : words ≡ records_from top x (drop x is) ++ rest
  pub left_is : left ≡ count_by (is_recorded top) (drop x is)
  pub parts_are : now ++ numbered part x (drop x is) ≡ start ++ numbered part 0 is

pub items_first : (top : Bool) (part : ℕ → DirItem → Part) (is : List DirItem) (rest : List ℕ) (start : List Part) (w0 words : List ℕ) (left : ℕ) → w0 ≡ records top is ++ rest → words ≡ drop 1 w0 → left ≡ slice_index w0 0
    → ItemsAt top part is rest start 0 words left start
unfolding records
items_first top part is rest start w0 words left all behind first = record { words_are = behind ∙ ap (drop 1) all; left_is = first ∙ ap (λ (w : List ℕ). slice_index w 0) all; parts_are = refl }

pub items_next : (top : Bool) (part : ℕ → DirItem → Part) (is : List DirItem) (rest : List ℕ) (start : List Part) (x : ℕ) (words : List ℕ) (left : ℕ) (now : List Part) (after : List ℕ) (fewer : ℕ) (grown : List Part)
    → ItemsAt top part is rest start x words left now → Split (IsPlain top) x is
    → ((i : DirItem) (more : List DirItem) (behind : List ℕ) → words ≡ records_from top x (i ∷ more) ++ behind → left ≡ count_by (is_recorded top) (i ∷ more) → IsPlain top i
    → (fewer ≡ count_by (is_recorded top) more) × Tells now grown (part x i ∷ []) after (records_from top (x + 1) more ++ behind))
    → ItemsAt top part is rest start (x + 1) after fewer grown
items_next top part is rest start x words left now after fewer grown at one step =
    let told = step one.x (drop (suc x) is) rest (at.words_are ∙ ap (λ (js : List DirItem). records_from top x js ++ rest) one.is) (at.left_is ∙ ap (count_by (is_recorded top)) one.is) one.holds in
    let place : suc x ≡ x + 1 = omega arith in
    record {
      words_are = told.1.left ∙ ap (λ n. records_from top (x + 1) (drop n is) ++ rest) place;
      left_is = told.0 ∙ ap (λ n. count_by (is_recorded top) (drop n is)) place;
      parts_are = ap (λ n. grown ++ numbered part (x + 1) (drop n is)) (sym place) ∙ numbered_step part x one.x (drop x is) (drop (suc x) is) start (numbered part 0 is) now grown one.is at.parts_are told.1.told;
    }

pub items_last : (top : Bool) (part : ℕ → DirItem → Part) (is : List DirItem) (rest : List ℕ) (start : List Part) (x : ℕ) (words : List ℕ) (left : ℕ) (now : List Part) → length is ≤ x → ItemsAt top part is rest start x words left now
    → Tells start now (numbered part 0 is) words rest
unfolding records_from
items_last top part is rest start x words left now past at =
    let none : drop x is ≡ [] = drop_all x is past in
    record { told = numbered_last part x (drop x is) start (numbered part 0 is) now none at.parts_are; left = at.words_are ∙ ap (λ (js : List DirItem). records_from top x js ++ rest) none }
