-- Parts of code: what a part has at an address, and what several parts have together.
use Rattle.std.proofs.Common.{◌≡◌, ◌≢◌, ℕ, suc, ◌+◌, ◌-◌, ◌*◌, ◌/◌, ◌%◌, ◌<◌, ◌≤◌, Bool, true, false, List, [], ◌∷◌, ◌++◌, length, get_or, Option, Some, None, refl, sym, ◌∙◌, ap, inl, inr, ◌⊎◌, arith, zero, All, AllPairs, not, ◌==◌, vec_len, leb, subst}
use Rattle.std.specs.Prelude.{slice_get}
use Rattle.std.specs.List.{flat_map, filter, Contains}
use Rattle.std.specs.List.Sorted.{IsPermutation, IsNonDecreasingBy, IsPartitionPoint}
use Rattle.std.proofs.lemmas.List.{nil_from_length}
use Rattle.std.proofs.lemmas.List.Elements.{All-nil, All-cons, All-head, All-tail, All-from_get_or, All-weaker, filter_passes}
use Rattle.std.proofs.lemmas.List.Kept.{AllPairs-filter}
use Rattle.std.proofs.lemmas.List.Sorted.{All-permutation, Contains-permutation}
use Rattle.std.proofs.lemmas.Bool.{cases_lt, cases_Bool, eqb-true, eqb-false, not-true, leb-true, leb-false}
use Rattle.ddm_types.specs.declared.code_map.CodePart.{CodePart}
use Rattle.ddm_types.specs.CodeMap.{CodeWord, word_at, words_from, code_of, part_words, part_end, IsInPart, AreDisjoint, AreInOrder}
use Rattle.std.specs.Option.{option_map}
use Rattle.std.specs.Borrow.{Bor}
use Rattle.std.specs.Slice.{IsItemAt}
use Rattle.std.proofs.lemmas.Option.{slice_get_past, slice_get_read}
use Rattle.ddm_types.proofs.Permuted.{AllPairs-permutation}
use Rattle.ddm_types.proofs.Entries.{AreFrom, IsAscending, word_at-nil, word_at-same, word_at-other, word_at-append, from-weaker, code_of-unique, option_or-none}

words_from-nil : (s : ℕ) → words_from s [] ≡ []
unfolding words_from
words_from-nil s = refl

words_from-cons : (s w : ℕ) (ws : List ℕ) → words_from s (w ∷ ws) ≡ record { address = s; word = w } ∷ words_from (s + 4) ws
unfolding words_from
words_from-cons s w ws = refl

words_from-from : (m s : ℕ) (ws : List ℕ) (tail : List CodeWord) → m ≤ s → AreFrom m tail → AreFrom m (words_from s ws ++ tail)
words_from-from m s [] tail h a = rw words_from-nil a
words_from-from m s (w ∷ ws) tail h a = rw words_from-cons (h, words_from-from m (s + 4) ws tail (omega arith) a)

words_from-ascending : (s : ℕ) (ws : List ℕ) (tail : List CodeWord) → AreFrom (s + 4 * length ws) tail → IsAscending tail → IsAscending (words_from s ws ++ tail)
words_from-ascending s [] tail f a = rw words_from-nil a
words_from-ascending s (w ∷ ws) tail f a =
    let near : AreFrom (s + 1) tail = from-weaker (s + 1) (s + 4 * suc (length ws)) tail (omega arith) f in
    let far : AreFrom (s + 4 + 4 * length ws) tail = from-weaker (s + 4 + 4 * length ws) (s + 4 * suc (length ws)) tail (omega arith) f in
    rw words_from-cons (words_from-from (s + 1) (s + 4) ws tail (omega arith) near, words_from-ascending (s + 4) ws tail far a)

word_at-words_from_below : (s : ℕ) (ws : List ℕ) (pc : ℕ) → pc < s → word_at (words_from s ws) pc ≡ None
word_at-words_from_below s [] pc h = rw words_from-nil (word_at-nil pc)
word_at-words_from_below s (w ∷ ws) pc h =
    let ne : s ≢ pc = omega arith in
    rw words_from-cons (word_at-other (record { address = s; word = w }) (words_from (s + 4) ws) pc ne ∙ word_at-words_from_below (s + 4) ws pc (omega arith))

-- a whole number of words behind the start stands that word
word_at-words_from : (s : ℕ) (ws : List ℕ) (k : ℕ) → word_at (words_from s ws) (s + 4 * k) ≡ slice_get ws k
word_at-words_from s [] k = rw words_from-nil (word_at-nil (s + 4 * k))
word_at-words_from s (w ∷ ws) zero =
    let same : s ≡ s + 4 * 0 = omega arith in
    rw words_from-cons (word_at-same (record { address = s; word = w }) (words_from (s + 4) ws) (s + 4 * 0) same)
word_at-words_from s (w ∷ ws) (suc k) =
    let ne : s ≢ s + 4 * suc k = omega arith in
    let place : s + 4 * suc k ≡ s + 4 + 4 * k = omega arith in
    rw words_from-cons (word_at-other (record { address = s; word = w }) (words_from (s + 4) ws) (s + 4 * suc k) ne ∙ rw place (word_at-words_from (s + 4) ws k))

-- between two words' addresses there is none
word_at-words_from_between : (s : ℕ) (ws : List ℕ) (k r : ℕ) → 0 < r → r < 4 → word_at (words_from s ws) (s + (4 * k + r)) ≡ None
word_at-words_from_between s [] k r h l = rw words_from-nil (word_at-nil (s + (4 * k + r)))
word_at-words_from_between s (w ∷ ws) zero r h l =
    let ne : s ≢ s + (4 * 0 + r) = omega arith in
    rw words_from-cons (word_at-other (record { address = s; word = w }) (words_from (s + 4) ws) (s + (4 * 0 + r)) ne ∙ word_at-words_from_below (s + 4) ws (s + (4 * 0 + r)) (omega arith))
word_at-words_from_between s (w ∷ ws) (suc k) r h l =
    let ne : s ≢ s + (4 * suc k + r) = omega arith in
    let place : s + (4 * suc k + r) ≡ s + 4 + (4 * k + r) = omega arith in
    rw words_from-cons (word_at-other (record { address = s; word = w }) (words_from (s + 4) ws) (s + (4 * suc k + r)) ne ∙ rw place (word_at-words_from_between (s + 4) ws k r h l))

word_at-words_from_past : (s : ℕ) (ws : List ℕ) (pc : ℕ) → s + 4 * length ws ≤ pc → word_at (words_from s ws) pc ≡ None
word_at-words_from_past s [] pc h = rw words_from-nil (word_at-nil pc)
word_at-words_from_past s (w ∷ ws) pc h =
    let past : s + 4 * suc (length ws) ≤ pc = h in
    let ne : s ≢ pc = omega (arith, past) in
    rw words_from-cons (word_at-other (record { address = s; word = w }) (words_from (s + 4) ws) pc ne ∙ word_at-words_from_past (s + 4) ws pc (omega (arith, past)))

-- a part has no word at an address outside it
part_cases : (p : CodePart) (pc : ℕ) → IsInPart p pc ⊎ (word_at (part_words p) pc ≡ None)
part_cases p pc =
    elim (cases_lt pc p.start) [
      | inl h ↦ inr (word_at-words_from_below p.start p.words.items pc h)
      | inr h ↦
          elim (cases_lt pc (part_end p)) [
            | inl l ↦ inl (h, l)
            | inr l ↦ inr (word_at-words_from_past p.start p.words.items pc l)
          ]
    ]

-- ---- several parts

abbrev HasNot : ℕ → CodePart → Type 0
HasNot pc p = word_at (part_words p) pc ≡ None

flat-none : (ps : List CodePart) (pc : ℕ) → All (HasNot pc) ps → word_at (flat_map part_words ps) pc ≡ None
flat-none [] pc a = word_at-nil pc
flat-none (p ∷ ps) pc a =
    rw (word_at-append (part_words p) (flat_map part_words ps) pc, All-head (HasNot pc) p ps a) (flat-none ps pc (All-tail (HasNot pc) p ps a))

-- where no other part has a word, the one at k decides
flat-one : (ps : List CodePart) (k : ℕ) (d : CodePart) (pc : ℕ) → k < length ps → ((i : ℕ) → i < length ps → i ≢ k → HasNot pc (get_or ps i d)) → word_at (flat_map part_words ps) pc ≡ word_at (part_words (get_or ps k d)) pc
flat-one [] k d pc h others = absurd (omega arith)
flat-one (p ∷ ps) zero d pc h others =
    let rest : word_at (flat_map part_words ps) pc ≡ None = flat-none ps pc (All-from_get_or (HasNot pc) ps d (λ i l. others (suc i) (omega arith) (omega arith))) in
    rw (word_at-append (part_words p) (flat_map part_words ps) pc, rest) (option_or-none (word_at (part_words p) pc))
flat-one (p ∷ ps) (suc k) d pc h others =
    let first : word_at (part_words p) pc ≡ None = others zero (omega arith) (omega arith) in
    let rest = flat-one ps k d pc (omega arith) (λ i l ne. others (suc i) (omega arith) (omega arith)) in
    rw (word_at-append (part_words p) (flat_map part_words ps) pc, first) rest

none_some : (w : ℕ) → None ≡ Some w → ⊥
none_some w e = cc

option_cases : (o : Option ℕ) → (o ≡ None) ⊎ ((v : ℕ) × (o ≡ Some v))
option_cases None = inl refl
option_cases (Some v) = inr (v, refl)

-- which part has a word at an address, if any
flat-cases : (ps : List CodePart) (pc : ℕ) → All (HasNot pc) ps ⊎ ((r : CodePart) × (v : ℕ) × Contains ps r × (word_at (part_words r) pc ≡ Some v))
flat-cases [] pc = inl (All-nil (HasNot pc))
flat-cases (p ∷ ps) pc =
    elim (option_cases (word_at (part_words p) pc)) [
      | inr f ↦ inr (p, f.0, (zero, omega arith, refl), f.1)
      | inl n ↦
          elim (flat-cases ps pc) [
            | inl a ↦ inl (All-cons (HasNot pc) p ps n a)
            | inr f ↦ inr (f.0, f.1, (suc f.2.0, omega (arith, f.2.1), f.2.2), f.3)
          ]
    ]

-- of disjoint parts only one has a word at an address
only_one : (ps : List CodePart) (k : ℕ) (d : CodePart) (pc v : ℕ) → AllPairs AreDisjoint ps → k < length ps → word_at (part_words (get_or ps k d)) pc ≡ Some v → (i : ℕ) → i < length ps → i ≢ k → HasNot pc (get_or ps i d)
only_one ps k d pc v apart h found i l ne =
    elim (part_cases (get_or ps i d) pc) [
      | inr n ↦ n
      | inl mine ↦
          elim (part_cases (get_or ps k d) pc) [
            | inr n ↦ absurd (none_some v (sym n ∙ found))
            | inl other ↦
                elim (cases_lt i k) [
                  | inl b ↦ absurd (apart i k d b h pc mine other)
                  | inr b ↦ absurd (apart k i d (omega arith) l pc other mine)
                ]
          ]
    ]

flat-found : (ps : List CodePart) (r : CodePart) (pc v : ℕ) → AllPairs AreDisjoint ps → Contains ps r → word_at (part_words r) pc ≡ Some v → word_at (flat_map part_words ps) pc ≡ Some v
flat-found ps r pc v apart in' found =
    let here : word_at (part_words (get_or ps in'.0 r)) pc ≡ Some v = rw in'.2 found in
    flat-one ps in'.0 r pc in'.1 (only_one ps in'.0 r pc v apart in'.1 here) ∙ here

pub AreDisjoint-flip : (p q : CodePart) → AreDisjoint p q → AreDisjoint q p
AreDisjoint-flip p q apart address in_q in_p = apart address in_p in_q

-- the order of disjoint parts doesn't matter to look-ups
flat-permuted : (xs ys : List CodePart) → IsPermutation xs ys → AllPairs AreDisjoint xs → AllPairs AreDisjoint ys → (pc : ℕ) → word_at (flat_map part_words ys) pc ≡ word_at (flat_map part_words xs) pc
flat-permuted xs ys moves apart apart' pc =
    elim (flat-cases xs pc) [
      | inl a ↦ flat-none ys pc (All-permutation (HasNot pc) xs ys moves a) ∙ sym (flat-none xs pc a)
      | inr f ↦
          flat-found ys f.0 pc f.1 apart' (Contains-permutation xs ys f.0 moves f.2) f.3 ∙
          sym (flat-found xs f.0 pc f.1 apart f.2 f.3)
    ]

-- ---- parts in order

parts-from : (n : ℕ) (ps : List CodePart) → All (λ q. n ≤ q.start) ps → AreFrom n (flat_map part_words ps)
parts-from n [] a = tt
parts-from n (p ∷ ps) a =
    words_from-from n p.start p.words.items (flat_map part_words ps) (All-head (λ q. n ≤ q.start) p ps a) (parts-from n ps (All-tail (λ q. n ≤ q.start) p ps a))

in_order-head : (p : CodePart) (ps : List CodePart) → AreInOrder (p ∷ ps) → All (λ q. part_end p ≤ q.start) ps
in_order-head p ps o k d h = o zero (suc k) d (omega arith) (omega arith)

in_order-tail : (p : CodePart) (ps : List CodePart) → AreInOrder (p ∷ ps) → AreInOrder ps
in_order-tail p ps o i j d h l = o (suc i) (suc j) d (omega arith) (omega arith)

parts-ascending : (ps : List CodePart) → AreInOrder ps → IsAscending (flat_map part_words ps)
parts-ascending [] o = tt
parts-ascending (p ∷ ps) o =
    words_from-ascending p.start p.words.items (flat_map part_words ps)
    (parts-from (part_end p) ps (in_order-head p ps o))
    (parts-ascending ps (in_order-tail p ps o))

-- parts that ascend by their starts, none empty and all disjoint, are in order
in_order-from : (ps : List CodePart) → IsNonDecreasingBy (λ p. p.start) ps → All (λ p. 0 < length p.words.items) ps → AllPairs AreDisjoint ps → AreInOrder ps
in_order-from ps rise full apart i j d h l =
    elim (cases_lt (get_or ps j d).start (part_end (get_or ps i d))) [
      | inr far ↦ far
      | inl near ↦
          let up : (get_or ps i d).start ≤ (get_or ps j d).start = rise i j d (omega arith) l in
          let some : 0 < length (get_or ps j d).words.items = full j d l in
          absurd (apart i j d h l (get_or ps j d).start (up, near) (omega arith, omega (arith, some)))
    ]

-- ---- the code of some parts

-- the part has a word, as its length says
abbrev pub is_full : CodePart → Bool
is_full p = not (vec_len p.words == 0)

word_count : (p : CodePart) → vec_len p.words ≡ length p.words.items
word_count p = p.words.ok.0

no_words : (p : CodePart) → vec_len p.words ≡ 0 → p.words.items ≡ []
no_words p e = nil_from_length p.words.items (sym (word_count p) ∙ e)

flat-full : (ps : List CodePart) → flat_map part_words (filter is_full ps) ≡ flat_map part_words ps
flat-full [] = refl
flat-full (p ∷ ps) =
    elim (cases_Bool (vec_len p.words == 0)) [
      | inl e ↦ rw (e, no_words p (eqb-true (vec_len p.words) 0 e), words_from-nil p.start) (flat-full ps)
      | inr e ↦ rw (e, flat-full ps) refl
    ]

has_word : (p : CodePart) → is_full p ≡ true → 0 < length p.words.items
has_word p h =
    let ne : vec_len p.words ≢ 0 = eqb-false (vec_len p.words) 0 (not-true (vec_len p.words == 0) h) in
    let same = word_count p in
    omega arith

module _ (xs ys : List CodePart) (moves : IsPermutation (filter is_full xs) ys) (apart : AllPairs AreDisjoint xs) (rise : IsNonDecreasingBy (λ p. p.start) ys) where
  kept_apart : AllPairs AreDisjoint (filter is_full xs)
  kept_apart = AllPairs-filter AreDisjoint is_full xs apart

  moved_apart : AllPairs AreDisjoint ys
  moved_apart = AllPairs-permutation AreDisjoint AreDisjoint-flip (filter is_full xs) ys moves kept_apart

  moved_full : All (λ p. 0 < length p.words.items) ys
  moved_full = All-permutation (λ p. 0 < length p.words.items) (filter is_full xs) ys moves (All-weaker (λ p. is_full p ≡ true) (λ p. 0 < length p.words.items) has_word (filter is_full xs) (filter_passes is_full xs))

  -- full parts that were sorted by their starts are in order
  pub sorted-in_order : AreInOrder ys
  sorted-in_order = in_order-from ys rise moved_full moved_apart

  -- their words are the code of all parts
  pub sorted-code : flat_map part_words ys ≡ code_of (flat_map part_words xs)
  sorted-code =
      code_of-unique (flat_map part_words ys) (flat_map part_words xs) (parts-ascending ys sorted-in_order)
      (λ pc. flat-permuted (filter is_full xs) ys moves kept_apart moved_apart pc ∙ ap (λ (es : List CodeWord). word_at es pc) (flat-full xs))

-- ---- a look-up in parts in order

pub in_order-rise : (ps : List CodePart) → AreInOrder ps → IsNonDecreasingBy (λ p. p.start) ps
in_order-rise ps o i j d h l =
    elim (cases_lt i j) [
      | inl near ↦
          let up = o i j d near l in
          omega (arith, up)
      | inr far ↦
          let same : i ≡ j = omega arith in
          let P : ℕ → Type 0 = λ (k : ℕ). (get_or ps i d).start ≤ (get_or ps k d).start in
          subst P same (omega arith)
    ]

-- the parts up to place `at` are those that start at the pc or before it
module _ (ps : List CodePart) (pc at : ℕ) (order : AreInOrder ps) (point : IsPartitionPoint (λ p. leb p.start pc ≡ true) (λ p. leb p.start pc ≡ false) ps at) where
  pub before_all : at ≡ 0 → word_at (flat_map part_words ps) pc ≡ None
  before_all e =
      flat-none ps pc (λ k d h. word_at-words_from_below (get_or ps k d).start (get_or ps k d).words.items pc (leb-false (get_or ps k d).start pc (point.1 k d (omega arith) h)))

  pub started : (p : CodePart) → 0 < at → at ≤ length ps → p ≡ get_or ps (at - 1) p → p.start ≤ pc
  started p h l e = rw e (leb-true (get_or ps (at - 1) p).start pc (point.0 (at - 1) p (omega arith) (omega arith)))

  not_others : (p : CodePart) → 0 < at → at ≤ length ps → (i : ℕ) → i < length ps → i ≢ at - 1 → HasNot pc (get_or ps i p)
  not_others p h l i b ne =
      elim (cases_lt i at) [
        | inl before ↦
            let near = order i (at - 1) p (omega arith) (omega arith) in
            let here : (get_or ps (at - 1) p).start ≤ pc = leb-true (get_or ps (at - 1) p).start pc (point.0 (at - 1) p (omega arith) (omega arith)) in
            word_at-words_from_past (get_or ps i p).start (get_or ps i p).words.items pc (omega (arith, near, here))
        | inr behind ↦ word_at-words_from_below (get_or ps i p).start (get_or ps i p).words.items pc (leb-false (get_or ps i p).start pc (point.1 i p behind b))
      ]

  pub last_decides : (p : CodePart) → 0 < at → at ≤ length ps → p ≡ get_or ps (at - 1) p → word_at (flat_map part_words ps) pc ≡ word_at (part_words p) pc
  last_decides p h l e =
      flat-one ps (at - 1) p pc (omega arith) (not_others p h l) ∙ ap (λ (q : CodePart). word_at (part_words q) pc) (sym e)

-- what one part has at a pc behind its start
pub part-whole : (p : CodePart) (pc : ℕ) → p.start ≤ pc → (pc - p.start) % 4 ≡ 0 → word_at (part_words p) pc ≡ slice_get p.words.items ((pc - p.start) / 4)
part-whole p pc h e =
    let place : pc ≡ p.start + 4 * ((pc - p.start) / 4) = omega arith in
    ap (λ (n : ℕ). word_at (part_words p) n) place ∙ word_at-words_from p.start p.words.items ((pc - p.start) / 4)

pub part-between : (p : CodePart) (pc : ℕ) → p.start ≤ pc → (pc - p.start) % 4 ≢ 0 → word_at (part_words p) pc ≡ None
part-between p pc h ne =
    let place : pc ≡ p.start + (4 * ((pc - p.start) / 4) + (pc - p.start) % 4) = omega arith in
    ap (λ (n : ℕ). word_at (part_words p) n) place ∙ word_at-words_from_between p.start p.words.items ((pc - p.start) / 4) ((pc - p.start) % 4) (omega arith) (omega arith)

-- what `get` lends is the element
pub lent_item : (xs : List ℕ) (i : ℕ) (r : Option (Bor ℕ)) → IsItemAt xs i r → option_map (λ (x : Bor ℕ). x.now) r ≡ slice_get xs i
lent_item xs i None h = sym (slice_get_past xs i h.3)
lent_item xs i (Some x) h = sym (slice_get_read xs (length xs) i x.now refl h.3.0 h.1)
