-- Runs of items: sorted and swept, they have the items that the spans overlap, each once.
use Rattle.std.proofs.Common.{◌≡◌, ◌≢◌, ℕ, suc, zero, ◌+◌, ◌-◌, ◌*◌, ◌/◌, ◌<◌, ◌≤◌, Bool, true, false, ◌||◌, ◌&&◌, cond, eqb, ltb, leb, List, [], ◌∷◌, ◌++◌, length, map, max, refl, sym, ◌∙◌, ap, inl, inr, arith, get_or, All, ◌^◌, take, drop, length-append, Result, Ok, Err, IfOk}
use Rattle.std.specs.List.{flat_map, range_with_len, list_any}
use Rattle.std.specs.List.Sorted.{IsPermutation, IsNonDecreasingBy}
use Rattle.std.proofs.lemmas.Bool.{cases_lt, cases_eq, cond-true, cond-false, eq-eqb, ne_eqb, lt-ltb, le-ltb, lt-leb}
use Rattle.std.proofs.lemmas.List.{take_more, drop_more, append-nil, length-map}
use Rattle.std.proofs.lemmas.List.Concat.{flat_map-append}
use Rattle.std.proofs.lemmas.List.FromFn.{length-range_with_len}
use Rattle.std.proofs.lemmas.Bool.Decides.{nat_tests}
use Rattle.std.proofs.lemmas.List.Elements.{All-nil, All-cons, All-head, All-tail}
use Rattle.std.proofs.lemmas.List.Sorted.{list_any-IsPermutation}
use Rattle.ddm_types.specs.declared.item_table.Run.{Run}
use Rattle.ddm_types.specs.declared.sizes.Span.{Span}
use Rattle.ddm_types.specs.ItemTable.{IsItemSize, span_end, overlaps, span_numbers, item_numbers, item_count, item_row, items_of}
use Rattle.ddm_types.specs.ItemRuns.{run_numbers, run_of, swept, AreRunsFrom}
use Rattle.ddm_types.proofs.Ascending.{has, AreFrom, IsAscending, from-weaker, has_below, has-append, has-range, has-fold, fold-ascending, range-from, range-ascending, same_from_has}

-- the run has the item
abbrev pub in_run : ℕ → Run → Bool
in_run n r = leb r.first n && ltb n r.end

within : (n a e : ℕ) → (leb a n && ltb n (a + (e - a))) ≡ (leb a n && ltb n e)
within n a e = grind (arith, nat_tests)

has-run_numbers : (n : ℕ) (r : Run) → has n (run_numbers r) ≡ in_run n r
has-run_numbers n r = has-range n r.first (r.end - r.first) ∙ within n r.first r.end

-- ---- sweeping

-- the runs' first items are m or above
abbrev FirstsFrom : ℕ → List Run → Type 0
FirstsFrom m [] = Unit {0}
FirstsFrom m (r ∷ rs) = (m ≤ r.first) × FirstsFrom m rs

-- the runs are in order of their first items
abbrev IsRising : List Run → Type 0
IsRising [] = Unit {0}
IsRising (r ∷ rs) = FirstsFrom r.first rs × IsRising rs

firsts-from : (m : ℕ) (rs : List Run) → ((k : ℕ) (d : Run) → k < length rs → m ≤ (get_or rs k d).first) → FirstsFrom m rs
firsts-from m [] h = tt
firsts-from m (r ∷ rs) h = (h zero r (omega arith), firsts-from m rs (λ k d l. h (suc k) d (omega arith)))

rising-from : (rs : List Run) → IsNonDecreasingBy (λ r. r.first) rs → IsRising rs
rising-from [] h = tt
rising-from (r ∷ rs) h = (
  firsts-from r.first rs (λ k d l. h zero (suc k) d (omega arith) (omega arith)),
  rising-from rs (λ i j d l b. h (suc i) (suc j) d (omega arith) (omega arith)),
)

not_before : (m n : ℕ) (rs : List Run) → FirstsFrom m rs → n < m → list_any (in_run n) rs ≡ false
not_before m n [] f h = refl
not_before m n (r ∷ rs) f h =
    let far : leb r.first n ≡ false = lt-leb r.first n (omega (arith, f.0)) in
    rw far (not_before m n rs f.1 h)

swept-new : (next : ℕ) (r : Run) (rs : List Run) → max next r.first < r.end → swept next (r ∷ rs) ≡ record { first = max next r.first; end = r.end } ∷ swept r.end rs
swept-new next r rs h = cond-true (ltb (max next r.first) r.end) _ _ (lt-ltb (max next r.first) r.end h)

swept-old : (next : ℕ) (r : Run) (rs : List Run) → r.end ≤ max next r.first → swept next (r ∷ rs) ≡ swept next rs
swept-old next r rs h = cond-false (ltb (max next r.first) r.end) _ _ (le-ltb (max next r.first) r.end h)

-- what is swept lies in order
runs-weaker : (m n : ℕ) (rs : List Run) → m ≤ n → AreRunsFrom n rs → AreRunsFrom m rs
runs-weaker m n [] h a = tt
runs-weaker m n (r ∷ rs) h a = (omega (arith, a.0), a.1, a.2)

pub swept-in_order : (next : ℕ) (rs : List Run) → AreRunsFrom next (swept next rs)
swept-in_order next [] = tt
swept-in_order next (r ∷ rs) =
    elim (cases_lt (max next r.first) r.end) [
      | inl h ↦ rw (swept-new next r rs h) (omega arith, h, swept-in_order r.end rs)
      | inr h ↦ rw (swept-old next r rs h) (swept-in_order next rs)
    ]

runs-from : (m : ℕ) (rs : List Run) → AreRunsFrom m rs → AreFrom m (flat_map run_numbers rs)
runs-from m [] a = tt
runs-from m (r ∷ rs) a = range-from m r.first (r.end - r.first) (flat_map run_numbers rs) a.0 (from-weaker m r.end (flat_map run_numbers rs) (omega (arith, a.0, a.1)) (runs-from r.end rs a.2))

pub runs-ascending : (m : ℕ) (rs : List Run) → AreRunsFrom m rs → IsAscending (flat_map run_numbers rs)
runs-ascending m [] a = tt
runs-ascending m (r ∷ rs) a =
    range-ascending r.first (r.end - r.first) (flat_map run_numbers rs)
    (from-weaker (r.first + (r.end - r.first)) r.end (flat_map run_numbers rs) (omega (arith, a.1)) (runs-from r.end rs a.2))
    (runs-ascending r.end rs a.2)

same_run : (next n a e : ℕ) → next ≤ n → (leb (max next a) n && ltb n (max next a + (e - max next a))) ≡ (leb a n && ltb n e)
same_run next n a e h = grind (arith, nat_tests)

out_run : (next n a e : ℕ) → next ≤ n → e ≤ max next a → (leb a n && ltb n e) ≡ false
out_run next n a e h l = grind (arith, nat_tests)

in_it : (n a e : ℕ) → a ≤ n → n < e → (leb a n && ltb n e) ≡ true
in_it n a e h l = grind (arith, nat_tests)

-- of numbers from `next` on, what is swept has those of the runs
swept-has : (next n : ℕ) (rs : List Run) → IsRising rs → next ≤ n → has n (flat_map run_numbers (swept next rs)) ≡ list_any (in_run n) rs
swept-has next n [] up h = refl
swept-has next n (r ∷ rs) up h =
    elim (cases_lt (max next r.first) r.end) [
      | inl new ↦
          rw (swept-new next r rs new, has-append n (range_with_len (max next r.first) (r.end - max next r.first)) (flat_map run_numbers (swept r.end rs)), has-range n (max next r.first) (r.end - max next r.first), same_run next n r.first r.end h)
          (elim (cases_lt n r.end) [
            | inl below ↦ rw (has_below r.end n (flat_map run_numbers (swept r.end rs)) below (runs-from r.end (swept r.end rs) (swept-in_order r.end rs)))
                (elim (cases_lt n r.first) [
                  | inl before ↦ rw (not_before r.first n rs up.0 before) refl
                  | inr in' ↦ rw (in_it n r.first r.end in' below) refl
                ])
            | inr above ↦ rw (swept-has r.end n rs up.1 above) refl
          ])
      | inr old ↦ rw (swept-old next r rs old, out_run next n r.first r.end h old) (swept-has next n rs up.1 h)
    ]

-- what is swept ends where the runs end
pub swept-bound : (size next : ℕ) (rs : List Run) → All (λ r. r.end * size ≤ 2 ^ 32) rs → All (λ r. r.end * size ≤ 2 ^ 32) (swept next rs)
swept-bound size next [] a = All-nil (λ (r : Run). r.end * size ≤ 2 ^ 32)
swept-bound size next (r ∷ rs) a =
    let P : Run → Type 0 = λ (r : Run). r.end * size ≤ 2 ^ 32 in
    let here : r.end * size ≤ 2 ^ 32 = All-head P r rs a in
    elim (cases_lt (max next r.first) r.end) [
      | inl new ↦ rw (swept-new next r rs new) (All-cons P (record { first = max next r.first; end = r.end }) (swept r.end rs) here (swept-bound size r.end rs (All-tail P r rs a)))
      | inr old ↦ rw (swept-old next r rs old) (swept-bound size next rs (All-tail P r rs a))
    ]

-- ---- the items of spans

-- an item is in a span's run where the span overlaps it
in_run-run_of : (size n : ℕ) (s : Span) → IsItemSize size → in_run n (run_of size s) ≡ overlaps size (n * size) s
in_run-run_of size n s (inl e) = rw e (narrow n s.start s.bytes) where
  narrow : (n a b : ℕ) → (leb (a / 16) n && ltb n (cond (eqb b 0) (a / 16) ((a + b - 1) / 16 + 1))) ≡ (ltb 0 b && (ltb a (n * 16 + 16) && ltb (n * 16) (a + b)))
  narrow n a b = grind (arith, nat_tests)
in_run-run_of size n s (inr e) = rw e (wide n s.start s.bytes) where
  wide : (n a b : ℕ) → (leb (a / 64) n && ltb n (cond (eqb b 0) (a / 64) ((a + b - 1) / 64 + 1))) ≡ (ltb 0 b && (ltb a (n * 64 + 64) && ltb (n * 64) (a + b)))
  wide n a b = grind (arith, nat_tests)

span_numbers-empty : (size : ℕ) (s : Span) → s.bytes ≡ 0 → span_numbers size s ≡ []
unfolding span_numbers
span_numbers-empty size s e = cond-true (eqb s.bytes 0) _ _ (eq-eqb s.bytes 0 e)

span_numbers-full : (size : ℕ) (s : Span) → s.bytes ≢ 0 → span_numbers size s ≡ range_with_len (s.start / size) ((span_end s - 1) / size + 1 - s.start / size)
unfolding span_numbers
span_numbers-full size s ne = cond-false (eqb s.bytes 0) _ _ (ne_eqb s.bytes 0 ne)

-- an item is among a span's where it is in the span's run
has-span_numbers : (size n : ℕ) (s : Span) → has n (span_numbers size s) ≡ in_run n (run_of size s)
has-span_numbers size n s =
    elim (cases_eq s.bytes 0) [
      | inl e ↦ rw (span_numbers-empty size s e, eq-eqb s.bytes 0 e) (none n (s.start / size))
      | inr ne ↦ rw (span_numbers-full size s ne, has-range n (s.start / size) ((span_end s - 1) / size + 1 - s.start / size), ne_eqb s.bytes 0 ne) (within n (s.start / size) ((span_end s - 1) / size + 1))
    ] where
      none : (n a : ℕ) → false ≡ (leb a n && ltb n a)
      none n a = grind (arith, nat_tests)

has-all_numbers : (size n : ℕ) (spans : List Span) → has n (flat_map (span_numbers size) spans) ≡ list_any (in_run n) (map (run_of size) spans)
has-all_numbers size n [] = refl
has-all_numbers size n (s ∷ spans) =
    rw (has-append n (span_numbers size s) (flat_map (span_numbers size) spans), has-span_numbers size n s, has-all_numbers size n spans) refl

or_false : (a : Bool) → (a || false) ≡ a
or_false true = refl
or_false false = refl

has-item_numbers : (size n : ℕ) (spans : List Span) → has n (item_numbers size spans) ≡ list_any (in_run n) (map (run_of size) spans)
unfolding item_numbers
has-item_numbers size n spans =
    has-fold n [] (flat_map (span_numbers size) spans) ∙ or_false (has n (flat_map (span_numbers size) spans)) ∙ has-all_numbers size n spans

-- an item is there exactly where a span overlaps it
pub item_numbers-overlap : (size n : ℕ) (spans : List Span) → IsItemSize size → has n (item_numbers size spans) ≡ list_any (overlaps size (n * size)) spans
item_numbers-overlap size n spans sized = has-item_numbers size n spans ∙ any-overlap spans where
  any-overlap : (spans : List Span) → list_any (in_run n) (map (run_of size) spans) ≡ list_any (overlaps size (n * size)) spans
  any-overlap [] = refl
  any-overlap (s ∷ spans) = rw (in_run-run_of size n s sized, any-overlap spans) refl

-- items come in order, each once
pub item_numbers-ascending : (size : ℕ) (spans : List Span) → IsAscending (item_numbers size spans)
unfolding item_numbers
item_numbers-ascending size spans = fold-ascending [] (flat_map (span_numbers size) spans) tt

-- the runs of the spans, sorted and swept, have the items of the spans
pub swept-numbers : (size : ℕ) (spans : List Span) (sorted : List Run) → IsPermutation (map (run_of size) spans) sorted → IsNonDecreasingBy (λ r. r.first) sorted → flat_map run_numbers (swept 0 sorted) ≡ item_numbers size spans
swept-numbers size spans sorted moves rise =
    same_from_has (flat_map run_numbers (swept 0 sorted)) (item_numbers size spans)
    (runs-ascending 0 (swept 0 sorted) (swept-in_order 0 sorted))
    (item_numbers-ascending size spans)
    (λ n.
    swept-has 0 n sorted (rising-from sorted rise) (omega arith) ∙
    sym (list_any-IsPermutation (in_run n) (map (run_of size) spans) sorted moves) ∙
    sym (has-item_numbers size n spans))

-- ---- counting

-- a loop's step: the items of one more run
pub counted_more : (rs : List Run) (i : ℕ) (d : Run) → i < length rs → length (flat_map run_numbers (take (i + 1) rs)) ≡ length (flat_map run_numbers (take i rs)) + ((get_or rs i d).end - (get_or rs i d).first)
counted_more rs i d h =
    let r = get_or rs i d in
    rw (take_more rs i d h, flat_map-append run_numbers (take i rs) (r ∷ []))
    (length-append (flat_map run_numbers (take i rs)) (run_numbers r ++ []) ∙
    ap (λ (n : ℕ). length (flat_map run_numbers (take i rs)) + n) (ap (λ (l : List ℕ). length l) (append-nil (run_numbers r)) ∙ length-range_with_len r.first (r.end - r.first)))

-- a loop's step: what is left lies behind what was counted
pub rest_more : (rs : List Run) (i count : ℕ) (d : Run) → i < length rs → AreRunsFrom count (drop i rs) → AreRunsFrom (count + ((get_or rs i d).end - (get_or rs i d).first)) (drop (i + 1) rs)
rest_more rs i count d h a =
    let r = get_or rs i d in
    let mine : AreRunsFrom count (r ∷ drop (i + 1) rs) = rw (drop_more rs i d h) at a in
    runs-weaker (count + (r.end - r.first)) r.end (drop (i + 1) rs) (omega (arith, mine.0, mine.1)) mine.2

pub item_count-items_of : (size : ℕ) (spans : List Span) → item_count (items_of size spans) ≡ length (item_numbers size spans)
unfolding items_of
item_count-items_of size spans = length-map (item_numbers size spans) (item_row size spans)

-- what follows of the value in an `Ok`
pub IfOk_then : {X Y : Type 0} (r : Result X Y) {P Q : X → Type 0} → IfOk r P → ((x : X) → P x → Q x) → IfOk r Q
IfOk_then (Ok x) h f = f x h
IfOk_then (Err e) h f = h
