-- The table of counts as entries come and go.
use Rattle.std.proofs.Common.{◌≡◌, ◌∙◌, ap, sym, subst, refl, ℕ, zero, suc, ◌<◌, ◌≤◌, ◌+◌, ◌-◌, ◌^◌, Bool, true, false, cond, ◌||◌, nat_eq, nat_lt, List, [], ◌∷◌, ◌++◌, length, get_or, drop, Option, Some, None, IfSome, Bor, option_copied, arith, add-zero, zero-add, length-append}
use Rattle.std.proofs.Math.ListN.{set, length-set, replicate}
use Rattle.std.specs.List.{count_by, slice_get, list_any}
use Rattle.std.proofs.lemmas.Bool.{eqb-true, eqb-false, lt-ltb}
use Rattle.std.proofs.lemmas.Grind.{get_or-set_at}
use Rattle.std.proofs.lemmas.List.Sums.{sum_by-cons, sum_by-append}
use Rattle.std.proofs.lemmas.List.{get_or-set_other}
use Rattle.tx_queue.specs.TreeModel.State.Lists.{names_item}
use Rattle.tx_queue.specs.QueueList.{count_naming, AllBelow, IsCounted}
use Rattle.tx_queue.specs.TreeModel.State.Lists.{without_first}

count-cons : {X : Type 0} (p : X → Bool) (x : X) (xs : List X) → count_by p (x ∷ xs) ≡ cond (p x) 1 0 + count_by p xs
count-cons p x xs = sum_by-cons (λ y. cond (p y) 1 0) x xs

count-append : {X : Type 0} (p : X → Bool) (xs : List X) (x : X) → count_by p (xs ++ x ∷ []) ≡ count_by p xs + cond (p x) 1 0
count-append p xs x = sum_by-append (λ y. cond (p y) 1 0) xs (x ∷ []) ∙ ap (λ n. count_by p xs + n) (zero-add (cond (p x) 1 0))

below-append : {X : Type 0} (named : X → ℕ) (n : ℕ) (xs : List X) (x : X) → AllBelow named n xs → named x < n → AllBelow named n (xs ++ x ∷ [])
below-append named n [] x h below = (below, tt)
below-append named n (y ∷ ys) x h below = (h.0, below-append named n ys x h.1 below)

same_one : (n : ℕ) → ◌≡◌ {A = ℕ} (cond (nat_eq n n) 1 0) 1
same_one n = by_test (nat_eq n n) refl
  where
    by_test : (b : Bool) → nat_eq n n ≡ b → ◌≡◌ {A = ℕ} (cond b 1 0) 1
    by_test true e = refl
    by_test false e = absurd (eqb-false n n e refl)

raised : (counts : List ℕ) (n x : ℕ) (b : Bool) → nat_eq x n ≡ b → n < length counts → get_or (set counts n (get_or counts n 0 + 1)) x 0 ≡ get_or counts x 0 + cond b 1 0
raised counts n x true e h =
    let same = eqb-true x n e in
    get_or-set_at counts n x (get_or counts n 0 + 1) 0 same h ∙ ap (λ k. get_or counts k 0 + 1) (sym same)
raised counts n x false e h = get_or-set_other counts n x (get_or counts n 0 + 1) 0 (eqb-false x n e) ∙ sym (add-zero (get_or counts x 0))

lowered : (counts : List ℕ) (n x : ℕ) (b : Bool) → nat_eq x n ≡ b → n < length counts → get_or (set counts n (get_or counts n 0 - 1)) x 0 ≡ get_or counts x 0 - cond b 1 0
lowered counts n x true e h =
    let same = eqb-true x n e in
    get_or-set_at counts n x (get_or counts n 0 - 1) 0 same h ∙ ap (λ k. get_or counts k 0 - 1) (sym same)
lowered counts n x false e h =
    let none : get_or counts x 0 ≡ get_or counts x 0 - 0 = omega arith in
    get_or-set_other counts n x (get_or counts n 0 - 1) 0 (eqb-false x n e) ∙ none

zeros : (n x : ℕ) → ◌≡◌ {A = ℕ} (get_or (replicate n 0) x 0) 0
zeros zero x = refl
zeros (suc n) zero = refl
zeros (suc n) (suc x) = zeros n x

-- no entry, and a table of zeros
pub counted_none : {X : Type 0} (named : X → ℕ) (items capacity : ℕ) → capacity < 2 ^ 32 → IsCounted named (replicate items 0) [] capacity
counted_none named items capacity h = record {
  small = h;
  within = omega arith;
  below = tt;
  counted = λ x lt. zeros items x;
}

-- an entry more, and its count one higher
pub counted_push : {X : Type 0} (named : X → ℕ) (counts : List ℕ) (list : List X) (capacity : ℕ) (e : X) → IsCounted named counts list capacity → length list < capacity → named e < length counts → IsCounted named (set counts (named e) (get_or counts (named e) 0 + 1)) (list ++ e ∷ []) capacity
counted_push named counts list capacity e was room below = record {
  small = was.small;
  within = simp length-append (omega arith);
  below = rw length-set (below-append named (length counts) list e was.below below);
  counted = λ x h.
      let lt : x < length counts = rw length-set at h in
      raised counts (named e) x (nat_eq x (named e)) refl below ∙ ap (λ k. k + cond (nat_eq x (named e)) 1 0) (was.counted x lt) ∙ sym (count-append (names_item named x) list e);
}

-- the first entry is counted
pub counted_first : {X : Type 0} (named : X → ℕ) (counts : List ℕ) (list : List X) (capacity : ℕ) (e : X) → IsCounted named counts list capacity → slice_get list 0 ≡ Some e → (named e < length counts) × (0 < get_or counts (named e) 0)
counted_first named counts [] capacity e was is = cc
counted_first named counts (y ∷ ys) capacity e was is =
    let same : y ≡ e = cc in
    let below : named y < length counts = was.below.0 in
    let here : get_or counts (named y) 0 ≡ cond (nat_eq (named y) (named y)) 1 0 + count_naming named (named y) ys = was.counted (named y) below ∙ count-cons (names_item named (named y)) y ys in
    let one = same_one (named y) in
    let some : 0 < get_or counts (named y) 0 = omega arith in
    subst (λ x. (named x < length counts) × (0 < get_or counts (named x) 0)) same (below, some)

-- the first entry names an item of the table
pub counted_range : {X : Type 0} (named : X → ℕ) (counts : List ℕ) (list : List X) (capacity items : ℕ) (first : Option (Bor X)) → IsCounted named counts list capacity → option_copied first ≡ slice_get list 0 → length counts ≡ items → IfSome first (λ e. named e.now < items)
counted_range named counts list capacity items None was is same = tt
counted_range named counts list capacity items (Some e) was is same =
    let here = counted_first named counts list capacity e.now was (sym is) in
    omega (arith, here.0, same)

popped : {X : Type 0} (named : X → ℕ) (counts : List ℕ) (y : X) (ys : List X) (capacity : ℕ) → IsCounted named counts (y ∷ ys) capacity → IsCounted named (set counts (named y) (get_or counts (named y) 0 - 1)) ys capacity
popped named counts y ys capacity was = record {
  small = was.small;
  within = omega (arith, was.within);
  below = rw length-set was.below.1;
  counted = λ x h.
      let lt : x < length counts = rw length-set at h in
      let here : get_or counts x 0 ≡ cond (nat_eq x (named y)) 1 0 + count_naming named x ys = was.counted x lt ∙ count-cons (names_item named x) y ys in
      let less : get_or counts x 0 - cond (nat_eq x (named y)) 1 0 ≡ count_naming named x ys = omega arith in
      lowered counts (named y) x (nat_eq x (named y)) refl was.below.0 ∙ less;
}

-- the first entry leaves, and its count is one lower
pub counted_pop : {X : Type 0} (named : X → ℕ) (counts : List ℕ) (list : List X) (capacity : ℕ) (e : X) → IsCounted named counts list capacity → slice_get list 0 ≡ Some e → IsCounted named (set counts (named e) (get_or counts (named e) 0 - 1)) (drop 1 list) capacity
counted_pop named counts [] capacity e was is = cc
counted_pop named counts (y ∷ ys) capacity e was is =
    let same : y ≡ e = cc in
    subst (λ x. IsCounted named (set counts (named x) (get_or counts (named x) 0 - 1)) ys capacity) same (popped named counts y ys capacity was)

any_here : (b a : Bool) (c : ℕ) → nat_lt 0 c ≡ a → nat_lt 0 (cond b 1 0 + c) ≡ (b || a)
any_here true a c e = lt-ltb 0 (1 + c) (omega arith)
any_here false a c e = rw zero-add e

-- some element passes exactly where the count isn't 0
pub any_of_count : {X : Type 0} (p : X → Bool) (xs : List X) → nat_lt 0 (count_by p xs) ≡ list_any p xs
any_of_count p [] = refl
any_of_count p (x ∷ xs) = ap (λ c. nat_lt 0 c) (count-cons p x xs) ∙ any_here (p x) (list_any p xs) (count_by p xs) (any_of_count p xs)

-- ---- a first element taken out

length-without : {X : Type 0} (p : X → Bool) (xs : List X) → length (without_first p xs) ≤ length xs
length-without p [] = omega arith
length-without p (x ∷ xs) = by_test (p x) (length-without p xs)
  where
    by_test : (b : Bool) → length (without_first p xs) ≤ length xs → length (cond b xs (x ∷ without_first p xs)) ≤ suc (length xs)
    by_test true h = omega arith
    by_test false h = omega arith

below-without : {X : Type 0} (named : X → ℕ) (n : ℕ) (p : X → Bool) (xs : List X) → AllBelow named n xs → AllBelow named n (without_first p xs)
below-without named n p [] h = tt
below-without named n p (x ∷ xs) h = by_test (p x) (below-without named n p xs h.1)
  where
    by_test : (b : Bool) → AllBelow named n (without_first p xs) → AllBelow named n (cond b xs (x ∷ without_first p xs))
    by_test true k = h.1
    by_test false k = (h.0, k)

-- what is taken out counts for its own item alone
count-without : {X : Type 0} (named : X → ℕ) (p : X → Bool) (item : ℕ) → ((e : X) → p e ≡ true → named e ≡ item) → (x : ℕ) (xs : List X) → list_any p xs ≡ true → cond (nat_eq x item) 1 0 + count_naming named x (without_first p xs) ≡ count_naming named x xs
count-without named p item names x [] any = cc
count-without named p item names x (y ∷ ys) any =
    by_test (p y) refl any (λ some. count-without named p item names x ys some) ∙ sym (count-cons (names_item named x) y ys)
  where
    by_test : (b : Bool) → p y ≡ b → (b || list_any p ys) ≡ true → (list_any p ys ≡ true → cond (nat_eq x item) 1 0 + count_naming named x (without_first p ys) ≡ count_naming named x ys) → cond (nat_eq x item) 1 0 + count_naming named x (cond b ys (y ∷ without_first p ys)) ≡ cond (nat_eq x (named y)) 1 0 + count_naming named x ys
    by_test true is some rest = ap (λ k. cond (nat_eq x k) 1 0 + count_naming named x ys) (sym (names y is))
    by_test false is some rest =
        let here = count-cons (names_item named x) y (without_first p ys) in
        let there = rest some in
        omega (arith, here, there)

-- an element that is taken out is counted
pub counted_some : {X : Type 0} (named : X → ℕ) (counts : List ℕ) (list : List X) (capacity : ℕ) (p : X → Bool) (item : ℕ) → ((e : X) → p e ≡ true → named e ≡ item) → IsCounted named counts list capacity → item < length counts → list_any p list ≡ true → 0 < get_or counts item 0
counted_some named counts list capacity p item names was below some =
    let one = same_one item in
    let here = was.counted item below in
    let split = count-without named p item names item list some in
    omega (arith, one, here, split)

pub counted_without : {X : Type 0} (named : X → ℕ) (counts : List ℕ) (list : List X) (capacity : ℕ) (p : X → Bool) (item : ℕ) → ((e : X) → p e ≡ true → named e ≡ item) → IsCounted named counts list capacity → item < length counts → list_any p list ≡ true → IsCounted named (set counts item (get_or counts item 0 - 1)) (without_first p list) capacity
counted_without named counts list capacity p item names was below some = record {
  small = was.small;
  within = omega (arith, was.within, length-without p list);
  below = rw length-set (below-without named (length counts) p list was.below);
  counted = λ x h.
      let lt : x < length counts = rw length-set at h in
      let here = was.counted x lt in
      let split = count-without named p item names x list some in
      let less : get_or counts x 0 - cond (nat_eq x item) 1 0 ≡ count_naming named x (without_first p list) = omega (arith, here, split) in
      lowered counts item x (nat_eq x item) refl below ∙ less;
}

-- nothing passes: nothing is taken out
pub without_none : {X : Type 0} (p : X → Bool) (xs : List X) → list_any p xs ≡ false → without_first p xs ≡ xs
without_none p [] none = refl
without_none p (x ∷ xs) none = by_test (p x) none (λ h. without_none p xs h)
  where
    by_test : (b : Bool) → (b || list_any p xs) ≡ false → (list_any p xs ≡ false → without_first p xs ≡ xs) → cond b xs (x ∷ without_first p xs) ≡ x ∷ xs
    by_test true h rest = cc
    by_test false h rest = ap (λ ys. x ∷ ys) (rest h)

pub counted_still : {X : Type 0} (named : X → ℕ) (counts : List ℕ) (list : List X) (capacity : ℕ) (p : X → Bool) → IsCounted named counts list capacity → list_any p list ≡ false → IsCounted named counts (without_first p list) capacity
counted_still named counts list capacity p was none = subst (λ xs. IsCounted named counts xs capacity) (sym (without_none p list none)) was
