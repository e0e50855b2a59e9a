-- Lines sorted so that those keep their order which are to stand before none of each other: there is one such list.
-- Letters: k, l, x and y are lines.
use Rattle.std.proofs.Common.{◌≡◌, ℕ, suc, ◌+◌, ◌<◌, Bool, true, false, not, cond, ◌&&◌, filter, List, [], ◌∷◌, length, get_or, refl, sym, ap, subst, ◌∙◌, arith, true≢false}
use Rattle.std.specs.List.{AllByRecursion}
use Rattle.std.specs.List.Sorted.{IsSortedBy, IsStableBy, ties}
use Rattle.std.specs.Cmp.{IsStrictWeakOrder}
use Rattle.std.proofs.lemmas.List.Sorted.{sorted_far}
use Rattle.joining.specs.OutcomeModel.Table.{OutcomeLine, in_order, placed, stands_before}
use Rattle.join_model.proofs.OutcomeModel.TableLaws.{in_order-ordered}
use Rattle.join_model.specs.OutcomeModel.TableLaws.{AreInOrder}

before-one_way : (x y : OutcomeLine) → stands_before x y ≡ true → stands_before y x ≡ false
before-one_way x y first = grind arith

before-chain : (x y z : OutcomeLine) → stands_before x y ≡ false → stands_before y z ≡ false → stands_before x z ≡ false
before-chain x y z first second = grind arith

pub is-order : IsStrictWeakOrder stands_before
is-order = record { one_way = before-one_way; chain = before-chain }

not-itself : (b : Bool) → (b ≡ true → b ≡ false) → b ≡ false
not-itself true h = h refl
not-itself false h = refl

never-itself : (x : OutcomeLine) → stands_before x x ≡ false
never-itself x = not-itself (stands_before x x) (before-one_way x x)

-- ---- order by recursion

no-later : (x : OutcomeLine) (xs : List OutcomeLine) → ((k : ℕ) → k < length xs → stands_before (get_or xs k x) x ≡ false) → AllByRecursion (λ y. stands_before y x ≡ false) xs
no-later x [] far = tt
no-later x (y ∷ ys) far = (far 0 (omega arith), no-later x ys (λ k h. far (suc k) (omega (arith, h))))

sorted-rest : (x : OutcomeLine) (xs : List OutcomeLine) → IsSortedBy stands_before (x ∷ xs) → IsSortedBy stands_before xs
sorted-rest x xs up = λ k d low high. (let next : suc k + 1 ≡ suc (k + 1) = omega arith in subst (λ n. stands_before (get_or (x ∷ xs) n d) (get_or xs k d) ≡ false) next (up (suc k) d (omega arith) (omega (arith, high))))

pub sorted-ordered : (xs : List OutcomeLine) → IsSortedBy stands_before xs → AreInOrder xs
sorted-ordered [] up = tt
sorted-ordered (x ∷ xs) up =
    (no-later x xs (λ k h. sorted_far stands_before is-order (x ∷ xs) up 0 (suc k) x (omega arith) (omega (arith, h))), sorted-ordered xs (sorted-rest x xs up))

-- ---- the lines that tie with one

abbrev tied : OutcomeLine → OutcomeLine → Bool
tied x y = ties stands_before x y

own-tie : (x : OutcomeLine) → tied x x ≡ true
own-tie x = ap (λ b. not b && not b) (never-itself x)

both-ties : (x y : OutcomeLine) → stands_before x y ≡ false → stands_before y x ≡ false → tied x y ≡ true
both-ties x y first second = ap (λ b. not b && not (stands_before y x)) first ∙ ap (λ b. not false && not b) second

-- a first one that passes has what all have
first-has : (p : OutcomeLine → Bool) (P : OutcomeLine → Type 0) (y : OutcomeLine) (ys xs : List OutcomeLine) → AllByRecursion P xs → filter p xs ≡ y ∷ ys → P y
first-has p P y ys [] all is = let wrong : ⊥ = cc in absurd wrong
first-has p P y ys (x ∷ xs) all is =
    elim (p x) as (λ b. cond b (x ∷ filter p xs) (filter p xs) ≡ y ∷ ys → P y) [
      | true ↦ λ e. (let same : x ≡ y = cc in subst P same all.0)
      | false ↦ λ e. first-has p P y ys xs all.1 e
    ] is

own-first : (y : OutcomeLine) (ys : List OutcomeLine) → filter (tied y) (y ∷ ys) ≡ y ∷ filter (tied y) ys
own-first y ys = ap (λ b. cond b (y ∷ filter (tied y) ys) (filter (tied y) ys)) (own-tie y)

none-left : (y : OutcomeLine) (ys : List OutcomeLine) → [] ≡ filter (tied y) (y ∷ ys) → ⊥
none-left y ys is = let own = own-first y ys in let wrong : [] ≡ y ∷ filter (tied y) ys = is ∙ own in cc

rest-same : (b : Bool) (x : OutcomeLine) (xs ys : List OutcomeLine) → cond b (x ∷ xs) xs ≡ cond b (x ∷ ys) ys → xs ≡ ys
rest-same true x xs ys is = cc
rest-same false x xs ys is = is

first-same : (x y : OutcomeLine) (xs ys : List OutcomeLine) → x ∷ xs ≡ y ∷ ys → x ≡ y
first-same x y xs ys is = cc

pub one-order : (xs ys : List OutcomeLine) → AreInOrder xs → AreInOrder ys → ((z : OutcomeLine) → filter (tied z) xs ≡ filter (tied z) ys) → xs ≡ ys
one-order [] [] up down same = refl
one-order [] (y ∷ ys) up down same = absurd (none-left y ys (same y))
one-order (x ∷ xs) [] up down same = absurd (none-left x xs (sym (same x)))
one-order (x ∷ xs) (y ∷ ys) up down same =
    let y-late : stands_before y x ≡ false = first-has (tied y) (λ z. stands_before z x ≡ false) y (filter (tied y) ys) (x ∷ xs) (never-itself x, up.0) (same y ∙ own-first y ys) in
    let x-late : stands_before x y ≡ false = first-has (tied x) (λ z. stands_before z y ≡ false) x (filter (tied x) xs) (y ∷ ys) (never-itself y, down.0) (sym (same x) ∙ own-first x xs) in
    let tie : tied x y ≡ true = both-ties x y x-late y-late in
    let heads : x ≡ y = first-same x y (filter (tied x) xs) (filter (tied x) ys) (sym (own-first x xs) ∙ same x ∙ ap (λ b. cond b (y ∷ filter (tied x) ys) (filter (tied x) ys)) tie) in
    let tails : xs ≡ ys = one-order xs ys up.1 down.1 (λ z. rest-same (tied z x) x (filter (tied z) xs) (filter (tied z) ys) (same z ∙ ap (λ w. filter (tied z) (w ∷ ys)) (sym heads))) in
    rw (heads, tails) refl

-- ---- lines put in order one by one

swap-two : (a b : Bool) (k l : OutcomeLine) (xs : List OutcomeLine) → (a && b) ≡ false → cond a (k ∷ cond b (l ∷ xs) xs) (cond b (l ∷ xs) xs) ≡ cond b (l ∷ cond a (k ∷ xs) xs) (cond a (k ∷ xs) xs)
swap-two true true k l xs apart = let wrong : ⊥ = cc in absurd wrong
swap-two true false k l xs apart = refl
swap-two false true k l xs apart = refl
swap-two false false k l xs apart = refl

first-no : (a b : Bool) → (not a && not b) ≡ true → a ≡ false
first-no true b h = sym h
first-no false b h = refl

second-no : (a b : Bool) → (not a && not b) ≡ true → b ≡ false
second-no a false h = refl
second-no true true h = sym h
second-no false true h = sym h

-- of two lines one of which stands before the other only one ties with a third
ties-apart : (z k l : OutcomeLine) → stands_before k l ≡ true → (tied z k && tied z l) ≡ false
ties-apart z k l first = by (tied z k) (tied z l) refl refl
  where
    by : (a b : Bool) → tied z k ≡ a → tied z l ≡ b → (a && b) ≡ false
    by false b one other = refl
    by true false one other = refl
    by true true one other =
        let k-z : stands_before k z ≡ false = second-no (stands_before z k) (stands_before k z) one in
        let z-l : stands_before z l ≡ false = first-no (stands_before z l) (stands_before l z) other in
        absurd (true≢false (sym first ∙ before-chain k z l k-z z-l))

placed-stable : (z l : OutcomeLine) (ls : List OutcomeLine) → filter (tied z) (placed l ls) ≡ filter (tied z) (l ∷ ls)
unfolding placed
placed-stable z l [] = refl
placed-stable z l (k ∷ ks) =
    elim (stands_before k l) as (λ b. stands_before k l ≡ b → filter (tied z) (cond b (k ∷ placed l ks) (l ∷ k ∷ ks)) ≡ filter (tied z) (l ∷ k ∷ ks)) [
      | true ↦ λ first.
          ap (λ xs. cond (tied z k) (k ∷ xs) xs) (placed-stable z l ks)
          ∙ swap-two (tied z k) (tied z l) k l (filter (tied z) ks) (ties-apart z k l first)
      | false ↦ λ later. refl
    ] refl

in_order-stable : (z : OutcomeLine) (ls : List OutcomeLine) → filter (tied z) (in_order ls) ≡ filter (tied z) ls
unfolding in_order
in_order-stable z [] = refl
in_order-stable z (l ∷ ls) = placed-stable z l (in_order ls) ∙ ap (λ xs. cond (tied z l) (l ∷ xs) xs) (in_order-stable z ls)

-- what a stable sort gives
pub sorted-in_order : (ls sorted : List OutcomeLine) → IsSortedBy stands_before sorted → IsStableBy stands_before ls sorted → sorted ≡ in_order ls
sorted-in_order ls sorted up stable = one-order sorted (in_order ls) (sorted-ordered sorted up) (in_order-ordered ls) (λ z. stable z ∙ sym (in_order-stable z ls))
