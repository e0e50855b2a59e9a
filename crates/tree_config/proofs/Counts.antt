-- How many buses the levels of a shape have at most.
use Rattle.std.proofs.Common.{ℕ, zero, suc, Vec, Global, Option, Some, None, ◌≡◌, ◌+◌, ◌*◌, ◌≤◌, true, List, [], ◌∷◌, ◌++◌, length, sum, ap, sym, ◌∙◌, arith, length-append}
use Rattle.std.specs.Prelude.{slice_get}
use Rattle.std.specs.Option.{option_map_or}
use Rattle.std.specs.List.{list_all}
use Rattle.std.proofs.lemmas.Bool.{and_parts}
use Rattle.std.proofs.lemmas.Bool.Decides.{nat_tests}
use Rattle.std.proofs.lemmas.List.Folds.{list_all-append}
use Rattle.std.proofs.lemmas.List.Sums.{sum_by-cons}
use Rattle.std.proofs.Math.Nat.{mul-le-mul_right}
use Rattle.tree_config.specs.Lists.{lists_of}
use Rattle.tree_config.specs.Levels.{leaves_of, widths_of, is_width, AreUnder, IsShape}

pub width_some : (n : ℕ) → is_width n ≡ true → 1 ≤ n
width_some n h = grind (arith, nat_tests)

-- each bus has a child
pub length_at_most_sum : (l : List ℕ) → list_all is_width l ≡ true → length l ≤ sum l
length_at_most_sum [] h = omega arith
length_at_most_sum (n ∷ l) h =
    let (here, more) = and_parts (is_width n) (list_all is_width l) h in
    omega (arith, sum_by-cons (λ x. x) n l, width_some n here, length_at_most_sum l more)

-- each level has at most as many buses as there are leaves
pub buses_at_most : (n : ℕ) (l : List ℕ) (ls : List (List ℕ)) → AreUnder n (l ∷ ls) → list_all is_width (widths_of (l ∷ ls)) ≡ true
    → (n ≤ leaves_of (l ∷ ls)) × (length (widths_of (l ∷ ls)) ≤ length (l ∷ ls) * leaves_of (l ∷ ls))
buses_at_most n l [] under widths =
    let (here, more) = and_parts (list_all is_width l) true (rw (list_all-append is_width l []) at widths) in
    let most : length l ≤ sum l = length_at_most_sum l here in
    let all : length (l ++ []) ≡ length l + 0 = length-append l [] in
    (omega (arith, under.0, most), omega (arith, all, most))
buses_at_most n l (m ∷ ls) under widths =
    let (here, more) = and_parts (list_all is_width l) (list_all is_width (widths_of (m ∷ ls))) (rw (list_all-append is_width l (widths_of (m ∷ ls))) at widths) in
    let most : length l ≤ sum l = length_at_most_sum l here in
    let (next, total) = buses_at_most (sum l) m ls under.1 more in
    let all : length (l ++ widths_of (m ∷ ls)) ≡ length l + length (widths_of (m ∷ ls)) = length-append l (widths_of (m ∷ ls)) in
    (omega (arith, under.0, most, next), omega (arith, all, most, next, total))

bounded : (a b total : ℕ) → total ≤ a * b → a ≤ 4 → b ≤ 64 → total ≤ 256
bounded a b total h small few = omega (arith, h, mul-le-mul_right b small, few)

pub IsShape-buses : (levels : List (List ℕ)) → IsShape levels → length (widths_of levels) ≤ 256
IsShape-buses [] s = omega arith
IsShape-buses (l ∷ ls) s = bounded (length (l ∷ ls)) (leaves_of (l ∷ ls)) _ (buses_at_most 1 l ls s.under s.widths).1 s.depth s.leaves

-- the children of the last level are the leaves
pub leaves_of-last : (levels : List (Vec ℕ Global)) (n : ℕ) (level : Vec ℕ Global) → n + 1 ≡ length levels → Some level ≡ slice_get levels n → leaves_of (lists_of levels) ≡ sum level.items
leaves_of-last [] n level last h = absurd (omega (arith, last))
leaves_of-last (l ∷ []) zero level last h = ap (λ (o : Option (Vec ℕ Global)). option_map_or (λ (v : Vec ℕ Global). sum v.items) o 0) (sym h)
leaves_of-last (l ∷ []) (suc n) level last h = absurd (omega (arith, last))
leaves_of-last (l ∷ m ∷ ls) zero level last h = absurd (omega (arith, last))
leaves_of-last (l ∷ m ∷ ls) (suc n) level last h = leaves_of-last (m ∷ ls) n level (omega (arith, last)) h

pub IsShape-leaves : (levels : List (List ℕ)) → IsShape levels → 1 ≤ leaves_of levels
IsShape-leaves [] s = absurd (omega (arith, s.some))
IsShape-leaves (l ∷ ls) s = (buses_at_most 1 l ls s.under s.widths).0

pub IsShape-bus : (levels : List (List ℕ)) → IsShape levels → 1 ≤ length (widths_of levels)
IsShape-bus [] s = absurd (omega (arith, s.some))
IsShape-bus (l ∷ ls) s = omega (arith, s.under.0, length-append l (widths_of ls))

-- a width that a bus has
pub width_at : (ws : List ℕ) (i n : ℕ) → list_all is_width ws ≡ true → slice_get ws i ≡ Some n → is_width n ≡ true
width_at [] i n all here = cc
width_at (w ∷ ws) zero n all here = let (first, more) = and_parts (is_width w) (list_all is_width ws) all in ap (λ (o : Option ℕ). option_map_or is_width o true) (sym here) ∙ first
width_at (w ∷ ws) (suc i) n all here = let (first, more) = and_parts (is_width w) (list_all is_width ws) all in width_at ws i n more here

pub slice_get-none : (ws : List ℕ) (i : ℕ) → slice_get ws i ≡ None → length ws ≤ i
slice_get-none [] i h = omega arith
slice_get-none (w ∷ ws) zero h = cc
slice_get-none (w ∷ ws) (suc i) h = omega (arith, slice_get-none ws i h)
