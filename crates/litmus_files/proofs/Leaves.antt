-- Different leaves, one more at a time: there is room for 64.
use Rattle.std.proofs.Common.{◌≡◌, ℕ, ◌+◌, ◌-◌, ◌<◌, ◌≤◌, cond, Some, None, Ok, Err, Option, List, [], ◌∷◌, ◌++◌, length, drop, set, refl, sym, ap, ◌∙◌, arith, length-append}
use Rattle.std.specs.Prelude.{Bool, true, false, ◌||◌, nat_eq, nat_le, replicate}
use Rattle.std.specs.List.{AllByRecursion, IsDistinct, list_any}
use Rattle.std.proofs.lemmas.Bool.Decides.{nat_tests}
use Rattle.std.proofs.lemmas.List.{drop-replicate, drop-set-lt, drop_more, length-set}
use Rattle.std.proofs.lemmas.Map.Steps.{length-le_from_distinct_below}
use Rattle.ddm_text.specs.declared.reading.NumberRefusal.TheVariants.{TooLarge}
use Rattle.ddm_text.specs.Numbers.{at_most, number_of, number_stop, unless_stopped, value_of}
use Rattle.litmus_files.specs.declared.places.Places.TheInside.{Inside}
use Rattle.litmus_files.specs.Different.{AreLeaves}
use Rattle.litmus_files.specs.Kept.{IsPadded}

all_more : (P : ℕ → Type 0) (xs : List ℕ) (y : ℕ) → AllByRecursion P xs → P y → AllByRecursion P (xs ++ y ∷ [])
all_more P [] y all last = (last, tt)
all_more P (x ∷ xs) y all last = (all.0, all_more P xs y all.1 last)

other_way : (x y : ℕ) → nat_eq y x ≡ false → nat_eq x y ≡ false
other_way x y h = grind (arith, nat_tests)

is_same : (x y : ℕ) → nat_eq y x ≡ true → x ≡ y
is_same x y h = grind (arith, nat_tests)

neither : (a b : Bool) → (a || b) ≡ false → (a ≡ false) × (b ≡ false)
neither true b h = absurd (cc)
neither false b h = (refl, h)

different_more : (xs : List ℕ) (y : ℕ) → IsDistinct nat_eq xs → list_any (nat_eq y) xs ≡ false → IsDistinct nat_eq (xs ++ y ∷ [])
unfolding IsDistinct
different_more [] y different none = (tt, tt)
different_more (x ∷ xs) y different none =
    let no = neither (nat_eq y x) (list_any (nat_eq y) xs) none in
    (all_more (λ z. nat_eq x z ≡ false) xs y different.0 (other_way x y no.0), different_more xs y different.1 no.1)

one_below : (here : Bool) (x q : ℕ) (later : Bool) → nat_eq q x ≡ here → (here || later) ≡ true → x < 64 → (later ≡ true → q < 64) → q < 64
one_below true x q later same among small rest = let e = is_same x q same in omega (arith, e, small)
one_below false x q later same among small rest = rest among

below : (xs : List ℕ) → AllByRecursion (λ leaf. leaf < 64) xs → (q : ℕ) → list_any (nat_eq q) xs ≡ true → q < 64
below [] small q among = absurd (cc)
below (x ∷ xs) small q among = one_below (nat_eq q x) x q (list_any (nat_eq q) xs) refl among small.0 (below xs small.1 q)

pub no_leaves : AreLeaves []
unfolding IsDistinct
no_leaves = record { different = tt; small = tt }

pub more_leaves : (xs : List ℕ) (y : ℕ) → AreLeaves xs → y < 64 → list_any (nat_eq y) xs ≡ false → AreLeaves (xs ++ y ∷ [])
more_leaves xs y are small none = record {
  different = different_more xs y are.different none;
  small = all_more (λ leaf. leaf < 64) xs y are.small small;
}

pub room : (xs : List ℕ) (y : ℕ) → AreLeaves xs → y < 64 → list_any (nat_eq y) xs ≡ false → length xs < 64
room xs y are small none =
    let more = more_leaves xs y are small none in
    let few = length-le_from_distinct_below (xs ++ y ∷ []) 64 more.different (below (xs ++ y ∷ []) more.small) in
    let one = length-append xs (y ∷ []) in
    omega (arith, few, one)

-- one more among those that are kept
pub padded_more : (p : Inside) (leaf : ℕ) → IsPadded p → p.count < 64 → IsPadded (record { leaves = set p.leaves p.count leaf; count = p.count + 1 })
padded_more p leaf h few =
    let inside : p.count < length p.leaves = omega (arith, few, h.whole) in
    let behind : drop 1 (drop p.count p.leaves) ≡ drop (p.count + 1) p.leaves = ap (drop 1) (drop_more p.leaves p.count 0 inside) in
    let fewer : 64 - p.count - 1 ≡ 64 - (p.count + 1) = omega arith in
    record {
      short = omega (arith, few);
      whole = length-set p.leaves p.count leaf ∙ h.whole;
      zeros =
          drop-set-lt (p.count + 1) p.leaves p.count leaf (omega arith) ∙ sym behind ∙ ap (drop 1) h.zeros ∙ drop-replicate 1 (64 - p.count) 0
          ∙ ap (λ (n : ℕ). replicate n 0) fewer;
    }

limited : (stop : Option ℕ) (value most n : ℕ) → unless_stopped stop (at_most most value) ≡ Ok n → n ≤ most
limited (Some place) value most n is = absurd (let wrong : ⊥ = cc in wrong)
limited None value most n is = by_test (nat_le value most) refl is where
  by_test : (b : Bool) → nat_le value most ≡ b → (cond b (Ok value) (Err TooLarge)) ≡ Ok n → n ≤ most
  by_test true fits same = let here : value ≡ n = cc in let within : value ≤ most = grind (arith, nat_tests) in omega (arith, here, within)
  by_test false fits same = absurd (let wrong : ⊥ = cc in wrong)

pub number_within : (bytes : List ℕ) (most n : ℕ) → Ok n ≡ number_of bytes most → n ≤ most
unfolding number_of
number_within bytes most n is = limited (number_stop bytes) (value_of bytes) most n (sym is)
