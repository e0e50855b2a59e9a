-- Which states are left after rounds, by flags.
-- Letters: bs are flags, ws are ways, w is one, i and n are numbers of states, xs are things by number, P is a test of them.
use Rattle.std.proofs.Common.{◌≡◌, ℕ, zero, suc, ◌+◌, ◌-◌, ◌<◌, ◌≤◌, Bool, true, false, ◌||◌, ◌&&◌, cond, List, [], ◌∷◌, ◌++◌, length, map, take, replicate, refl, sym, ap, subst, ◌∙◌, arith, append_assoc, length-append}
use Rattle.std.specs.Prelude.{not, nat_eq, slice_set, slice_index_or}
use Rattle.std.specs.List.{list_all, filter, AllByRecursion}
use Rattle.std.specs.Cmp.Lexicographic.{pointwise}
use Rattle.std.proofs.lemmas.List.{length-take-le, take_more}
use Rattle.std.proofs.lemmas.Bool.{eq-eqb, ne_eqb}
use Rattle.std.proofs.lemmas.List.Folds.{list_all-append}
use Rattle.std.proofs.Math.Bool.{and-true, beq}
use Rattle.explorer.specs.Losing.{picked, places_from, is_left, leads_on, all_left, staying_from, staying, flags_after}
use Rattle.explorer.specs.declared.losing.Way.{Way}

-- ---- one way more

module _ (ws : List Way) (w : Way) where
  pub all-more : (bs : List Bool) (i : ℕ) → all_left (ws ++ w ∷ []) bs i ≡ (all_left ws bs i && leads_on bs i w)
  all-more bs i = list_all-append (leads_on bs i) ws (w ∷ []) ∙ ap (λ b. all_left ws bs i && b) (and-true (leads_on bs i w))

  -- from another state
  pub other-more : (bs : List Bool) (i : ℕ) → nat_eq w.from i ≡ false → all_left (ws ++ w ∷ []) bs i ≡ all_left ws bs i
  other-more bs i other = all-more bs i ∙ ap (λ b. all_left ws bs i && (not b || is_left bs w.to)) other ∙ and-true (all_left ws bs i)

  -- from this one
  pub from-more : (bs : List Bool) (i : ℕ) → nat_eq w.from i ≡ true → all_left (ws ++ w ∷ []) bs i ≡ (all_left ws bs i && is_left bs w.to)
  from-more bs i this = all-more bs i ∙ ap (λ b. all_left ws bs i && (not b || is_left bs w.to)) this

  or-yes : (b : Bool) → (b || true) ≡ true
  or-yes true = refl
  or-yes false = refl

  and-no : (b : Bool) → (b && false) ≡ false
  and-no true = refl
  and-no false = refl

  -- to a state that is left
  left-more : (bs : List Bool) (i : ℕ) → is_left bs w.to ≡ true → all_left (ws ++ w ∷ []) bs i ≡ all_left ws bs i
  left-more bs i stays = all-more bs i ∙ ap (λ b. all_left ws bs i && (not (nat_eq w.from i) || b)) stays ∙ ap (λ b. all_left ws bs i && b) (or-yes (not (nat_eq w.from i))) ∙ and-true (all_left ws bs i)

  module _ (left : List Bool) where
    pub stays-on : is_left left w.to ≡ true → (n : ℕ) (bs : List Bool) → staying_from n (ws ++ w ∷ []) left bs ≡ staying_from n ws left bs
    stays-on stays n [] = refl
    stays-on stays n (b ∷ bs) = ap (λ c. (b && c) ∷ staying_from (n + 1) (ws ++ w ∷ []) left bs) (left-more left n stays) ∙ ap (λ l. (b && all_left ws left n) ∷ l) (stays-on stays (n + 1) bs)

    gone-by : (n : ℕ) (bs : List Bool) → w.from < n → staying_from n (ws ++ w ∷ []) left bs ≡ staying_from n ws left bs
    gone-by n [] before = refl
    gone-by n (b ∷ bs) before =
        ap (λ c. (b && c) ∷ staying_from (n + 1) (ws ++ w ∷ []) left bs) (other-more left n (ne_eqb w.from n (λ same. omega (arith, before, same))))
        ∙ ap (λ l. (b && all_left ws left n) ∷ l) (gone-by (n + 1) bs (omega (arith, before)))

    pub goes-out : is_left left w.to ≡ false → (n i : ℕ) (bs : List Bool) → w.from ≡ n + i → staying_from n (ws ++ w ∷ []) left bs ≡ slice_set (staying_from n ws left bs) i false
    goes-out out n zero [] at = refl
    goes-out out n (suc i) [] at = refl
    goes-out out n zero (b ∷ bs) at =
        ap (λ c. (b && c) ∷ staying_from (n + 1) (ws ++ w ∷ []) left bs) (from-more left n (eq-eqb w.from n (omega (arith, at))) ∙ ap (λ c. all_left ws left n && c) out ∙ and-no (all_left ws left n))
        ∙ ap (λ c. c ∷ staying_from (n + 1) (ws ++ w ∷ []) left bs) (and-no b)
        ∙ ap (λ l. false ∷ l) (gone-by (n + 1) bs (omega (arith, at)))
    goes-out out n (suc i) (b ∷ bs) at =
        ap (λ c. (b && c) ∷ staying_from (n + 1) (ws ++ w ∷ []) left bs) (other-more left n (ne_eqb w.from n (λ same. omega (arith, at, same))))
        ∙ ap (λ l. (b && all_left ws left n) ∷ l) (goes-out out (n + 1) i bs (omega (arith, at)))

-- before any way is looked at
no-way : (left : List Bool) (n : ℕ) (bs : List Bool) → staying_from n [] left bs ≡ bs
no-way left n [] = refl
no-way left n (b ∷ bs) = ap (λ c. c ∷ staying_from (n + 1) [] left bs) (and-true b) ∙ ap (λ l. b ∷ l) (no-way left (n + 1) bs)

pub none-looked : (left : List Bool) → staying [] left ≡ left
none-looked left = no-way left 0 left

-- ---- rounds

pub staying-counted : (ws : List Way) (left : List Bool) (n : ℕ) (bs : List Bool) → length (staying_from n ws left bs) ≡ length bs
staying-counted ws left n [] = refl
staying-counted ws left n (b ∷ bs) = ap suc (staying-counted ws left (n + 1) bs)

pub flags-rest : (ws : List Way) (n : ℕ) (bs : List Bool) → staying ws bs ≡ bs → flags_after n ws bs ≡ bs
flags-rest ws zero bs rests = refl
flags-rest ws (suc n) bs rests = ap (flags_after n ws) rests ∙ flags-rest ws n bs rests

pub flags-counted : (ws : List Way) (n : ℕ) (bs : List Bool) → length (flags_after n ws bs) ≡ length bs
flags-counted ws zero bs = refl
flags-counted ws (suc n) bs = flags-counted ws n (staying ws bs) ∙ staying-counted ws bs 0 bs

-- ---- what the flags pick

-- what has these numbers
pub data AreAt {X : Type 0} (f : ℕ → X) : ℕ → List X → Type 0 where
  no_more : (n : ℕ) → AreAt f n []
  one_more : (n : ℕ) (x : X) (xs : List X) → f n ≡ x → AreAt f (n + 1) xs → AreAt f n (x ∷ xs)

module _ {X : Type 0} (f : ℕ → X) where
  pub picked-places : (n : ℕ) (bs : List Bool) (xs : List X) → AreAt f n xs → length bs ≡ length xs → map f (places_from n bs) ≡ picked bs xs
  picked-places n [] [] at same = refl
  picked-places n [] (x ∷ xs) at same = absurd (omega (arith, same))
  picked-places n (b ∷ bs) [] at same = absurd (omega (arith, same))
  picked-places n (true ∷ bs) (x ∷ xs) (one_more _ _ _ is rest) same = ap (λ y. y ∷ map f (places_from (n + 1) bs)) is ∙ ap (λ l. x ∷ l) (picked-places (n + 1) bs xs rest (omega (arith, same)))
  picked-places n (false ∷ bs) (x ∷ xs) (one_more _ _ _ is rest) same = picked-places (n + 1) bs xs rest (omega (arith, same))

  -- one round is one filter
  pub picked-staying : (P : X → Bool) (ws : List Way) (left : List Bool) (n : ℕ) (bs : List Bool) (xs : List X) → AreAt f n xs
      → ((i : ℕ) → i < n + length xs → all_left ws left i ≡ P (f i)) → picked (staying_from n ws left bs) xs ≡ filter P (picked bs xs)
  picked-staying P ws left n [] xs at tests = refl
  picked-staying P ws left n (b ∷ bs) [] at tests = refl
  picked-staying P ws left n (true ∷ bs) (x ∷ xs) (one_more _ _ _ is rest) tests =
      let further = picked-staying P ws left (n + 1) bs xs rest (λ i below. tests i (omega (arith, below))) in
      ap (λ c. cond c (x ∷ picked (staying_from (n + 1) ws left bs) xs) (picked (staying_from (n + 1) ws left bs) xs)) (tests n (omega arith) ∙ ap P is)
      ∙ ap (λ l. cond (P x) (x ∷ l) l) further
  picked-staying P ws left n (false ∷ bs) (x ∷ xs) (one_more _ _ _ is rest) tests = picked-staying P ws left (n + 1) bs xs rest (λ i below. tests i (omega (arith, below)))

pub all-picked : {X : Type 0} (xs : List X) (n : ℕ) → n ≡ length xs → picked (replicate n true) xs ≡ xs
all-picked [] zero same = refl
all-picked [] (suc n) same = absurd (omega (arith, same))
all-picked (x ∷ xs) zero same = absurd (omega (arith, same))
all-picked (x ∷ xs) (suc n) same = ap (λ l. x ∷ l) (all-picked xs n (omega (arith, same)))

-- the numbers of one flag more
pub places-more : (n : ℕ) (bs : List Bool) (b : Bool) → places_from n (bs ++ b ∷ []) ≡ places_from n bs ++ cond b ((n + length bs) ∷ []) []
places-more n [] true = ap (λ k. k ∷ []) (omega arith)
places-more n [] false = refl
places-more n (true ∷ bs) b = ap (λ l. n ∷ l) (places-more (n + 1) bs b ∙ ap (λ k. places_from (n + 1) bs ++ cond b (k ∷ []) []) (omega arith))
places-more n (false ∷ bs) b = places-more (n + 1) bs b ∙ ap (λ k. places_from (n + 1) bs ++ cond b (k ∷ []) []) (omega arith)

-- ---- loops

-- one way more is looked at
pub looked-on : (ws : List Way) (left old new : List Bool) (k : ℕ) (w : Way) → k < length ws → old ≡ staying (take k ws) left
    → new ≡ cond (is_left left (slice_index_or ws k w).to) old (slice_set old (slice_index_or ws k w).from false) → new ≡ staying (take (k + 1) ws) left
looked-on ws left old new k w inside before looked =
    let one = slice_index_or ws k w in
    let more : staying (take (k + 1) ws) left ≡ staying (take k ws ++ one ∷ []) left = ap (λ l. staying l left) (take_more ws k w inside) in
    looked ∙ ap (λ l. cond (is_left left one.to) l (slice_set l one.from false)) before
    ∙ elim (is_left left one.to) as (λ b. is_left left one.to ≡ b → cond b (staying (take k ws) left) (slice_set (staying (take k ws) left) one.from false) ≡ staying (take k ws ++ one ∷ []) left) [
      | true ↦ λ stays. sym (stays-on (take k ws) one left stays 0 left)
      | false ↦ λ out. sym (goes-out (take k ws) one left out 0 one.from left (omega arith))
    ] refl
    ∙ sym more

-- one flag more is
pub numbered-more : (left : List Bool) (k : ℕ) (b : Bool) (old new : List ℕ) → k < length left → old ≡ places_from 0 (take k left)
    → new ≡ old ++ cond (slice_index_or left k b) (k ∷ []) [] → new ≡ places_from 0 (take (k + 1) left)
numbered-more left k b old new inside before more =
    more ∙ ap (λ l. l ++ cond (slice_index_or left k b) (k ∷ []) []) before
    ∙ ap (λ n. places_from 0 (take k left) ++ cond (slice_index_or left k b) (n ∷ []) []) (omega (arith, length-take-le k left (omega (arith, inside))))
    ∙ sym (places-more 0 (take k left) (slice_index_or left k b))
    ∙ sym (ap (places_from 0) (take_more left k b inside))

one-fewer : (n k : ℕ) → k < n → n - k ≡ suc (n - (k + 1))
one-fewer n k inside = omega (arith, inside)

none-left : (n k : ℕ) → n ≤ k → 0 ≡ n - k
none-left n k all = omega (arith, all)

-- one round more
pub one-round : (ws : List Way) (n k : ℕ) (bs : List Bool) → k < n → flags_after (n - k) ws bs ≡ flags_after (n - (k + 1)) ws (staying ws bs)
one-round ws n k bs inside = ap (λ j. flags_after j ws bs) (one-fewer n k inside)

-- no round is left
pub no-round : (ws : List Way) (n k : ℕ) (bs : List Bool) → n ≤ k → bs ≡ flags_after (n - k) ws bs
no-round ws n k bs all = ap (λ j. flags_after j ws bs) (none-left n k all)

-- flags that are the same by one another
pub same-flags : (cs bs : List Bool) → pointwise beq cs bs ≡ true → cs ≡ bs
same-flags [] [] same = refl
same-flags [] (b ∷ bs) same = cc
same-flags (c ∷ cs) [] same = cc
same-flags (true ∷ cs) (true ∷ bs) same = ap (λ l. true ∷ l) (same-flags cs bs same)
same-flags (true ∷ cs) (false ∷ bs) same = cc
same-flags (false ∷ cs) (true ∷ bs) same = cc
same-flags (false ∷ cs) (false ∷ bs) same = ap (λ l. false ∷ l) (same-flags cs bs same)

-- the numbers are those of flags
pub places-within : (n top : ℕ) (bs : List Bool) → n + length bs ≤ top → AllByRecursion (λ i. i < top) (places_from n bs)
places-within n top [] within = tt
places-within n top (true ∷ bs) within = (omega (arith, within), places-within (n + 1) top bs (omega (arith, within)))
places-within n top (false ∷ bs) within = places-within (n + 1) top bs (omega (arith, within))
