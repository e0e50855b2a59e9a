-- The letters of an item's entries, put over dashes one by one.
-- Letters: s is a state, all are the states of an item, k is a place, xs are the letters so far, v is a letter.
use Rattle.std.proofs.Common.{◌≡◌, ◌<◌, ◌≤◌, ℕ, suc, ◌+◌, ◌-◌, List, [], ◌∷◌, ◌++◌, length, map, take, drop, get_or, set, replicate, Option, Some, None, refl, sym, ap, subst, ◌∙◌, add-zero, arith, append_assoc}
use Rattle.std.proofs.Math.Seq.{set-append_seam, take-append_seam}
use Rattle.std.proofs.lemmas.List.{append-nil, drop-take, length-map, length-take, length-take-le, map-append, take_all, take_more}
use Rattle.report.specs.DdmTypes.declared.sizes.LeafState.{LeafState}
use Rattle.text_model.specs.Report.{letter_text, letter_texts}

abbrev pub letter_code : Option LeafState → ℕ
letter_code None = 45
letter_code (Some LeafState.Shared) = 83
letter_code (Some LeafState.Exclusive) = 69
letter_code (Some LeafState.Reading) = 82
letter_code (Some LeafState.Waiting) = 87
letter_code (Some LeafState.ReadingWaiting) = 66

letter-one : (s : Option LeafState) → letter_text s ≡ letter_code s ∷ []
unfolding letter_text
letter-one None = refl
letter-one (Some LeafState.Shared) = refl
letter-one (Some LeafState.Exclusive) = refl
letter-one (Some LeafState.Reading) = refl
letter-one (Some LeafState.Waiting) = refl
letter-one (Some LeafState.ReadingWaiting) = refl

pub letters-are : (all : List (Option LeafState)) → letter_texts all ≡ map letter_code all
unfolding letter_texts
letters-are [] = refl
letters-are (s ∷ all) = ap (λ t. t ++ letter_texts all) (letter-one s) ∙ ap (λ t. letter_code s ∷ t) (letters-are all)

-- what stands in the list of the letters when so many states were gone through
abbrev pub letters_of : ℕ → List (Option LeafState) → List ℕ
letters_of k all = map letter_code (take k all) ++ replicate (64 - k) 45

letters-next : (k : ℕ) (all : List (Option LeafState)) → k < length all → map letter_code (take (k + 1) all) ≡ map letter_code (take k all) ++ letter_code (get_or all k None) ∷ []
letters-next k all inside = ap (map letter_code) (take_more all k None inside) ∙ map-append letter_code (take k all) (get_or all k None ∷ [])

-- the next place
module _ (k : ℕ) (all : List (Option LeafState)) (s : Option LeafState) (inside : k < length all) (few : length all ≤ 64) (is : s ≡ get_or all k None) where
  dashes : replicate {A = ℕ} (64 - k) 45 ≡ 45 ∷ replicate (64 - (k + 1)) 45
  dashes =
      let one : 64 - k ≡ suc (64 - (k + 1)) = omega (arith, inside, few) in
      ap (λ n. replicate {A = ℕ} n 45) one

  joined : (v : ℕ) → map letter_code (take k all) ++ v ∷ replicate (64 - (k + 1)) 45 ≡ (map letter_code (take k all) ++ v ∷ []) ++ replicate (64 - (k + 1)) 45
  joined v = sym (append_assoc (map letter_code (take k all)) (v ∷ []) (replicate (64 - (k + 1)) 45))

  more : (v : ℕ) → v ≡ letter_code s → map letter_code (take k all) ++ v ∷ replicate (64 - (k + 1)) 45 ≡ letters_of (k + 1) all
  more v at = joined v ∙ ap (λ t. t ++ replicate (64 - (k + 1)) 45) (ap (λ x. map letter_code (take k all) ++ x ∷ []) (at ∙ ap letter_code is) ∙ sym (letters-next k all inside))

  pub letters-none : s ≡ None → letters_of k all ≡ letters_of (k + 1) all
  letters-none none = ap (λ t. map letter_code (take k all) ++ t) dashes ∙ more 45 (ap letter_code (sym none))

  pub letters-some : (v : ℕ) → letter_text s ≡ v ∷ [] → set (letters_of k all) k v ≡ letters_of (k + 1) all
  letters-some v told =
      let many : length (map letter_code (take k all)) ≡ k = length-map (take k all) letter_code ∙ length-take-le k all (omega (arith, inside)) in
      let here : set (map letter_code (take k all) ++ 45 ∷ replicate (64 - (k + 1)) 45) k v ≡ map letter_code (take k all) ++ v ∷ replicate (64 - (k + 1)) 45 = subst (λ i. set (map letter_code (take k all) ++ 45 ∷ replicate (64 - (k + 1)) 45) i v ≡ map letter_code (take k all) ++ v ∷ replicate (64 - (k + 1)) 45) many (set-append_seam (map letter_code (take k all)) 45 (replicate (64 - (k + 1)) 45) v) in
      ap (λ t. set (map letter_code (take k all) ++ t) k v) dashes ∙ here ∙ more v (same-head v (letter_code s) (sym told ∙ letter-one s))
    where
      same-head : (x y : ℕ) → x ∷ [] ≡ y ∷ [] → x ≡ y
      same-head x y e = ap (λ xs. get_or xs 0 x) e

-- when all were gone through
pub letters-all : (all : List (Option LeafState)) (k : ℕ) → k ≡ length all → take (length all) (letters_of k all) ≡ letter_texts all
letters-all all k end =
    let whole : map letter_code (take k all) ≡ map letter_code all = ap (λ n. map letter_code (take n all)) end ∙ ap (map letter_code) (take_all (length all) all (omega arith)) in
    let many : length all ≡ length (map letter_code all) = sym (length-map all letter_code) in
    ap (λ t. take (length all) (t ++ replicate (64 - k) 45)) whole ∙ ap (λ n. take n (map letter_code all ++ replicate (64 - k) 45)) many ∙ take-append_seam (map letter_code all) (replicate (64 - k) 45) ∙ sym (letters-are all)

letters-length : (all : List (Option LeafState)) → length (letter_texts all) ≡ length all
letters-length all = ap length (letters-are all) ∙ length-map all letter_code

-- the letters from one place on, where these are the states of so many leaves
pub letters-from : (states all : List (Option LeafState)) (from leaves : ℕ) → from ≤ leaves → take leaves states ≡ all → letter_texts (drop from all) ≡ letter_texts (take (leaves - from) (drop from states)) ++ letter_texts (drop leaves all)
unfolding letter_texts
letters-from states all from leaves within is =
    let both : leaves ≡ from + (leaves - from) = omega (arith, within) in
    let here : drop from all ≡ take (leaves - from) (drop from states) = ap (drop from) (sym is ∙ ap (λ n. take n states) both) ∙ drop-take from (leaves - from) states in
    let none : drop leaves all ≡ [] = ap (drop leaves) (sym is ∙ ap (λ n. take n states) (sym (add-zero leaves))) ∙ drop-take leaves 0 states in
    ap letter_texts here ∙ sym (append-nil (letter_texts (take (leaves - from) (drop from states)))) ∙ ap (λ t. letter_texts (take (leaves - from) (drop from states)) ++ letter_texts t) (sym none)

pub letters-few : (states : List (Option LeafState)) (n : ℕ) → length (letter_texts (take n states)) ≤ n
letters-few states n = omega (arith, letters-length (take n states), length-take n states)
