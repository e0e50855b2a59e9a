-- The levels of a tree from one on.
use Rattle.std.proofs.Common.{◌≡◌, ℕ, zero, suc, ◌+◌, ◌≤◌, Some, List, [], ◌∷◌, ◌++◌, drop, length, map, ap, subst, arith}
use Rattle.std.specs.Prelude.{slice_get}
use Rattle.std.proofs.lemmas.List.{drop_all}
use Rattle.film_runs.specs.Levels.{levels_from}

levels_after : (above : ℕ) (ls : List (List ℕ)) (k : ℕ) (l : List ℕ) → Some l ≡ slice_get ls k → levels_from above (drop k ls) ≡ map (λ (width : ℕ). above) l ++ levels_from (above + 1) (drop (suc k) ls)
levels_after above [] zero l is = cc
levels_after above [] (suc k) l is = cc
levels_after above (m ∷ ls) zero l is = let same : m ≡ l = cc in ap (λ (n : List ℕ). map (λ (width : ℕ). above) n ++ levels_from (above + 1) ls) same
levels_after above (m ∷ ls) (suc k) l is = levels_after above ls k l is

pub levels_next : (above : ℕ) (ls : List (List ℕ)) (k : ℕ) (l : List ℕ) → Some l ≡ slice_get ls k → levels_from above (drop k ls) ≡ map (λ (width : ℕ). above) l ++ levels_from (above + 1) (drop (k + 1) ls)
levels_next above ls k l is = subst (λ n. levels_from above (drop k ls) ≡ map (λ (width : ℕ). above) l ++ levels_from (above + 1) (drop n ls)) {x = suc k} {y = k + 1} (omega arith) (levels_after above ls k l is)

pub levels_end : (above : ℕ) (ls : List (List ℕ)) (k : ℕ) → length ls ≤ k → levels_from above (drop k ls) ≡ []
levels_end above ls k past = ap (levels_from above) (drop_all k ls past)
