-- Lists that a loop has changed as far as a place, and parts of lists.
use Rattle.std.proofs.Common.{◌≡◌, ℕ, zero, suc, ◌+◌, ◌-◌, ◌<◌, List, [], ◌∷◌, ◌++◌, map, take, drop, length, slice_index_or, slice_set, refl, ap, arith, add-one}

mapped : {X : Type 0} (f : X → X) (xs : List X) (i : ℕ) (d : X) → i < length xs → slice_set (map f (take i xs) ++ drop i xs) i (f (slice_index_or (map f (take i xs) ++ drop i xs) i d)) ≡ map f (take (suc i) xs) ++ drop (suc i) xs
mapped f [] i d h = absurd (omega arith)
mapped f (y ∷ ys) zero d h = refl
mapped f (y ∷ ys) (suc i) d h = ap (λ l. f y ∷ l) (mapped f ys i d (omega arith))

pub mapped_more : {X : Type 0} (f : X → X) (xs ys : List X) (i : ℕ) (d : X) → i < length xs → ys ≡ map f (take i xs) ++ drop i xs → slice_set ys i (f (slice_index_or ys i d)) ≡ map f (take (i + 1) xs) ++ drop (i + 1) xs
mapped_more f xs ys i d h same = rw (add-one, same) (mapped f xs i d h)

pub part_from : {X : Type 0} (xs : List X) (start width : ℕ) → take (start + width - start) (drop start xs) ≡ take width (drop start xs)
part_from xs start width = let e : start + width - start ≡ width = omega arith in rw e refl
