-- A leaf or a bus that has a path has a number below how many there are.
use Rattle.std.proofs.Common.{◌≡◌, ◌<◌, ℕ, ◌+◌, Bool, true, false, List, [], ◌∷◌, length, Option, Some, None, refl, ap, arith}
use Rattle.std.specs.Prelude.{is_some, nat_eq, nat_lt, option_map, if◌then◌else◌}
use Rattle.std.proofs.lemmas.Bool.{eqb-true, lt-ltb, ltb-true}
use Rattle.ddm_tree.specs.TreeModel.State.Lists.{first_some, some_if}
use Rattle.ddm_tree.specs.TreeModel.State.Shape.{Skeleton, Skeletons, leaf_bone, dir_bone, no_bones, more_bones, buses_of, buses_among, leaf_numbers_of, leaf_numbers_among, count_from, are_below}
use Rattle.ddm_tree.specs.TreeModel.Turns.Tree.{leaf_of_number, bus_of_number}
use Rattle.ddm_tree.proofs.TreeModel.Tests.{and-first, and-second, and-both}
use Rattle.ddm_tree.specs.Path.{step_down, path_to, path_among}

-- numbers that count from n are below n and how many they are
pub counted-below : (n m : ℕ) (ns : List ℕ) → n + length ns ≡ m → count_from n ns ≡ true → are_below m ns ≡ true
counted-below n m [] size e = refl
counted-below n m (k ∷ ks) size e =
    let first : k ≡ n = eqb-true _ _ (and-first _ (count_from (n + 1) ks) e) in
    let total : n + 1 + length ks ≡ m = omega (arith, size) in
    and-both _ _ (lt-ltb _ _ (omega (arith, first, size))) (counted-below (n + 1) m ks total (and-second (nat_eq k n) _ e))

abbrev no_steps : List ℕ
no_steps = []

own-some : (b : Bool) → is_some (some_if b no_steps) ≡ true → b ≡ true
own-some true e = refl
own-some false e = cc

module _ (most k : ℕ) where
  -- the numbers of a part of the tree, and those behind it
  record Below (found : Option (List ℕ)) (rest : List ℕ) : Type 0 where
    own : is_some found ≡ true → k < most
    behind : are_below most rest ≡ true

  Below-first : (i : ℕ) (a b : Option (List ℕ)) (here there : List ℕ) → Below a here → Below b there → Below (first_some (option_map (step_down i) a) b) there
  Below-first i None b here there first second = record { own = second.own; behind = second.behind }
  Below-first i (Some path) b here there first second = record { own = λ some. first.own refl; behind = second.behind }

  Below-own : (number : ℕ) (rest : List ℕ) → are_below most (number ∷ rest) ≡ true → Below (some_if (nat_eq number k) no_steps) rest
  Below-own number rest below =
      let bound : number < most = ltb-true _ _ (and-first _ (are_below most rest) below) in
      record { own = λ some. omega (arith, bound, eqb-true number k (own-some (nat_eq number k) some)); behind = and-second (nat_lt number most) _ below }

  Below-or : (own : Bool) (o : Option (List ℕ)) (here rest : List ℕ) → Below (some_if own no_steps) here → Below o rest → Below (if own then Some no_steps else o) rest
  Below-or true o here rest first second = record { own = first.own; behind = second.behind }
  Below-or false o here rest first second = second

  mutual
    leaf-below : (b : Skeleton) (rest : List ℕ) → are_below most (leaf_numbers_of b rest) ≡ true → Below (path_to (leaf_of_number k) b) rest
    leaf-below (leaf_bone number sizes) rest below = Below-own number rest below
    leaf-below (dir_bone bus level sizes bones) rest below = leaves-below 0 bones rest below

    leaves-below : (i : ℕ) (bs : Skeletons) (rest : List ℕ) → are_below most (leaf_numbers_among bs rest) ≡ true → Below (path_among (leaf_of_number k) i bs) rest
    leaves-below i no_bones rest below = record { own = λ some. cc; behind = below }
    leaves-below i (more_bones b bs) rest below =
        let first = leaf-below b (leaf_numbers_among bs rest) below in
        Below-first i _ _ _ _ first (leaves-below (i + 1) bs rest first.behind)

  mutual
    bus-below : (b : Skeleton) (rest : List ℕ) → are_below most (buses_of b rest) ≡ true → Below (path_to (bus_of_number k) b) rest
    bus-below (leaf_bone number sizes) rest below = record { own = λ some. cc; behind = below }
    bus-below (dir_bone bus level sizes bones) rest below =
        let own = Below-own bus (buses_among bones rest) below in
        Below-or (nat_eq bus k) (path_among (bus_of_number k) 0 bones) _ rest own (buses-below 0 bones rest own.behind)

    buses-below : (i : ℕ) (bs : Skeletons) (rest : List ℕ) → are_below most (buses_among bs rest) ≡ true → Below (path_among (bus_of_number k) i bs) rest
    buses-below i no_bones rest below = record { own = λ some. cc; behind = below }
    buses-below i (more_bones b bs) rest below =
        let first = bus-below b (buses_among bs rest) below in
        Below-first i _ _ _ _ first (buses-below (i + 1) bs rest first.behind)

-- ---- as the machine's paths need it

pub leaf-numbered : (k : ℕ) (b : Skeleton) (path : List ℕ) → count_from 0 (leaf_numbers_of b []) ≡ true → path_to (leaf_of_number k) b ≡ Some path → k < length (leaf_numbers_of b [])
leaf-numbered k b path counted leads =
    let most = length (leaf_numbers_of b []) in
    let size : 0 + length (leaf_numbers_of b []) ≡ most = omega arith in
    (leaf-below most k b [] (counted-below 0 most (leaf_numbers_of b []) size counted)).own (ap is_some leads)

pub bus-numbered : (k most : ℕ) (b : Skeleton) (path : List ℕ) → are_below most (buses_of b []) ≡ true → path_to (bus_of_number k) b ≡ Some path → k < most
bus-numbered k most b path below leads = (bus-below most k b [] below).own (ap is_some leads)
