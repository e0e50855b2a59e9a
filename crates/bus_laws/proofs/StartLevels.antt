-- The levels of buses over the leaves: each keeps its rules, and together they have the shape of a machine.
use Rattle.std.proofs.Common.{◌≡◌, ℕ, zero, suc, ◌+◌, ◌<◌, ◌≤◌, Bool, true, false, List, [], ◌∷◌, map, length, take, drop, refl, sym, ap, subst, ◌∙◌, zero-add, add-one, arith}
use Rattle.std.specs.Prelude.{nat_le, sum}
use Rattle.std.specs.List.{AllByRecursion, list_all, range_with_len}
use Rattle.std.specs.Cmp.Derive.{both_true}
use Rattle.std.proofs.lemmas.Bool.{eq-eqb, le-leb, lt-ltb, leb-true, and_parts}
use Rattle.std.proofs.lemmas.List.Sums.{sum_by-cons}
use Rattle.bus_laws.specs.TreeModel.State.Values.{DirSizes, Node, nodes}
use Rattle.bus_laws.specs.TreeModel.State.Shape.{Skeleton, Skeletons, leaf_bone, dir_bone, no_bones, more_bones, skeleton, skeletons, first_levels, levels_fit, levels_fit_among, bone_count, widths_fit, widths_fit_among, buses_of, buses_among, leaf_numbers_of, leaf_numbers_among}
use Rattle.bus_laws.specs.TreeModel.Start.Nodes.{cut_in, dir_over, dirs_over, under_levels}
use Rattle.bus_laws.specs.IsTree.{is_width, AreUnder}
use Rattle.bus_laws.proofs.StartSums.{one_if, among}
use Rattle.bus_laws.proofs.StartNodes.{some_of, has_held, IsIdle, AreIdle, holding, holding-is, dir-idle, dir-holds}

-- ---- parts of a list

module _ {X : Type 0} (P : X → Type 0) where
  pub each-take : (k : ℕ) (xs : List X) → AllByRecursion P xs → AllByRecursion P (take k xs)
  each-take zero xs h = tt
  each-take (suc k) [] h = tt
  each-take (suc k) (x ∷ xs) h = (h.0, each-take k xs h.1)

  pub each-drop : (k : ℕ) (xs : List X) → AllByRecursion P xs → AllByRecursion P (drop k xs)
  each-drop zero xs h = h
  each-drop (suc k) [] h = tt
  each-drop (suc k) (x ∷ xs) h = each-drop k xs h.1

among-parts : {X : Type 0} (f : X → ℕ) (k : ℕ) (xs : List X) → among f xs ≡ among f (take k xs) + among f (drop k xs)
among-parts f zero xs = omega arith
among-parts f (suc k) [] = refl
among-parts f (suc k) (x ∷ xs) =
    let rest = among-parts f k xs in
    omega arith

take-length : {X : Type 0} (k : ℕ) (xs : List X) → k ≤ length xs → length (take k xs) ≡ k
take-length zero xs h = refl
take-length (suc k) [] h = absurd (omega arith)
take-length (suc k) (x ∷ xs) h = ap suc (take-length k xs (omega arith))

drop-length : {X : Type 0} (k m : ℕ) (xs : List X) → length xs ≡ k + m → length (drop k xs) ≡ m
drop-length zero m xs h = omega arith
drop-length (suc k) m [] h = absurd (omega arith)
drop-length (suc k) m (x ∷ xs) h = drop-length k m xs (omega arith)

pub sum-more : (k : ℕ) (ks : List ℕ) → sum (k ∷ ks) ≡ k + sum ks
sum-more k ks = sum_by-cons (λ x. x) k ks

pub width-parts : (k : ℕ) → is_width k ≡ true → (1 ≤ k) × (k ≤ 16)
width-parts k h =
    let parts = and_parts (nat_le 1 k) (nat_le k 16) h in
    (leb-true _ _ parts.0, leb-true _ _ parts.1)

-- ---- the shape of a list of nodes

-- the numbers of the buses of a part of the tree, each weighed
abbrev mutual
  pub weight : (ℕ → ℕ) → Skeleton → ℕ
  weight f (leaf_bone number sizes) = 0
  weight f (dir_bone bus level sizes bs) = f bus + weights f bs

  pub weights : (ℕ → ℕ) → Skeletons → ℕ
  weights f no_bones = 0
  weights f (more_bones b bs) = weight f b + weights f bs

mutual
  pub weight-buses : (f : ℕ → ℕ) (s : Skeleton) (rest : List ℕ) → among f (buses_of s rest) ≡ weight f s + among f rest
  weight-buses f (leaf_bone number sizes) rest = omega arith
  weight-buses f (dir_bone bus level sizes bs) rest =
      let below = weights-buses f bs rest in
      omega arith

  pub weights-buses : (f : ℕ → ℕ) (bs : Skeletons) (rest : List ℕ) → among f (buses_among bs rest) ≡ weights f bs + among f rest
  weights-buses f no_bones rest = omega arith
  weights-buses f (more_bones b bs) rest =
      let first = weight-buses f b (buses_among bs rest) in
      let later = weights-buses f bs rest in
      omega arith

levels-parts : (k depth above : ℕ) (ms : List Node) → levels_fit_among depth above (skeletons (nodes ms)) ≡ true → (levels_fit_among depth above (skeletons (nodes (take k ms))) ≡ true) × (levels_fit_among depth above (skeletons (nodes (drop k ms))) ≡ true)
levels-parts zero depth above ms h = (refl, h)
levels-parts (suc k) depth above [] h = (refl, refl)
levels-parts (suc k) depth above (m ∷ ms) h =
    let parts = and_parts (levels_fit depth above (skeleton m)) (levels_fit_among depth above (skeletons (nodes ms))) h in
    let rest = levels-parts k depth above ms parts.1 in
    (both_true parts.0 rest.0, rest.1)

widths-parts : (k : ℕ) (ms : List Node) → widths_fit_among (skeletons (nodes ms)) ≡ true → (widths_fit_among (skeletons (nodes (take k ms))) ≡ true) × (widths_fit_among (skeletons (nodes (drop k ms))) ≡ true)
widths-parts zero ms h = (refl, h)
widths-parts (suc k) [] h = (refl, refl)
widths-parts (suc k) (m ∷ ms) h =
    let parts = and_parts (widths_fit (skeleton m)) (widths_fit_among (skeletons (nodes ms))) h in
    let rest = widths-parts k ms parts.1 in
    (both_true parts.0 rest.0, rest.1)

numbers-parts : (k : ℕ) (ms : List Node) (rest : List ℕ) → leaf_numbers_among (skeletons (nodes (take k ms))) (leaf_numbers_among (skeletons (nodes (drop k ms))) rest) ≡ leaf_numbers_among (skeletons (nodes ms)) rest
numbers-parts zero ms rest = refl
numbers-parts (suc k) [] rest = refl
numbers-parts (suc k) (m ∷ ms) rest = ap (leaf_numbers_of (skeleton m)) (numbers-parts k ms rest)

weights-parts : (f : ℕ → ℕ) (k : ℕ) (ms : List Node) → weights f (skeletons (nodes ms)) ≡ weights f (skeletons (nodes (take k ms))) + weights f (skeletons (nodes (drop k ms)))
weights-parts f zero ms = omega arith
weights-parts f (suc k) [] = refl
weights-parts f (suc k) (m ∷ ms) =
    let rest = weights-parts f k ms in
    omega arith

pub bones-count : (ms : List Node) → bone_count (skeletons (nodes ms)) ≡ length ms
bones-count [] = refl
bones-count (m ∷ ms) =
    let rest = bones-count ms in
    omega arith

-- ---- directories over the runs of a list

abbrev AreWidths : List ℕ → Type 0
AreWidths l = list_all is_width l ≡ true

one-some : (bs : List Bool) → among one_if bs ≤ 1 → one_if (some_of bs) ≡ among one_if bs
one-some [] few = refl
one-some (true ∷ bs) few = omega arith
one-some (false ∷ bs) few =
    let rest = one-some bs (omega arith) in
    omega arith

module _ (n : ℕ) (sizes : DirSizes) where
  record AreOver (level bus : ℕ) (l : List ℕ) (ms : List Node) (ds : List Node) : Type 0 where
    count : length ds ≡ length l
    idle : AreIdle n ds
    same : (x : ℕ) → x < n → holding x ds ≡ holding x ms
    levels : (depth : ℕ) → levels_fit_among depth (level + 1) (skeletons (nodes ms)) ≡ true → levels_fit_among depth level (skeletons (nodes ds)) ≡ true
    widths : widths_fit_among (skeletons (nodes ms)) ≡ true → widths_fit_among (skeletons (nodes ds)) ≡ true
    numbers : (rest : List ℕ) → leaf_numbers_among (skeletons (nodes ds)) rest ≡ leaf_numbers_among (skeletons (nodes ms)) rest
    weighed : (f : ℕ → ℕ) → weights f (skeletons (nodes ds)) ≡ among f (range_with_len bus (length l)) + weights f (skeletons (nodes ms))

  dirs-over : (level bus : ℕ) (l : List ℕ) (ms : List Node) → level ≤ 3 → length ms ≡ sum l → AreWidths l → AreIdle n ms → ((x : ℕ) → x < n → holding x ms ≤ 1) → AreOver level bus l ms (dirs_over sizes level bus (cut_in l ms))
  dirs-over level bus [] [] low count wide idle few = record { count = refl; idle = tt; same = λ x l. refl; levels = λ depth h. refl; widths = λ h. refl; numbers = λ rest. refl; weighed = λ f. refl }
  dirs-over level bus [] (m ∷ ms) low count wide idle few = absurd (omega arith)
  dirs-over level bus (k ∷ l) ms low count wide idle few =
      let parts = and_parts (is_width k) (list_all is_width l) wide in
      let width = width-parts k parts.0 in
      let more = sum-more k l in
      let mine = take k ms in
      let others = drop k ms in
      let mine_count : length mine ≡ k = take-length k ms (omega arith) in
      let others_count : length others ≡ sum l = drop-length k (sum l) ms (omega arith) in
      let mine_idle : AreIdle n mine = each-take (IsIdle n) k ms idle in
      let split = λ (x : ℕ). among-parts (λ (m : Node). one_if (has_held x m)) k ms in
      let few_mine : (x : ℕ) → x < n → holding x mine ≤ 1 = λ x low. omega (arith, few x low, split x) in
      let few_others : (x : ℕ) → x < n → holding x others ≤ 1 = λ x low. omega (arith, few x low, split x) in
      let rest = dirs-over level (bus + 1) l others low others_count parts.1 (each-drop (IsIdle n) k ms idle) few_others in
      let some : 1 ≤ length mine = omega arith in
      record {
        count = ap suc rest.count;
        idle = (dir-idle n sizes level bus mine mine_idle some few_mine, rest.idle);
        same = λ x low.
            let here : one_if (has_held x (dir_over sizes level bus mine)) ≡ holding x mine = ap one_if (dir-holds n sizes level bus mine mine_idle some few_mine x) ∙ one-some (map (has_held x) mine) (subst (λ c. c ≤ 1) (holding-is n mine x) (few_mine x low)) ∙ sym (holding-is n mine x) in
            omega (arith, here, rest.same x low, split x);
        levels = λ depth h.
            let both = levels-parts k depth (level + 1) ms h in
            both_true (both_true (eq-eqb level level refl) (both_true (le-leb level 3 low) both.0)) (rest.levels depth both.1);
        widths = λ h.
            let both = widths-parts k ms h in
            let counted = bones-count mine in
            both_true (both_true (lt-ltb 0 (bone_count (skeletons (nodes mine))) (omega arith)) (both_true (le-leb (bone_count (skeletons (nodes mine))) 16 (omega arith)) both.0)) (rest.widths both.1);
        numbers = λ after. ap (leaf_numbers_among (skeletons (nodes mine))) (rest.numbers after) ∙ numbers-parts k ms after;
        weighed = λ f. omega (arith, rest.weighed f, weights-parts f k ms);
      }

  first-level : (level bus : ℕ) (l : List ℕ) (ms : List Node) → 1 ≤ length l → AreWidths l → length ms ≡ sum l → first_levels (skeletons (nodes (dirs_over sizes level bus (cut_in l ms)))) ≡ first_levels (skeletons (nodes ms)) + 1
  first-level level bus [] ms some wide count = absurd (omega arith)
  first-level level bus (k ∷ l) ms some wide count =
      let width = width-parts k (and_parts (is_width k) (list_all is_width l) wide).0 in
      ap (λ d. d + 1) (first-of_take k ms width.0)
    where
      first-of_take : (k : ℕ) (ms : List Node) → 1 ≤ k → first_levels (skeletons (nodes (take k ms))) ≡ first_levels (skeletons (nodes ms))
      first-of_take zero ms h = absurd (omega arith)
      first-of_take (suc k) [] h = refl
      first-of_take (suc k) (m ∷ ms) h = refl

-- ---- all levels

-- how many buses these levels have
abbrev pub bus_total : List (List ℕ) → ℕ
bus_total [] = 0
bus_total (l ∷ ls) = length l + bus_total ls

-- how many leaves, where the first level has this many buses
abbrev pub leaf_total : ℕ → List (List ℕ) → ℕ
leaf_total c [] = c
leaf_total c (l ∷ ls) = leaf_total (sum l) ls

abbrev pub AreLevelsWide : List (List ℕ) → Type 0
AreLevelsWide ls = AllByRecursion AreWidths ls

pub among-range : (f : ℕ → ℕ) (a j k : ℕ) → among f (range_with_len a (j + k)) ≡ among f (range_with_len a j) + among f (range_with_len (a + j) k)
among-range f a zero k =
    let none : a + 0 ≡ a = omega arith in
    rw (zero-add k, none) (sym (zero-add (among f (range_with_len a k))))
among-range f a (suc j) k =
    let more : suc j + k ≡ suc (j + k) = omega arith in
    let next : a + suc j ≡ (a + 1) + j = omega arith in
    let rest = among-range f (a + 1) j k in
    rw (more, next) (omega arith)

pub sum-some : (l : List ℕ) → 1 ≤ length l → AreWidths l → 1 ≤ sum l
sum-some [] some wide = absurd (omega arith)
sum-some (k ∷ l) some wide =
    let width = width-parts k (and_parts (is_width k) (list_all is_width l) wide).0 in
    let more = sum-more k l in
    omega arith

-- of n items each is held by one of these nodes, of which nothing is under way; and they have this shape
pub record AreBuilt (n depth level bus : ℕ) (ls : List (List ℕ)) (c : ℕ) (numbers : List ℕ) (ms : List Node) : Type 0 where
  pub count : length ms ≡ c
  pub idle : AreIdle n ms
  pub one : (x : ℕ) → x < n → holding x ms ≡ 1
  pub levels : levels_fit_among depth level (skeletons (nodes ms)) ≡ true
  pub widths : widths_fit_among (skeletons (nodes ms)) ≡ true
  pub numbered : leaf_numbers_among (skeletons (nodes ms)) [] ≡ numbers
  pub weighed : (f : ℕ → ℕ) → weights f (skeletons (nodes ms)) ≡ among f (range_with_len bus (bus_total ls))
  pub first : first_levels (skeletons (nodes ms)) ≡ length ls

module _ (n depth : ℕ) (sizes : DirSizes) (numbers : List ℕ) (leaves : List Node) (low : depth ≤ 4)
    (built : (bus c : ℕ) → length leaves ≡ c → 1 ≤ c → AreBuilt n depth depth bus [] c numbers leaves) where
  pub levels-built : (level bus c : ℕ) (ls : List (List ℕ)) → level + length ls ≡ depth → AreUnder c ls → AreLevelsWide ls → 1 ≤ c → length leaves ≡ leaf_total c ls → AreBuilt n depth level bus ls c numbers (under_levels sizes level bus ls leaves)
  levels-built level bus c [] high under wide some count =
      let here : level ≡ depth = omega arith in
      subst (λ k. AreBuilt n depth k bus [] c numbers leaves) (sym here) (built bus c count some)
  levels-built level bus c (l ∷ ls) high under wide some count =
      let below = under_levels sizes (level + 1) (bus + length l) ls leaves in
      let some_l : 1 ≤ length l = omega (arith, under.0) in
      let b : AreBuilt n depth (level + 1) (bus + length l) ls (sum l) numbers below = levels-built (level + 1) (bus + length l) (sum l) ls (omega arith) under.1 wide.1 (sum-some l some_l wide.0) count in
      let o = dirs-over n sizes level bus l below (omega arith) b.count wide.0 b.idle (λ x l. omega (arith, b.one x l)) in
      record {
        count = o.count ∙ under.0;
        idle = o.idle;
        one = λ x l. o.same x l ∙ b.one x l;
        levels = o.levels depth b.levels;
        widths = o.widths b.widths;
        numbered = o.numbers [] ∙ b.numbered;
        weighed = λ f. omega (arith, o.weighed f, b.weighed f, among-range f bus (length l) (bus_total ls));
        first = first-level n sizes level bus l below some_l wide.0 b.count ∙ ap (λ k. k + 1) b.first ∙ add-one (length ls);
      }
