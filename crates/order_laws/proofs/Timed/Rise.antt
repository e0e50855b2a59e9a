-- The present moment of a bus rises with its count, where what it took over of the bus above doesn't fall; and its stamp has
-- numbers for its own level and those above alone.
use Rattle.std.proofs.Common.{◌≡◌, ℕ, zero, suc, ◌+◌, ◌<◌, true, false, List, [], ◌∷◌, ◌++◌, length, take, refl, sym, ap, subst, ◌∙◌, arith}
use Rattle.std.proofs.lemmas.List.{length-append}
use Rattle.order_laws.specs.DdmTypes.declared.keys.Stamp.{Stamp}
use Rattle.order_laws.specs.DdmTypes.Keys.{stamp_at, stamp_numbers}
use Rattle.order_laws.specs.TreeModel.State.Values.{DirValue}
use Rattle.order_laws.specs.TreeModel.State.Directory.{stamp_of}
use Rattle.order_laws.specs.TreeModel.State.Place.{Spot, spot_path}
use Rattle.order_laws.specs.TreeRules.Order.Moments.{less, moment_at}
use Rattle.order_laws.specs.TreeRules.Order.Time.{stamp_ends}
use Rattle.order_lists.proofs.Stamps.{moment-less, less-push}

numbers_of : Stamp → List ℕ
numbers_of t = t.s0 ∷ t.s1 ∷ t.s2 ∷ t.s3 ∷ []

stamp_numbers-at : (level n : ℕ) (t : Stamp) → level < 4 → stamp_numbers level (stamp_at t level n) ≡ take level (numbers_of t) ++ n ∷ []
unfolding numbers_of
stamp_numbers-at zero n t h = refl
stamp_numbers-at (suc zero) n t h = refl
stamp_numbers-at (suc (suc zero)) n t h = refl
stamp_numbers-at (suc (suc (suc zero))) n t h = refl
stamp_numbers-at (suc (suc (suc (suc level)))) n t h = absurd (omega arith)

numbers-length : (level : ℕ) (t : Stamp) → level < 5 → length (take level (numbers_of t)) ≡ level
unfolding numbers_of
numbers-length zero t h = refl
numbers-length (suc zero) t h = refl
numbers-length (suc (suc zero)) t h = refl
numbers-length (suc (suc (suc zero))) t h = refl
numbers-length (suc (suc (suc (suc zero)))) t h = refl
numbers-length (suc (suc (suc (suc (suc level))))) t h = absurd (omega arith)

stamp_numbers-length : (level : ℕ) (t : Stamp) → level < 4 → length (stamp_numbers level t) ≡ level + 1
unfolding numbers_of
stamp_numbers-length level t h = numbers-length (level + 1) t (omega arith)

-- the moments of two stamps on a bus are in the order of the stamps
moments : (path : List ℕ) (a b : Stamp) → length path < 4 → less (moment_at path a) (moment_at path b) ≡ less (stamp_numbers (length path) a) (stamp_numbers (length path) b)
moments path a b h = moment-less (stamp_numbers (length path) a) (stamp_numbers (length path) b) path (stamp_numbers-length (length path) a h) (stamp_numbers-length (length path) b h)

-- a directory before and after a turn of its bus
pub record Counted (path : List ℕ) (d q : DirValue) : Type 0 where
  pub before : d.level ≡ length path
  pub after : q.level ≡ length path
  pub deep : length path < 4
  pub count : q.count ≡ d.count + 1

-- its epoch didn't fall in the numbers that are above its bus
abbrev EpochStands : List ℕ → DirValue → DirValue → Type 0
EpochStands path d q = less (take (length path) (numbers_of q.epoch)) (take (length path) (numbers_of d.epoch)) ≡ false

rises-by_count : (path : List ℕ) (d q : DirValue) → Counted path d q → EpochStands path d q → less (moment_at path (stamp_of d)) (moment_at path (stamp_of q)) ≡ true
rises-by_count path d q c e =
    let old : stamp_numbers (length path) (stamp_of d) ≡ take (length path) (numbers_of d.epoch) ++ d.count ∷ [] = ap (λ l. stamp_numbers (length path) (stamp_at d.epoch l d.count)) c.before ∙ stamp_numbers-at (length path) d.count d.epoch c.deep in
    let new : stamp_numbers (length path) (stamp_of q) ≡ take (length path) (numbers_of q.epoch) ++ q.count ∷ [] = ap (λ l. stamp_numbers (length path) (stamp_at q.epoch l q.count)) c.after ∙ stamp_numbers-at (length path) q.count q.epoch c.deep in
    let same : length (take (length path) (numbers_of d.epoch)) ≡ length (take (length path) (numbers_of q.epoch)) = numbers-length (length path) d.epoch (omega (arith, c.deep)) ∙ sym (numbers-length (length path) q.epoch (omega (arith, c.deep))) in
    moments path (stamp_of d) (stamp_of q) c.deep ∙ ap (λ a. less a (stamp_numbers (length path) (stamp_of q))) old ∙ ap (less (take (length path) (numbers_of d.epoch) ++ d.count ∷ [])) new ∙ less-push (take (length path) (numbers_of d.epoch)) (take (length path) (numbers_of q.epoch)) d.count q.count same e (omega (arith, c.count))

-- on the top's bus
pub rises-at_top : (d q : DirValue) → Counted [] d q → less (moment_at [] (stamp_of d)) (moment_at [] (stamp_of q)) ≡ true
rises-at_top d q c = rises-by_count [] d q c refl

-- on the bus of a child, whose epoch is a moment on the bus above
pub rises-at_child : (c : Spot) (d q : DirValue) → Counted (spot_path c) d q → less (moment_at c.above q.epoch) (moment_at c.above d.epoch) ≡ false → less (moment_at (spot_path c) (stamp_of d)) (moment_at (spot_path c) (stamp_of q)) ≡ true
unfolding numbers_of
rises-at_child c d q k h = rises-by_count (spot_path c) d q k stands where
  n : length (spot_path c) ≡ length c.above + 1
  n = length-append c.above (c.number ∷ [])

  low : length c.above < 4
  low = let deep : length (spot_path c) < 4 = k.deep in omega (arith, n, deep)

  stands : EpochStands (spot_path c) d q
  stands = subst (λ l. less (take l (numbers_of q.epoch)) (take l (numbers_of d.epoch)) ≡ false) (sym n) (sym (moments c.above q.epoch d.epoch low) ∙ h)

-- ---- numbers past the level

pub ends-at : (level n : ℕ) (t : Stamp) → level < 4 → stamp_ends level t ≡ true → stamp_ends (level + 1) (stamp_at t level n) ≡ true
ends-at zero n t h e = grind arith
ends-at (suc level) n t h e = grind arith
