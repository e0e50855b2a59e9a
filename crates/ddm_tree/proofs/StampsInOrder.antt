-- Whether the stamps are in order that a directory keeps: compared in the numbers of the bus above it, or as moments on its path.
-- Letters: c is a directory with its spot, above its path's, a and b are stamps, e and f entries of its down list.
use Rattle.std.proofs.Common.{◌≡◌, ℕ, ◌+◌, ◌-◌, ◌<◌, List, [], ◌∷◌, length, refl, ap, ◌∙◌, arith}
use Rattle.std.proofs.lemmas.List.{length-append, length-take-le}
use Rattle.ddm_tree.specs.DdmTypes.declared.keys.Stamp.{Stamp}
use Rattle.ddm_tree.specs.DdmTypes.Keys.{stamp_numbers}
use Rattle.ddm_tree.specs.TreeModel.State.Values.{DownValue}
use Rattle.ddm_tree.specs.TreeRules.Statements.{Statement, test_of, each, each_pair}
use Rattle.ddm_tree.specs.TreeRules.Order.Moments.{less, moment_at}
use Rattle.ddm_tree.specs.TreeRules.Order.Places.{DirAt, dir_path}
use Rattle.ddm_tree.specs.TreeRules.Order.Time.{lies_between, may_stand_behind}
use Rattle.ddm_tree.proofs.OrderLists.Levels.{IsLevelled}
use Rattle.ddm_tree.proofs.OrderLists.Stamps.{moment-less}
use Rattle.state_judging.specs.Judged.{stamps_in_order}
use Rattle.ddm_tree.specs.DirectoryCrate.Stamps.{stamp_before, stands_between, may_follow, stamps_fit}

-- ---- statements whose tests agree

module _ {X : Type 0} where
  each-same : (s t : X → Statement) → ((x : X) → test_of (s x) ≡ test_of (t x)) → (xs : List X) → test_of (each s xs) ≡ test_of (each t xs)
  each-same s t same [] = refl
  each-same s t same (x ∷ xs) = rw (same x, each-same s t same xs) refl

  each_pair-same : (s t : X → X → Statement) → ((x y : X) → test_of (s x y) ≡ test_of (t x y)) → (xs : List X) → test_of (each_pair s xs) ≡ test_of (each_pair t xs)
  each_pair-same s t same [] = refl
  each_pair-same s t same (x ∷ xs) = rw (each-same (s x) (t x) (same x) xs, each_pair-same s t same xs) refl

-- ---- a directory

numbers-length : (l : ℕ) (a : Stamp) → l < 4 → length (stamp_numbers l a) ≡ l + 1
numbers-length l a h = length-take-le (l + 1) (a.s0 ∷ a.s1 ∷ a.s2 ∷ a.s3 ∷ []) (omega arith)

moments-compare : (level : ℕ) (above : List ℕ) (a b : Stamp) → level ≡ length above + 1 → length above < 4 → less (moment_at above a) (moment_at above b) ≡ stamp_before (level - 1) a b
moments-compare level above a b h k =
    let at : length above ≡ level - 1 = omega arith in
    moment-less (stamp_numbers (length above) a) (stamp_numbers (length above) b) above (numbers-length (length above) a k) (numbers-length (length above) b k) ∙ ap (λ l. stamp_before l a b) at

pub in_order-fits : (c : DirAt) → IsLevelled c → stamps_in_order c ≡ stamps_fit c.spot.present c.dir
unfolding stamps_fit
in_order-fits c levelled =
    let all_between : test_of (each (lies_between c) c.dir.down) ≡ test_of (each (stands_between (c.dir.level - 1) c.dir.epoch c.spot.present) c.dir.down) = each-same _ _ between-same c.dir.down in
    let all_behind : test_of (each_pair (may_stand_behind c) c.dir.down) ≡ test_of (each_pair (may_follow (c.dir.level - 1)) c.dir.down) = each_pair-same _ _ behind-same c.dir.down in
    rw (same c.spot.present c.dir.epoch, all_between, all_behind) refl
  where
    path : length (dir_path c) ≡ length c.spot.above + 1
    path = length-append c.spot.above (c.spot.number ∷ [])

    level : c.dir.level ≡ length c.spot.above + 1
    level = levelled.level ∙ path

    same : (a b : Stamp) → less (moment_at c.spot.above a) (moment_at c.spot.above b) ≡ stamp_before (c.dir.level - 1) a b
    same a b = moments-compare c.dir.level c.spot.above a b level (omega (arith, levelled.deep, path))

    between-same : (e : DownValue) → test_of (lies_between c e) ≡ test_of (stands_between (c.dir.level - 1) c.dir.epoch c.spot.present e)
    between-same e = rw (same e.stamp c.dir.epoch, same c.spot.present e.stamp) refl

    behind-same : (e f : DownValue) → test_of (may_stand_behind c e f) ≡ test_of (may_follow (c.dir.level - 1) e f)
    behind-same e f = rw (same f.stamp e.stamp, same e.stamp f.stamp) refl
