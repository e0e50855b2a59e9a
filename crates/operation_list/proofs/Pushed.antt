-- Operations that are kept, with one more.
use Rattle.std.proofs.Common.{◌≡◌, ℕ, suc, List, [], ◌∷◌, ◌++◌, map, refl, ◌∙◌, arith}
use Rattle.std.specs.Prelude.{slice_index_or}
use Rattle.std.proofs.lemmas.List.{get_or_append_left, map-append}
use Rattle.ddm_types.specs.declared.operations.Op.{Op}
use Rattle.operation_list.specs.declared.moments.Brief.{Brief}
use Rattle.operation_list.specs.declared.moments.Moment.{Moment}
use Rattle.operation_list.specs.Kept.{Extends, HaveMoments, brief_of, is_at, moment_of, no_moment, op_of}

-- with more moments each operation is the one that it was
same_ops : (moments more : List Moment) (briefs : List Brief) → HaveMoments moments briefs → map (op_of (moments ++ more)) briefs ≡ map (op_of moments) briefs
same_ops moments more [] have = refl
same_ops moments more (b ∷ bs) have =
    let same : slice_index_or (moments ++ more) b.moment no_moment ≡ slice_index_or moments b.moment no_moment = get_or_append_left moments more no_moment b.moment (have 0 b (omega arith)) in
    rw (same, same_ops moments more bs (λ k d lt. have (suc k) d (omega (arith, lt)))) refl

-- what was kept is the operation
kept : (moments : List Moment) (n : ℕ) (op : Op) → is_at moments n (moment_of op) → op_of moments (brief_of n op) ≡ op
kept moments n op at = rw at.same refl

-- one more is behind them
pub pushed_ops : (old new : List Moment) (briefs : List Brief) (n : ℕ) (op : Op) → HaveMoments old briefs → Extends old new → is_at new n (moment_of op)
    → map (op_of new) (briefs ++ brief_of n op ∷ []) ≡ map (op_of old) briefs ++ op ∷ []
pushed_ops old new briefs n op have extends at =
    let front : map (op_of new) briefs ≡ map (op_of old) briefs = rw extends.behind (same_ops old extends.more briefs have) in
    map-append (op_of new) briefs (brief_of n op ∷ []) ∙ rw (front, kept new n op at) refl
