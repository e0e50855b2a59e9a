-- Claims after a hart's turn that completes: the new operation is before each claim beside its leaf.
use Rattle.std.proofs.Common.{◌≡◌, ℕ, ◌≤◌, true, false, IfSome, List, ◌++◌, length, take, Option, Some, None, sym, ap, ◌∙◌, arith}
use Rattle.std.proofs.lemmas.List.{take-append-le}
use Rattle.std.proofs.lemmas.Bool.{leb-true}
use Rattle.order_laws.specs.TreeRules.Statements.{Holds, there_and}
use Rattle.order_laws.specs.TreeRules.Order.Moments.{less, less_at, moment_length, before}
use Rattle.order_laws.specs.TreeRules.Order.Copies.{CopyAt}
use Rattle.order_laws.specs.TreeRules.Order.Claims.{ClaimAt}
use Rattle.order_laws.specs.TreeRules.Order.Core.{claim_level, parts_at_claim, claim_is_after_end, claim_is_after_copy}
use Rattle.order_lists.proofs.Moments.{less-asymmetric, least-less, at_most_at-fewer, before_is}
use Rattle.order_laws.proofs.Hart.Facts.{EndsLater}

-- an entry's end is after its leaf's `now` on the end's own bus, and so on each above: what is after the end there is after `now`
now_before_claim : (clock tail e t : List ℕ) (n : ℕ) → before clock e ≡ true → length e ≤ length clock → n ≤ length e → less_at n e t ≡ true → less_at n (clock ++ tail) t ≡ true
now_before_claim clock tail e t n late short deep h =
    let l : n ≤ length clock = omega (arith, short, deep) in
    let at_e : less_at (length e) e clock ≡ false = less-asymmetric (take (length e) clock) (take (length e) e) (sym (before_is clock e) ∙ late) in
    ap (λ q. less q (take n t)) (take-append-le n clock tail l) ∙ least-less (take n clock) (take n e) (take n t) (at_most_at-fewer n (length e) clock e deep at_e) h

-- at a claim beside the leaf the entry's copy has an end before the claim, and so is the new operation
pub new_before_claim : (key tail : List ℕ) (k : CopyAt) (t : ClaimAt) → key ≡ k.clock ++ tail → EndsLater k → Holds (claim_is_after_copy t k) → parts_at_claim t k.place ≡ true → less_at (moment_length (claim_level t)) key t.moment ≡ true
new_before_claim key tail k t now late rule parts = ap (λ q. less_at (moment_length (claim_level t)) q t.moment) now ∙ go k.end late (rule parts) where
  go : (e : Option (List ℕ)) → IfSome e (λ f. (before k.clock f ≡ true) × (length f ≤ length k.clock)) → Holds (there_and (claim_is_after_end t) e) → less_at (moment_length (claim_level t)) (k.clock ++ tail) t.moment ≡ true
  go None l h = absurd (let wrong : ⊥ = cc in wrong)
  go (Some f) l h = now_before_claim k.clock tail f t.moment (moment_length (claim_level t)) l.0 l.1 (leb-true _ _ h.0) h.1
