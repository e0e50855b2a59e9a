use Rattle.std.proofs.Common.{ℕ, ◌+◌, ◌*◌, ◌/◌, ap, ◌∙◌, rules}
use Rattle.ddm_types.proofs.Reciprocals.{by_reciprocal}
use Rattle.ddm_types.proofs.divisor.Divisor.quotient.Goals as goal

pub returns : goal.returns
returns c =
    let d = c.self.inside in
    ap (λ (k : ℕ). (k + 1) * c.from-2.result / 18446744073709551616) c.from.ensures
    ∙ ap (λ (m : ℕ). (c.args.n + 1) * m / 18446744073709551616) c.from-2.ensures
    ∙ by_reciprocal c.args.n d.by d.reciprocal (search rules) c.self.invariant
    ∙ ap (λ (b : ℕ). c.args.n / b) c.self.view_is
