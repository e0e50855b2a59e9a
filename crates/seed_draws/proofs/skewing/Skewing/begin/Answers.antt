use Rattle.std.proofs.Common.{◌≡◌, ◌≤◌, ℕ, All, length, ap, sym, subst, ◌∙◌, arith}
use Rattle.seed_draws.proofs.Draws.{whole-written}
use Rattle.seed_draws.proofs.skewing.Skewing.begin.Goals as goal

pub invariant_of-self : goal.invariant_of-self
invariant_of-self c =
    let rates = c.self.inside.rates in
    let many : length c.put_rates.new.rates ≡ rates.len = omega (arith, c.put_rates.auto.rates, c.deref_mut.ensures.len) in
    let was : length rates.items ≡ rates.len = omega (arith, c.deref_mut.ensures.len, ap length c.deref_mut.ensures.value) in
    let whole = whole-written c.put_rates.new.rates rates.items rates.len many was in
    (ap length whole ∙ many ∙ sym was ∙ c.self.invariant.0, subst (All (λ (r : ℕ). r ≤ 6)) (sym whole) c.put_rates.ensures.few)
