-- One table more, by what is asked of it.
-- Letters: s is what the tables so far come to, t is a table.
use Rattle.std.proofs.Common.{◌≡◌, ◌+◌, true, false, not, cond, ◌&&◌, Ok, Err, ap, ◌∙◌}
use Rattle.std.specs.Prelude.{nat_lt}
use Rattle.join_model.specs.Files.{Sum, added, same_kind, sum_with}
use Rattle.join_model.specs.Table.{Table, most_number}
use Rattle.join_model.specs.declared.table.TableRefusal.TheVariants.{OtherKind, TooManyRuns}

module _ (s : Sum) (t : Table) where
  pub added-other : (nat_lt 0 s.tables && not (same_kind s.kind t.kind)) ≡ true → added s t ≡ Err OtherKind
  unfolding added
  added-other other = ap (λ b. cond b (Err OtherKind) (cond (nat_lt most_number (s.runs + t.runs)) (Err TooManyRuns) (Ok (sum_with s t)))) other

  pub added-many : (nat_lt 0 s.tables && not (same_kind s.kind t.kind)) ≡ false → nat_lt most_number (s.runs + t.runs) ≡ true → added s t ≡ Err TooManyRuns
  unfolding added
  added-many alike many =
      ap (λ b. cond b (Err OtherKind) (cond (nat_lt most_number (s.runs + t.runs)) (Err TooManyRuns) (Ok (sum_with s t)))) alike
      ∙ ap (λ b. cond b (Err TooManyRuns) (Ok (sum_with s t))) many

  pub added-ok : (nat_lt 0 s.tables && not (same_kind s.kind t.kind)) ≡ false → nat_lt most_number (s.runs + t.runs) ≡ false → added s t ≡ Ok (sum_with s t)
  unfolding added
  added-ok alike few =
      ap (λ b. cond b (Err OtherKind) (cond (nat_lt most_number (s.runs + t.runs)) (Err TooManyRuns) (Ok (sum_with s t)))) alike
      ∙ ap (λ b. cond b (Err TooManyRuns) (Ok (sum_with s t))) few
