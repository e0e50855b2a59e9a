use Rattle.std.proofs.Common.{◌∙◌, ◌+◌, ap, sym, Ok, arith}
use Rattle.std.specs.Prelude.{sum_by}
use Rattle.joining.specs.Said.{sum_said, table_said, times}
use Rattle.join_model.specs.Files.{Sum}
use Rattle.join_model.specs.Joined.{with_table}
use Rattle.joining.proofs.Places.{table-times}
use Rattle.joining.proofs.Sums.{added-many, added-ok, added-other}
use Rattle.joining.proofs.summing.TableSum.add.Goals as goal

pub returns-then-is_other-clause-sum : goal.returns-then-is_other-clause-sum
returns-then-is_other-clause-sum c = added-other (sum_said c.args.self.now) (table_said c.args.table.now) (sym c.is_other.ensures ∙ c.if-is_other.true)

pub returns-then-are_too_many-clause-sum : goal.returns-then-are_too_many-clause-sum
returns-then-are_too_many-clause-sum c =
    added-many (sum_said c.args.self.now) (table_said c.args.table.now) (sym c.is_other.ensures ∙ c.if-is_other.false) (sym c.are_too_many.ensures ∙ c.if-are_too_many.true)

pub returns-clause-sum : goal.returns-clause-sum
returns-clause-sum c =
    let s = sum_said c.args.self.now in
    let t = table_said c.args.table.now in
    let lines = c.in_ok-add_all.ensures.lines ∙ ap (λ ls. with_table ls s.lines) c.deref.ensures.value in
    added-ok s t (sym c.is_other.ensures ∙ c.if-is_other.false) (sym c.are_too_many.ensures ∙ c.if-are_too_many.false)
    ∙ ap (λ ls. Ok (let sum : Sum = record { tables = s.tables + 1; kind = t.kind; runs = s.runs + t.runs; lines = ls } in sum)) (sym lines)

pub returns-clause-counted : goal.returns-clause-counted
returns-clause-counted c =
    let s = sum_said c.args.self.now in
    let t = table_said c.args.table.now in
    let lines = c.in_ok-add_all.ensures.lines ∙ ap (λ ls. with_table ls s.lines) c.deref.ensures.value in
    let total = ap (sum_by times) lines in
    let both = table-times t.lines s.lines in
    record { alike = c.in_ok-add_all.ensures.alike; runs = omega (arith, total, both, c.requires.counted.runs, c.requires.table) }
