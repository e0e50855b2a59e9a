use Rattle.std.proofs.Common.{◌+◌, ◌∙◌, sym, refl, ap, arith}
use Rattle.ddm_cli.specs.TreeModel.Start.Sources.{TreeValue}
use Rattle.ddm_cli.specs.Parts.{before_page}
use Rattle.ddm_cli.proofs.Pages.{next_read}
use Rattle.ddm_cli.proofs.Schedules.{accepted_read, few_read, given_so_far, nothing_read, refused_read, unended_read}
use Rattle.ddm_cli.proofs.paging.turns_read.Goals as goal

pub reading-init : goal.reading-init
reading-init g c = record {
  all = nothing_read c.args.tree.now.levels before_page (g.F.Shelf.told c.args.files.now c.args.name.now) c.in_ok-reader.reader c.new-turns.result.items c.in_ok-reader.ensures c.new-turns.ensures.items;
  few = omega arith;
  same = refl;
  later = λ other. omega arith;
}

pub reading-preserved : goal.reading-preserved
reading-preserved g c =
    let told = g.F.Shelf.told c.args.files.now c.args.name.now in
    let levels = ap (λ (u : TreeValue). u.levels) c.tree.view_is in
    let next = next_read c.args.tree.now.levels told c.reading.at c.reading.reader c.reading.turns.items c.reading.invariant.all _ c.in-Ok.n c.read.new.into c.feed.new.self c.feed.new.turns.items levels c.in-Ok.ensures.bound (rw c.reading.invariant.same at c.in-Ok.ensures.told) c.in-Ok-feed.ensures.0 in
    record {
      all = next;
      few = few_read c.args.tree.now.levels before_page told (c.reading.at + c.in-Ok.n) c.feed.new.self c.feed.new.turns.items next (omega arith) c.in-Ok-feed.ensures.1;
      same = c.read.ensures.same ∙ c.reading.invariant.same;
      later = λ other. omega (arith, c.reading.invariant.later other, c.read.ensures.later other);
    }

pub returns-in-Ok-finish-clause-accepted : goal.returns-in-Ok-finish-clause-accepted
returns-in-Ok-finish-clause-accepted g c =
    let told = g.F.Shelf.told c.args.files.now c.args.name.now in
    accepted_read c.args.tree.now.levels before_page told c.reading.at c.reading.reader c.reading.turns.items c.reading.invariant.all c.in-Ok.n c.read.new.into c.if-n-eq0.true (rw c.reading.invariant.same at c.in-Ok.ensures.told) (sym c.finish.ensures ∙ c.in-Ok-finish.is)

pub returns-in-Ok-finish-clause-given : goal.returns-in-Ok-finish-clause-given
returns-in-Ok-finish-clause-given g c =
    let told = g.F.Shelf.told c.args.files.now c.args.name.now in
    given_so_far c.args.tree.now.levels before_page told c.reading.at c.reading.reader c.reading.turns.items c.reading.invariant.all (omega arith)

pub returns-in-Err-clause-cause : goal.returns-in-Err-clause-cause
returns-in-Err-clause-cause g c =
    let told = g.F.Shelf.told c.args.files.now c.args.name.now in
    unended_read c.args.tree.now.levels before_page told c.reading.at c.reading.reader c.reading.turns.items c.reading.invariant.all c.in-Ok.n c.read.new.into c.if-n-eq0.true (rw c.reading.invariant.same at c.in-Ok.ensures.told) c.in-Err.line c.in-Err.refusal (sym c.finish.ensures ∙ c.in-Err.is)

pub returns-in-Err-Refused-clause-cause : goal.returns-in-Err-Refused-clause-cause
returns-in-Err-Refused-clause-cause g c =
    let fed = rw c.in-Err-Refused.field-0-is at c.in-Err-Refused.ensures in
    let told = g.F.Shelf.told c.args.files.now c.args.name.now in
    let levels = ap (λ (u : TreeValue). u.levels) c.tree.view_is in
    let next = next_read c.args.tree.now.levels told c.reading.at c.reading.reader c.reading.turns.items c.reading.invariant.all _ c.in-Ok.n c.read.new.into c.feed.new.self c.feed.new.turns.items levels c.in-Ok.ensures.bound (rw c.reading.invariant.same at c.in-Ok.ensures.told) fed.0 in
    rw c.in-Err-Refused.field-0-is (refused_read c.args.tree.now.levels before_page told (c.reading.at + c.in-Ok.n) c.feed.new.self c.feed.new.turns.items next c.in-Err-Refused.line c.in-Err-Refused.refusal fed.1)
