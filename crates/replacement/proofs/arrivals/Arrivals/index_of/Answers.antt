use Rattle.std.proofs.Common.{◌≡◌, sym, ◌<◌, length, true, false, rules, tests, arith}
use Rattle.replacement.specs.TreeModel.State.Lists.{names_item}
use Rattle.replacement.proofs.Finds.{found_here, found_later}
use Rattle.replacement.proofs.arrivals.Arrivals.index_of.Goals as goal

pub returns-then-eq-clause-index : goal.returns-then-eq-clause-index
returns-then-eq-clause-index g c =
    let passes : names_item g.T.Named.named c.args.item c.at-entry.result ≡ true = search (rules, tests) in
    let inside : c.loop-index.index < length c.args.self.now.list = omega (arith, c.loop-index-test.true, c.len-index-end.ensures.value) in
    sym (found_here (names_item g.T.Named.named c.args.item) c.args.self.now.list c.loop-index.index c.at-entry.result c.loop-index.invariant inside c.at-entry.ensures passes)

pub loop-index-preserved : goal.loop-index-preserved
loop-index-preserved g c =
    let fails : names_item g.T.Named.named c.args.item c.at-entry.result ≡ false = search (rules, tests) in
    let inside : c.loop-index.index < length c.args.self.now.list = omega (arith, c.loop-index-test.true, c.len-index-end.ensures.value) in
    found_later (names_item g.T.Named.named c.args.item) c.args.self.now.list c.loop-index.index c.at-entry.result c.loop-index.invariant inside c.at-entry.ensures fails
