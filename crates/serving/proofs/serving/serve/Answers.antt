use Rattle.std.proofs.Common.{◌≡◌, false, true, sym, ap, ◌∙◌}
use Rattle.serving.specs.TreeModel.Turns.Machine.{run_of}
use Rattle.serving.specs.ServingModel.Serving.{completes_op, turns_to_complete}
use Rattle.serving.proofs.Lines.{ends, goes-on, stops-many, stops-other}
use Rattle.serving.proofs.serving.serve.Goals as goal

pub returns-in-Err-TooMany-clause-refused : goal.returns-in-Err-TooMany-clause-refused
returns-in-Err-TooMany-clause-refused g c =
    stops-many (g.S.Tree.value c.args.server.now) c.args.ops.now c.lines.op-index c.lines.line c.lines.turns.items (g.S.Server.made c.lines.server) (g.S.Tree.value c.lines.server) c.lines.invariant c.op-item.result c.lines-test.true c.op-item.is (c.in-Err-TooMany.ensures.many c.in-Err-TooMany.field-0-is)

pub returns-then-not-completes-clause-refused : goal.returns-then-not-completes-clause-refused
returns-then-not-completes-clause-refused g c =
    let now = g.S.Tree.value c.lines.server in
    let op = c.op-item.result in
    let other : completes_op op (run_of (turns_to_complete op.hart now) now).answers ≡ false = ap (completes_op op) (sym (c.deref.ensures.value ∙ c.in-Ok.ensures.answers)) ∙ (sym c.completes.ensures ∙ c.if-not-completes.true) in
    stops-other (g.S.Tree.value c.args.server.now) c.args.ops.now c.lines.op-index c.lines.line c.lines.turns.items (g.S.Server.made c.lines.server) now c.lines.invariant op c.lines-test.true c.op-item.is c.complete.new.turns.items c.in-Ok.ensures.turns c.in-Ok.ensures.few other

pub lines-preserved : goal.lines-preserved
lines-preserved g c =
    let now = g.S.Tree.value c.lines.server in
    let op = c.op-item.result in
    let done : completes_op op (run_of (turns_to_complete op.hart now) now).answers ≡ true = ap (completes_op op) (sym (c.deref.ensures.value ∙ c.in-Ok.ensures.answers)) ∙ (sym c.completes.ensures ∙ c.if-not-completes.false) in
    goes-on (g.S.Tree.value c.args.server.now) c.args.ops.now c.lines.op-index c.lines.line c.lines.turns.items (g.S.Server.made c.lines.server) now c.lines.invariant op c.lines-test.true c.op-item.is c.complete.new.turns.items c.in-Ok.ensures.turns c.in-Ok.ensures.few (g.S.Tree.value c.complete.new.server) (g.S.Server.made c.complete.new.server) c.in-Ok.ensures.after c.in-Ok.ensures.made done

pub returns-clause-served : goal.returns-clause-served
returns-clause-served g c = ends (g.S.Tree.value c.args.server.now) c.args.ops.now c.lines.op-index c.lines.line c.lines.turns.items (g.S.Server.made c.lines.server) (g.S.Tree.value c.lines.server) c.lines.invariant c.lines-test.false
