use Rattle.std.proofs.Common.{map, arith}
use Rattle.std.proofs.lemmas.List.{length-map}
use Rattle.std.proofs.lemmas.Option.{IfSome_then}
use Rattle.split_bus.proofs.Alone.{child-here}
use Rattle.split_bus.proofs.Granting.{kept-named}
use Rattle.split_bus.proofs.foreseen.named_reply.Goals as goal

pub returns-clause-kept : goal.returns-clause-kept
returns-clause-kept g c =
    let f = g.C.Agent.value in
    let ns = map f c.args.children.now in
    let here = child-here f c.args.c _ c.c.view_is c.args.children.now c.index-children-c.result c.requires.child c.index-children-c.is in
    IfSome_then c.first_reply.result c.first_reply.ensures.in_range (λ r within. kept-named _ (g.P.Parent.state c.args.parent.now) ns c.requires.words_fit c.requires.sized c.args.c r.0 (omega (arith, c.requires.child, length-map c.args.children.now f)) (rw here at within))
