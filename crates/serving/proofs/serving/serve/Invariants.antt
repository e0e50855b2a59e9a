use Rattle.serving.proofs.Lines.{IsUnderWay}
use Rattle.serving.proofs.serving.serve.Given as goal

abbrev pub invariant-lines : goal.invariant-lines
invariant-lines g l = IsUnderWay (g.S.Tree.value l.initial.server) l.ops l.op-index l.line l.turns.items (g.S.Server.made l.server) (g.S.Tree.value l.server)
