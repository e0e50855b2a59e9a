use Rattle.std.proofs.Common.{◌≡◌, map}
use Rattle.ddm_tree.specs.Named.{name_of}
use Rattle.ddm_tree.proofs.Search.{search_from}
use Rattle.ddm_tree.proofs.paths.path_up_among.Given as goal

abbrev pub invariant-loop-i : goal.invariant-loop-i
invariant-loop-i g l =
    let ns = map g.C.Agent.value l.children in
    search_from (name_of l.name) 0 ns ≡ search_from (name_of l.name) l.i ns
