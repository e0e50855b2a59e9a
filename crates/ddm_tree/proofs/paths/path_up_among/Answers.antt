use Rattle.std.proofs.Common.{◌≡◌, ◌++◌, ◌∷◌, [], true, Some, None, option_map, reverse, vec_items, sym, ap, ◌∙◌, arith}
use Rattle.ddm_tree.specs.TreeModel.State.Shape.{skeleton, widths_fit}
use Rattle.ddm_tree.specs.Named.{name_of}
use Rattle.ddm_tree.specs.Path.{path_to}
use Rattle.ddm_tree.proofs.Search.{here-all, search-found, search-past, reversed-found, reversed-none, reversed-step}
use Rattle.ddm_tree.proofs.paths.path_up_among.Goals as goal

pub path_up-requires : goal.path_up-requires
path_up-requires g c = here-all g.C.Agent.value c.args.children.now c.loop-i.i c.index-children-i.result (omega arith) c.index-children-i.is (λ n. widths_fit (skeleton n) ≡ true) c.requires.buses

pub returns-in-Some : goal.returns-in-Some
returns-in-Some g c =
    let told : option_map vec_items c.in_ok-path.field-0 ≡ option_map reverse (path_to (name_of c.args.name.now) (skeleton (g.C.Agent.value c.index-children-i.result))) = c.in_ok-path.ensures in
    let up : Some c.in-Some.path.items ≡ option_map reverse (path_to (name_of c.args.name.now) (skeleton (g.C.Agent.value c.index-children-i.result))) = rw c.in-Some.is at told in
    let r = reversed-found _ _ up in
    let found = search-found g.C.Agent.value c.args.children.now (name_of c.args.name.now) c.loop-i.i (omega arith) c.index-children-i.result c.index-children-i.is r.0 r.1 in
    let items : c.push.new.self.items ≡ reverse (c.loop-i.i ∷ r.0) = c.in_ok-push.ensures.items ∙ ap (λ up. up ++ c.loop-i.i ∷ []) r.2 ∙ sym (reversed-step c.loop-i.i r.0) in
    ap Some items ∙ sym (ap (option_map reverse) (c.loop-i.invariant ∙ found))

pub loop-i-preserved : goal.loop-i-preserved
loop-i-preserved g c =
    let told : option_map vec_items c.in_ok-path.field-0 ≡ option_map reverse (path_to (name_of c.args.name.now) (skeleton (g.C.Agent.value c.index-children-i.result))) = c.in_ok-path.ensures in
    let none : path_to (name_of c.args.name.now) (skeleton (g.C.Agent.value c.index-children-i.result)) ≡ None = reversed-none _ (rw c.in_default.is at told) in
    c.loop-i.invariant ∙ search-past g.C.Agent.value c.args.children.now (name_of c.args.name.now) c.loop-i.i (omega arith) c.index-children-i.result c.index-children-i.is none
