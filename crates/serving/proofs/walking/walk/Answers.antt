use Rattle.std.proofs.Common.{◌≡◌, Err, length, sym, ap, ◌++◌, ◌∙◌, append_assoc, arith, rules}
use Rattle.std.proofs.lemmas.List.{length-append}
use Rattle.std.proofs.lemmas.Result.{on_ok_weaker, IfErr-weaker}
use Rattle.serving.specs.TreeModel.Turns.Machine.{run_of}
use Rattle.serving.proofs.ServingModel.Instruction.{run-on}
use Rattle.serving.proofs.Walked.{run-on_answers, first-named, first-shorter, later-shaped, later-top, later-leaf, later-item, later-named, both-are}
use Rattle.serving.proofs.walking.walk.Goals as goal

pub add-requires-clause-named : goal.add-requires-clause-named
add-requires-clause-named g c = first-named (g.S.Tree.value c.args.server.now) c.args.kind c.args.leaf c.args.item c.requires.shaped c.requires.told c.deref.result.now (c.deref.ensures.value ∙ c.in-Ok.ensures)

pub later_walk-requires-clause-shaped : goal.later_walk-requires-clause-shaped
later_walk-requires-clause-shaped g c = later-shaped (g.S.Tree.value c.args.server.now) c.args.kind c.args.leaf c.args.item c.requires.shaped c.requires.told c.deref.result.now (c.deref.ensures.value ∙ c.in-Ok.ensures) (g.S.Tree.value c.add.new.server) c.in_ok-add.ensures.after

pub later_walk-requires-clause-top : goal.later_walk-requires-clause-top
later_walk-requires-clause-top g c = later-top (g.S.Tree.value c.args.server.now) c.args.kind c.args.leaf c.args.item c.requires.shaped c.requires.told c.deref.result.now (c.deref.ensures.value ∙ c.in-Ok.ensures) (g.S.Tree.value c.add.new.server) c.in_ok-add.ensures.after c.requires.top

pub later_walk-requires-clause-leaf : goal.later_walk-requires-clause-leaf
later_walk-requires-clause-leaf g c = later-leaf (g.S.Tree.value c.args.server.now) c.args.kind c.args.leaf c.args.item c.requires.shaped c.requires.told c.deref.result.now (c.deref.ensures.value ∙ c.in-Ok.ensures) (g.S.Tree.value c.add.new.server) c.in_ok-add.ensures.after c.requires.leaf

pub later_walk-requires-clause-item : goal.later_walk-requires-clause-item
later_walk-requires-clause-item g c = later-item (g.S.Tree.value c.args.server.now) c.args.kind c.args.leaf c.args.item c.requires.shaped c.requires.told c.deref.result.now (c.deref.ensures.value ∙ c.in-Ok.ensures) (g.S.Tree.value c.add.new.server) c.in_ok-add.ensures.after

pub add-requires-2-clause-named : goal.add-requires-2-clause-named
add-requires-2-clause-named g c = later-named (g.S.Tree.value c.args.server.now) c.args.kind c.args.leaf c.args.item c.requires.shaped c.requires.told c.deref.result.now (c.deref.ensures.value ∙ c.in-Ok.ensures) (g.S.Tree.value c.add.new.server) c.in_ok-add.ensures.after c.deref-2.result.now (c.deref-2.ensures.value ∙ c.in-Ok-later_walk.ensures)

pub returns-clause-after : goal.returns-clause-after
returns-clause-after g c =
    on_ok_weaker c.add-2.result (λ e. e ∙ (ap (λ n. (run_of c.deref-2.result.now n).machine) c.in_ok-add.ensures.after ∙ (sym (run-on c.deref.result.now c.deref-2.result.now (g.S.Tree.value c.args.server.now)) ∙ ap (λ ts. (run_of ts (g.S.Tree.value c.args.server.now)).machine) (both-are (g.S.Tree.value c.args.server.now) c.args.kind c.args.leaf c.args.item c.requires.shaped c.requires.told c.deref.result.now (c.deref.ensures.value ∙ c.in-Ok.ensures) (g.S.Tree.value c.add.new.server) c.in_ok-add.ensures.after c.deref-2.result.now (c.deref-2.ensures.value ∙ c.in-Ok-later_walk.ensures))))) c.add-2.ensures.after

pub returns-clause-turns : goal.returns-clause-turns
returns-clause-turns g c =
    on_ok_weaker c.add-2.result (λ e. e ∙ (ap (λ ts. ts ++ c.deref-2.result.now) c.in_ok-add.ensures.turns ∙ (append_assoc c.args.turns.now.items c.deref.result.now c.deref-2.result.now ∙ ap (λ ts. c.args.turns.now.items ++ ts) (both-are (g.S.Tree.value c.args.server.now) c.args.kind c.args.leaf c.args.item c.requires.shaped c.requires.told c.deref.result.now (c.deref.ensures.value ∙ c.in-Ok.ensures) (g.S.Tree.value c.add.new.server) c.in_ok-add.ensures.after c.deref-2.result.now (c.deref-2.ensures.value ∙ c.in-Ok-later_walk.ensures))))) c.add-2.ensures.turns

pub returns-clause-answers : goal.returns-clause-answers
returns-clause-answers g c =
    on_ok_weaker c.add-2.result (λ e. e ∙ (ap (λ l. l ++ (run_of c.deref-2.result.now (g.S.Tree.value c.add.new.server)).answers) c.in_ok-add.ensures.answers ∙ (append_assoc c.args.answers.now.items (run_of c.deref.result.now (g.S.Tree.value c.args.server.now)).answers (run_of c.deref-2.result.now (g.S.Tree.value c.add.new.server)).answers ∙ ap (λ l. c.args.answers.now.items ++ l) (ap (λ n. (run_of c.deref.result.now (g.S.Tree.value c.args.server.now)).answers ++ (run_of c.deref-2.result.now n).answers) c.in_ok-add.ensures.after ∙ (sym (run-on_answers c.deref.result.now c.deref-2.result.now (g.S.Tree.value c.args.server.now)) ∙ ap (λ ts. (run_of ts (g.S.Tree.value c.args.server.now)).answers) (both-are (g.S.Tree.value c.args.server.now) c.args.kind c.args.leaf c.args.item c.requires.shaped c.requires.told c.deref.result.now (c.deref.ensures.value ∙ c.in-Ok.ensures) (g.S.Tree.value c.add.new.server) c.in_ok-add.ensures.after c.deref-2.result.now (c.deref-2.ensures.value ∙ c.in-Ok-later_walk.ensures))))))) c.add-2.ensures.answers

pub returns-in_err-add-clause-many : goal.returns-in_err-add-clause-many
returns-in_err-add-clause-many g c =
    let is : c.from_residual.result ≡ Err c.in_err-add.field-0.0 = search rules in
    rw is (λ e.
    let more = c.in_err-add.ensures.many e in
    let shorter = first-shorter (g.S.Tree.value c.args.server.now) c.args.kind c.args.leaf c.args.item c.requires.shaped c.requires.told c.deref.result.now (c.deref.ensures.value ∙ c.in-Ok.ensures) in
    omega (arith, more, shorter))

pub returns-clause-many : goal.returns-clause-many
returns-clause-many g c = IfErr-weaker c.add-2.result _ _ (λ stop many e.
    let more = many e in
    let before = ap (λ ts. length ts) c.in_ok-add.ensures.turns ∙ length-append c.args.turns.now.items c.deref.result.now in
    let walks = ap (λ ts. length ts) (sym (both-are (g.S.Tree.value c.args.server.now) c.args.kind c.args.leaf c.args.item c.requires.shaped c.requires.told c.deref.result.now (c.deref.ensures.value ∙ c.in-Ok.ensures) (g.S.Tree.value c.add.new.server) c.in_ok-add.ensures.after c.deref-2.result.now (c.deref-2.ensures.value ∙ c.in-Ok-later_walk.ensures))) ∙ length-append c.deref.result.now c.deref-2.result.now in
    omega (arith, more, before, walks)) c.add-2.ensures.many
