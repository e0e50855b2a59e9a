use Rattle.std.proofs.Common.{refl, rules, arith}
use Rattle.leaf_protocol.proofs.Steps.{step_finishes, step_goes}
use Rattle.leaf_protocol.proofs.leaf.Leaf.finish.Goals as goal

pub carry_out-effect-requires : goal.carry_out-effect-requires
carry_out-effect-requires g c =
    let is = rw (← c.self.view_is, ← c.self-inside.view_is) at c.requires.step in
    let ready = rw (← c.self.view_is, ← c.self-inside.view_is) at c.requires.ready in
    let can = rw (← c.self.view_is, ← c.self-inside.view_is) at c.requires.can in
    (search (rules, can.words_fit), (step_goes _ _ _ _ _ is ready, (is.inside, omega (arith, can.count))))

pub returns-clause-answer : goal.returns-clause-answer
returns-clause-answer g c =
    let is = rw (← c.self.view_is, ← c.self-inside.view_is) at c.requires.step in
    rw (c.pc-pc.ensures, ← c.self.view_is, ← c.self-inside.view_is, c.carry_out-effect.ensures.effect, step_finishes _ _ _ _ _ c.args.words.now c.args.stores is) refl

pub returns-clause-after : goal.returns-clause-after
returns-clause-after g c =
    let is = rw (← c.self.view_is, ← c.self-inside.view_is) at c.requires.step in
    rw (← c.self.view_is, ← c.self-inside.view_is, c.carry_out-effect.ensures.hart, c.carry_out-effect.ensures.done, step_finishes _ _ _ _ _ c.args.words.now c.args.stores is) refl

pub returns-clause-words : goal.returns-clause-words
returns-clause-words g c =
    let is = rw (← c.self.view_is, ← c.self-inside.view_is) at c.requires.step in
    rw (← c.self.view_is, ← c.self-inside.view_is, c.carry_out-effect.ensures.words, step_finishes _ _ _ _ _ c.args.words.now c.args.stores is) refl
