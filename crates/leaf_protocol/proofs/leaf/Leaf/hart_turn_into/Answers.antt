use Rattle.std.proofs.Common.{refl, sym}
use Rattle.leaf_protocol.specs.DdmTypes.declared.answers.TurnAnswer.TheVariants.{Halted, Waiting}
use Rattle.leaf_protocol.specs.TreeModel.Turns.HartTurn.{has_halted, waits_for}
use Rattle.leaf_protocol.proofs.Deeds.{halted-deed, waiting-deed, next-deed, step-answer, step-leaf}
use Rattle.leaf_protocol.proofs.leaf.Leaf.hart_turn_into.Goals as goal

pub returns-in-Some-clause-answer : goal.returns-in-Some-clause-answer
returns-in-Some-clause-answer g c = step-answer c.args.code.now c.args.items.now c.args.victim c.args.self.now c.args.now (has_halted c.in-Some.cause) (Halted c.in-Some.cause) c.args.self.now (halted-deed c.args.code.now c.args.items.now c.args.victim c.args.self.now c.in-Some.cause (rw (← c.self.view_is) (sym c.in-Some.ensures))) (record { answers = refl; leaf = refl })

pub returns-in-Some-clause-after : goal.returns-in-Some-clause-after
returns-in-Some-clause-after g c = step-leaf c.args.code.now c.args.items.now c.args.victim c.args.self.now c.args.now (has_halted c.in-Some.cause) (Halted c.in-Some.cause) c.args.self.now (halted-deed c.args.code.now c.args.items.now c.args.victim c.args.self.now c.in-Some.cause (rw (← c.self.view_is) (sym c.in-Some.ensures))) (record { answers = refl; leaf = refl })

pub returns-in-Some-waiting-clause-answer : goal.returns-in-Some-waiting-clause-answer
returns-in-Some-waiting-clause-answer g c = step-answer c.args.code.now c.args.items.now c.args.victim c.args.self.now c.args.now (waits_for c.in-Some-waiting.item) (Waiting c.in-Some-waiting.item) c.args.self.now (waiting-deed c.args.code.now c.args.items.now c.args.victim c.args.self.now c.in-Some-waiting.item (rw (← c.self.view_is) (sym c.in_default.ensures)) (rw (← c.self.view_is) (sym c.in-Some-waiting.ensures))) (record { answers = refl; leaf = refl })

pub returns-in-Some-waiting-clause-after : goal.returns-in-Some-waiting-clause-after
returns-in-Some-waiting-clause-after g c = step-leaf c.args.code.now c.args.items.now c.args.victim c.args.self.now c.args.now (waits_for c.in-Some-waiting.item) (Waiting c.in-Some-waiting.item) c.args.self.now (waiting-deed c.args.code.now c.args.items.now c.args.victim c.args.self.now c.in-Some-waiting.item (rw (← c.self.view_is) (sym c.in_default.ensures)) (rw (← c.self.view_is) (sym c.in-Some-waiting.ensures))) (record { answers = refl; leaf = refl })

pub returns-clause-answer : goal.returns-clause-answer
returns-clause-answer g c = step-answer c.args.code.now c.args.items.now c.args.victim c.args.self.now c.args.now _ c.try_next.new.answer c.try_next.new.self (next-deed c.args.code.now c.args.items.now c.args.victim c.args.self.now (rw (← c.self.view_is) (sym c.in_default.ensures)) (rw (← c.self.view_is) (sym c.in_default-waiting.ensures))) c.try_next.ensures

pub returns-clause-after : goal.returns-clause-after
returns-clause-after g c = step-leaf c.args.code.now c.args.items.now c.args.victim c.args.self.now c.args.now _ c.try_next.new.answer c.try_next.new.self (next-deed c.args.code.now c.args.items.now c.args.victim c.args.self.now (rw (← c.self.view_is) (sym c.in_default.ensures)) (rw (← c.self.view_is) (sym c.in_default-waiting.ensures))) c.try_next.ensures
