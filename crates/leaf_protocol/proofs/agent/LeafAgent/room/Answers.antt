use Rattle.std.proofs.Common.{refl, sym, ◌∙◌, ◌≡◌, true, false}
use Rattle.std.specs.Prelude.{is_none}
use Rattle.leaf_protocol.specs.TreeModel.State.Leaf.{state_at, free_way}
use Rattle.leaf_protocol.proofs.Told.{room-waits, room-absent, room-there}
use Rattle.leaf_protocol.proofs.agent.LeafAgent.room.Goals as goal

pub returns-then-waits : goal.returns-then-waits
returns-then-waits g c = c.if-waits.true ∙ sym (room-waits c.args.item c.args.self.now (sym c.waits.ensures ∙ c.if-waits.true))

pub returns-then-is_none : goal.returns-then-is_none
unfolding free_way
returns-then-is_none g c =
    let none : is_none c.state.result ≡ true = rw (c.is_none.ensures, c.if-is_none.true) refl in
    let absent : is_none (state_at c.args.item c.args.self.now) ≡ true = rw (← c.self.view_is, ← c.state.ensures) none in
    c.is_some.ensures ∙ rw (c.free_way.ensures.way, room-absent c.args.item c.args.self.now (sym c.waits.ensures ∙ c.if-waits.false) absent, ← c.self.view_is) refl

pub returns-else-is_none : goal.returns-else-is_none
returns-else-is_none g c =
    let some : is_none c.state.result ≡ false = rw (c.is_none.ensures, c.if-is_none.false) refl in
    let there : is_none (state_at c.args.item c.args.self.now) ≡ false = rw (← c.self.view_is, ← c.state.ensures) some in
    c.if-is_none.false ∙ sym (room-there c.args.item c.args.self.now (sym c.waits.ensures ∙ c.if-waits.false) there)
