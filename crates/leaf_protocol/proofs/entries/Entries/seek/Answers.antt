use Rattle.std.proofs.Common.{sym, ◌∙◌}
use Rattle.leaf_protocol.proofs.Reading.{place-is, state-in-way, state-in-buffer}
use Rattle.leaf_protocol.proofs.entries.Entries.seek.Goals as goal

pub returns-in-Some-clause-state : goal.returns-in-Some-clause-state
returns-in-Some-clause-state g c = rw (← c.self.view_is) (state-in-way c.self.invariant c.args.item c.in-Some.state c.in-Some.ensures.state)

pub returns-in-Some-clause-place : goal.returns-in-Some-clause-place
returns-in-Some-clause-place g c = rw (← c.self.view_is) (c.in-Some.ensures.place ∙ sym (place-is c.self.invariant c.args.item))

pub returns-in-Some-find-clause-state : goal.returns-in-Some-find-clause-state
returns-in-Some-find-clause-state g c = rw (← c.self.view_is) (state-in-buffer c.self.invariant c.args.item _ c.in-None.ensures.state c.in-Some-find.ensures.state)

pub returns-in-Some-find-clause-place : goal.returns-in-Some-find-clause-place
returns-in-Some-find-clause-place g c = rw (← c.self.view_is) (c.in-None.ensures.place ∙ sym (place-is c.self.invariant c.args.item))

pub returns-in-None-find-clause-state : goal.returns-in-None-find-clause-state
returns-in-None-find-clause-state g c = rw (← c.self.view_is) (state-in-buffer c.self.invariant c.args.item _ c.in-None.ensures.state c.in-None-find.ensures.state)
