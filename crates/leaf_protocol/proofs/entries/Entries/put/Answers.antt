use Rattle.std.proofs.Common.{rules, sym, ◌∙◌}
use Rattle.leaf_protocol.proofs.Ways.{ways_of-length}
use Rattle.leaf_protocol.proofs.Changing.{buffered_none, told-ok}
use Rattle.leaf_protocol.proofs.Putting.{put-kept}
use Rattle.leaf_protocol.proofs.entries.Entries.put.Goals as goal

pub put-requires : goal.put-requires
put-requires g c = (search rules, (search (rules, c.self.invariant.words_fit), buffered_none c.self.invariant c.args.item (rw (← c.self.view_is) at c.requires.absent)))

pub invariant_of-self : goal.invariant_of-self
invariant_of-self g c =
    let inside = rw (← c.self.view_is, ways_of-length c.self.inside.items c.self.inside.memory) at c.requires.inside in
    let put = told-ok c.put.result (sym c.is_err.ensures.value ∙ c.if-is_err.false) c.put.ensures.ok in
    rw (put, c.waiting_after-self-inside.ensures, c.waits.ensures, c.words_in.ensures) (put-kept c.self.invariant c.args.item c.args.state c.args.words (rw (← c.self.view_is) at c.requires.absent) inside (rw (← c.self.view_is) at c.requires.alone))
