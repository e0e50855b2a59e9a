use Rattle.std.proofs.Common.{◌≡◌, ◌∙◌, ap, sym, length, [], replicate}
use Rattle.std.proofs.lemmas.List.{length-set}
use Rattle.directory.specs.TreeModel.State.Directory.{parked_words}
use Rattle.directory.proofs.Changes.{shape-parked, there-instead, copies-without}
use Rattle.directory.proofs.Lists.{parked-words}
use Rattle.directory.proofs.state.DirState.up_give_up.Goals as goal

pub invariant_of-self : goal.invariant_of-self
invariant_of-self g c =
    let same : length c.set_hold.new.self ≡ length c.self.inside.kept = rw c.set_hold.ensures (length-set c.self.inside.kept _ _) in
    rw c.remove.ensures.rest (shape-parked _ _ _ _ _ _ _ _ _ _ c.self.invariant same (copies-without _ c.args.item c.self.inside.parking.list c.self.invariant.copies))

pub returns-clause-given : goal.returns-clause-given
returns-clause-given g c =
    let is : c.remove.result ≡ parked_words c.args.item c.args.self.now = c.remove.ensures.value ∙ sym (parked-words c.args.item c.self.inside.parking.list) ∙ ap (parked_words c.args.item) c.self.view_is in
    c.unwrap_or.ensures ∙ rw is (there-instead (parked_words c.args.item c.args.self.now) (replicate g.row.WORDS 0) [] c.requires.there)
