use Rattle.std.proofs.Common.{◌≡◌, ◌∙◌, sym, true, false, rules}
use Rattle.directory.specs.TreeModel.State.States.{is_held}
use Rattle.directory.specs.TreeModel.State.Directory.{dir_hold, dir_lost}
use Rattle.directory.proofs.Changes.{lose-held, lose-absent}
use Rattle.directory.proofs.state.DirState.up_lose.Goals as goal

pub returns-then-is_held : goal.returns-then-is_held
returns-then-is_held g c =
    let held : is_held (dir_hold c.args.item c.args.self.now) ≡ true = search rules in
    let lost : c.tell_kind.new.self ≡ dir_lost c.args.item c.args.stamp c.args.self.now = search rules in
    lost ∙ sym (lose-held c.args.item c.args.stamp c.args.self.now held)

pub returns-else-is_held : goal.returns-else-is_held
returns-else-is_held g c =
    let absent : is_held (dir_hold c.args.item c.args.self.now) ≡ false = search rules in
    sym (lose-absent c.args.item c.args.stamp c.args.self.now absent)
