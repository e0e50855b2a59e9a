use Rattle.std.proofs.Common.{◌≡◌, ◌<◌, get_or, length, ap, ◌∙◌, sym, arith}
use Rattle.directory.specs.TreeModel.State.Leaf.{words_of_item}
use Rattle.bus_judging.proofs.Copies.{copies-counted}
use Rattle.directory.specs.DirParts.{copy_of}
use Rattle.directory.proofs.state.DirState.reply_count.Goals as goal

pub returns : goal.returns
returns g c =
    let items : length c.args.self.now.items ≡ length c.self.inside.kept = sym (ap (λ d. length d.items) c.self.view_is) in
    let inside : c.args.item < c.self.inside.replies.items = omega (arith, items, c.self.invariant.replies, c.requires) in
    ap (λ x. get_or c.counts.result.now x 0) c.item.view_is ∙ c.counts.ensures.counts c.args.item inside ∙ copies-counted copy_of c.args.item c.self.inside.replies.list ∙ ap (λ d. length (words_of_item c.args.item d.replies)) c.self.view_is
