use Rattle.std.proofs.Common.{refl}
use Rattle.leaf_protocol.specs.TreeModel.State.Leaf.{free_way}
use Rattle.leaf_protocol.specs.Leaf.{leaf_of}
use Rattle.leaf_protocol.proofs.Deeds.{fetch-full, fetch-way}
use Rattle.leaf_protocol.proofs.leaf.Leaf.fetch.Goals as goal

pub returns-in_default : goal.returns-in_default
unfolding free_way
returns-in_default g c = λ now. rw (← c.self.view_is, fetch-full c.args.item c.args.state c.args.victim (leaf_of g.row.WAYS g.row.WORDS c.self.inside.number c.self.inside.entries c.self.inside.slot c.self.inside.replies c.self.inside.reservation c.self.inside.hart) c.in_default.ensures.way, c.in_default.ensures.after) (record { answers = refl; leaf = refl })

pub returns : goal.returns
unfolding free_way
returns g c = λ now. rw (← c.self.view_is, fetch-way c.args.item c.args.state c.args.victim (leaf_of g.row.WAYS g.row.WORDS c.self.inside.number c.self.inside.entries c.self.inside.slot c.self.inside.replies c.self.inside.reservation c.self.inside.hart) c.in-Some.way c.in-Some.ensures.way, c.enter.ensures, c.in-Some.ensures.after) (record { answers = refl; leaf = refl })
