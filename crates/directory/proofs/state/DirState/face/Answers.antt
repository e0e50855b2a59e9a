use Rattle.std.proofs.Common.{ap, ◌∙◌}
use Rattle.directory.specs.TreeRules.Bus.Faces.{face_above, parent_face}
use Rattle.directory.proofs.state.DirState.face.Goals as goal

pub returns : goal.returns
returns g c = c.face.ensures (parent_face c.args.item c.args.self.now) c.facts.ensures ∙ ap (face_above (parent_face c.args.item c.args.self.now)) c.reply_count.ensures
