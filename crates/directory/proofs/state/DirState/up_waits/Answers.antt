use Rattle.std.proofs.Common.{◌∙◌, ap, sym}
use Rattle.directory.specs.DdmTypes.declared.answers.TxKind.TheVariants.{ReadTx}
use Rattle.directory.specs.TreeModel.State.Directory.{dir_waits}
use Rattle.directory.proofs.Lists.{has_kind-requests}
use Rattle.directory.proofs.state.DirState.up_waits.Goals as goal

pub returns : goal.returns
returns g c =
    c.has_request.ensures ∙ sym (has_kind-requests ReadTx c.args.item c.self.inside.requests.list) ∙ ap (dir_waits c.args.item) c.self.view_is
