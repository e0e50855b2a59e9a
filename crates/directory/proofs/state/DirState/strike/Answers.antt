use Rattle.std.proofs.Common.{ap}
use Rattle.directory.specs.TreeModel.State.Values.{DirValue}
use Rattle.directory.specs.TreeModel.State.Directory.{struck}
use Rattle.directory.proofs.Lists.{struck-requests}
use Rattle.directory.proofs.state.DirState.strike.Goals as goal

pub returns : goal.returns
returns g c =
    let is = struck-requests c.args.kind c.args.item c.self.inside.requests.list in
    rw (c.remove_request.ensures.rest, ← is) (ap (λ (d : DirValue). record d { requests = struck c.args.kind c.args.item d.requests }) c.self.view_is)
