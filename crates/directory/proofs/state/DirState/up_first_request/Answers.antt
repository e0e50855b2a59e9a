use Rattle.std.proofs.Common.{◌∙◌, ap, option_map}
use Rattle.directory.specs.TreeModel.State.Lists.{first_of}
use Rattle.directory.specs.ItemStates.Parts.{request_pair}
use Rattle.directory.proofs.Lists.{requests-first}
use Rattle.directory.proofs.state.DirState.up_first_request.Goals as goal

pub returns-clause-value : goal.returns-clause-value
returns-clause-value g c = c.copied.ensures ∙ c.first.ensures.value ∙ requests-first c.self.inside.requests.list ∙ ap (λ d. option_map request_pair (first_of d.requests)) c.self.view_is
