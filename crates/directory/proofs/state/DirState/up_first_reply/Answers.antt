use Rattle.std.proofs.Common.{◌∙◌, ap, option_map}
use Rattle.directory.specs.TreeModel.State.Lists.{first_of}
use Rattle.directory.specs.ItemStates.Parts.{copy_pair}
use Rattle.directory.proofs.Lists.{replies-first}
use Rattle.directory.proofs.state.DirState.up_first_reply.Goals as goal

pub returns-clause-value : goal.returns-clause-value
returns-clause-value g c = c.copied.ensures ∙ c.first.ensures.value ∙ replies-first c.self.inside.replies.list ∙ ap (λ d. option_map copy_pair (first_of d.replies)) c.self.view_is
