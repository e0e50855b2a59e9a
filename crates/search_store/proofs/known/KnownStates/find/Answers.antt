use Rattle.std.proofs.Common.{◌∙◌, ap}
use Rattle.search_store.specs.Known.{place_of}
use Rattle.search_store.proofs.Words.{place-words}
use Rattle.search_store.proofs.known.KnownStates.find.Goals as goal

pub returns : goal.returns
returns c = c.get_index_of.ensures.index ∙ place-words c.args.words.now c.self.inside.words.keys ∙ ap (place_of c.args.words.now) c.self.view_is
