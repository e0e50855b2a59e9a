use Rattle.std.proofs.Common.{◌≡◌, ◌∙◌, ap, None, replicate, vec_len}
use Rattle.attraction_mem.specs.Memory.{empty_memory}
use Rattle.attraction_mem.specs.Places.{memory_of}
use Rattle.attraction_mem.proofs.Reading.{is_none, memory_of_free}
use Rattle.attraction_mem.proofs.memory.AttractionMem.clear.Goals as goal

pub returns : goal.returns
unfolding memory_of
returns g c =
    let free : c.fill.new.self.items ≡ replicate (vec_len c.self.inside.tags) None = c.fill.ensures.items (is_none _ (λ x is. is)) in
    ap (λ t. memory_of g.row.WAYS c.self.inside.sets t c.self.inside.words.items) free ∙ (memory_of_free g.row.WAYS c.self.inside.sets (vec_len c.self.inside.tags) c.self.inside.words.items ∙ ap (λ m. empty_memory m.sets) c.self.view_is)
