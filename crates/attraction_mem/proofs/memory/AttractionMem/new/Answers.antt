use Rattle.std.proofs.Common.{◌≡◌, ◌*◌, None, ap, ◌∙◌, replicate}
use Rattle.attraction_mem.specs.Places.{memory_of}
use Rattle.attraction_mem.proofs.Reading.{is_none, memory_of_free}
use Rattle.attraction_mem.proofs.memory.AttractionMem.new.Goals as goal

pub returns : goal.returns
returns g c =
    let free : c.in_ok-tags.tags.items ≡ replicate (c.args.sets * g.row.WAYS) None = c.in_ok-tags.ensures.items_if_clones_equal (is_none _ (λ x is. is)) in
    ap (λ s. memory_of g.row.WAYS s c.in_ok-tags.tags.items c.in_ok-words.words.items) c.new.ensures ∙ ap (λ t. memory_of g.row.WAYS c.args.sets t c.in_ok-words.words.items) free ∙ memory_of_free g.row.WAYS c.args.sets (c.args.sets * g.row.WAYS) c.in_ok-words.words.items
