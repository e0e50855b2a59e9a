use Rattle.std.proofs.Common.{◌≡◌, ℕ, ◌+◌, ◌*◌, ◌%◌, length, get_or, [], IfSome, subst, sym, ◌∙◌, ap}
use Rattle.attraction_mem.specs.Memory.{entry_of}
use Rattle.attraction_mem.proofs.Reading.{words_seen, sets_seen}
use Rattle.attraction_mem.proofs.memory.AttractionMem.stored.Goals as goal

pub returns-clause-places : goal.returns-clause-places
returns-clause-places g c = ap length c.deref.ensures.value ∙ c.self.invariant.0.word_places ∙ c.self.invariant.0.sized.count ∙ ap (λ k. k * g.row.WAYS) (sym (sets_seen g.row.WAYS c.self.inside.sets c.self.inside.tags.items c.self.inside.words.items c.self.view_is))

pub returns-clause-standing : goal.returns-clause-standing
returns-clause-standing g c =
    rw c.deref.ensures.value (subst (λ m. (item : ℕ) → IfSome (entry_of m item) (λ e. get_or c.self.inside.words.items (item % m.sets * g.row.WAYS + e.way) [] ≡ e.words)) c.self.view_is (words_seen c.self.invariant.0))
