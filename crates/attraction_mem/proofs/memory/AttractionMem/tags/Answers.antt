use Rattle.std.proofs.Common.{ℕ, ◌+◌, ◌*◌, ◌<◌, length, IfSome, subst, sym, ◌∙◌, ap, ◌↔◌}
use Rattle.ddm_types.specs.declared.sizes.LeafState.{LeafState}
use Rattle.attraction_mem.specs.Memory.{entry_of, StandsAs}
use Rattle.attraction_mem.specs.Places.{HasTag}
use Rattle.attraction_mem.proofs.Reading.{inside_seen, standing_seen, sets_seen}
use Rattle.attraction_mem.proofs.memory.AttractionMem.tags.Goals as goal

pub returns-clause-places : goal.returns-clause-places
returns-clause-places g c = ap length c.deref.ensures.value ∙ c.self.invariant.0.sized.count ∙ ap (λ k. k * g.row.WAYS) (sym (sets_seen g.row.WAYS c.self.inside.sets c.self.inside.tags.items c.self.inside.words.items c.self.view_is))

pub returns-clause-standing : goal.returns-clause-standing
returns-clause-standing g c =
    rw c.deref.ensures.value (subst (λ m. (set way item : ℕ) (s : LeafState) → way < g.row.WAYS → HasTag c.self.inside.tags.items (set * g.row.WAYS + way) item s ↔ StandsAs m set way item s) c.self.view_is (standing_seen c.self.invariant.0))

pub returns-clause-inside : goal.returns-clause-inside
returns-clause-inside g c = subst (λ m. (item : ℕ) → IfSome (entry_of m item) (λ e. e.way < g.row.WAYS)) c.self.view_is (inside_seen c.self.invariant.0)
