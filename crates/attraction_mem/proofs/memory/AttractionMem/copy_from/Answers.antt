use Rattle.std.proofs.Common.{◌≡◌, ◌++◌, ◌∙◌, ◌<◌, ap, sym, ℕ, ◌*◌, arith, drop, length, take}
use Rattle.std.proofs.Math.Nat.{mul-pos}
use Rattle.attraction_mem.specs.Copying.{AgreeWhereTagged, IsFreeUnmarked}
use Rattle.attraction_mem.specs.Places.{memory_of, IsSized}
use Rattle.attraction_mem.proofs.Copied.{agreed_kept, agreed_memory, one_fits, unmarked_free, written_back}
use Rattle.attraction_mem.proofs.Reading.{sets_seen}
use Rattle.attraction_mem.proofs.memory.AttractionMem.copy_from.Goals as goal

same_places : {ways s r p q : ℕ} → s ≡ r → IsSized ways s p → IsSized ways r q → p ≡ q
same_places {ways} sets here there = here.count ∙ ap (λ n. n * ways) sets ∙ sym there.count

some_places : {ways sets places : ℕ} → IsSized ways sets places → 0 < places
some_places sized = let some = mul-pos sized.some_sets sized.some_ways in omega (arith, some, sized.count)

pub copy_sets-requires : goal.copy_sets-requires
copy_sets-requires g c =
    let ways = g.row.WAYS in
    let here = c.self.invariant.0 in
    let there = c.other.invariant.0 in
    let sets : c.self.inside.sets ≡ c.other.inside.sets = sym (sets_seen g.row.WAYS c.self.inside.sets c.self.inside.tags.items c.self.inside.words.items c.self.view_is) ∙ c.requires ∙ sets_seen g.row.WAYS c.other.inside.sets c.other.inside.tags.items c.other.inside.words.items c.other.view_is in
    let places : length c.self.inside.tags.items ≡ length c.other.inside.tags.items = same_places sets here.sized there.sized in
    let tags = c.deref_mut.ensures.value in
    let words = c.deref_mut-2.ensures.value in
    let marks = c.deref_mut-3.ensures.value in
    let from_tags = c.deref.ensures.value in
    let from_words = c.deref-2.ensures.value in
    let from_marks = c.deref-3.ensures.value in
    let some : 0 < length c.deref-2.result.now = omega (arith, some_places there.sized, there.word_places, ap length from_words) in
    let sized : IsSized ways (length c.deref_mut-3.result.now) (length c.deref_mut.result.now) = rw (marks, tags, c.self.invariant.1.count) here.sized in
    let free : IsFreeUnmarked ways c.deref_mut.result.now c.deref_mut-3.result.now = rw (marks, tags) (unmarked_free here c.self.invariant.1) in
    let from_free : IsFreeUnmarked ways c.deref.result.now c.deref-3.result.now = rw (from_marks, from_tags) (unmarked_free there c.other.invariant.1) in
    let same_tags : length c.deref.result.now ≡ length c.deref_mut.result.now = rw (from_tags, tags) (sym places) in
    let same_words : length c.deref-2.result.now ≡ length c.deref_mut.result.now = rw (from_words, tags) (there.word_places ∙ sym places) in
    let same_marks : length c.deref-3.result.now ≡ length c.deref_mut-3.result.now = rw (from_marks, marks) (c.other.invariant.1.count ∙ sym sets ∙ sym c.self.invariant.1.count) in
    (one_fits some c.deref-2.type_inv.1, (sized, (rw (words, tags) here.word_places, (free, (same_tags, (same_words, (same_marks, from_free)))))))

pub invariant_of-self : goal.invariant_of-self
invariant_of-self g c =
    let sets : c.self.inside.sets ≡ c.other.inside.sets = sym (sets_seen g.row.WAYS c.self.inside.sets c.self.inside.tags.items c.self.inside.words.items c.self.view_is) ∙ c.requires ∙ sets_seen g.row.WAYS c.other.inside.sets c.other.inside.tags.items c.other.inside.words.items c.other.view_is in
    let tags = written_back c.self.inside.tags.len c.copy_sets.new.tags c.self.inside.tags.items (sym c.deref_mut.ensures.len ∙ sym c.copy_sets.auto.tags) ∙ c.copy_sets.ensures.tags ∙ c.deref.ensures.value in
    let words = written_back c.self.inside.words.len c.copy_sets.new.words c.self.inside.words.items (sym c.deref_mut-2.ensures.len ∙ sym c.copy_sets.auto.words) in
    let marks = written_back c.self.inside.marks.len c.copy_sets.new.marks c.self.inside.marks.items (sym c.deref_mut-3.ensures.len ∙ sym c.copy_sets.auto.marks) ∙ c.copy_sets.ensures.marks ∙ c.deref-3.ensures.value in
    let size = c.copy_sets.ensures.word_places ∙ ap length c.deref-2.ensures.value in
    rw (tags, words, marks, sets) (agreed_kept size c.other.invariant.0, c.other.invariant.1)

pub returns : goal.returns
returns g c =
    let ways = g.row.WAYS in
    let sets : c.self.inside.sets ≡ c.other.inside.sets = sym (sets_seen g.row.WAYS c.self.inside.sets c.self.inside.tags.items c.self.inside.words.items c.self.view_is) ∙ c.requires ∙ sets_seen g.row.WAYS c.other.inside.sets c.other.inside.tags.items c.other.inside.words.items c.other.view_is in
    let tags = written_back c.self.inside.tags.len c.copy_sets.new.tags c.self.inside.tags.items (sym c.deref_mut.ensures.len ∙ sym c.copy_sets.auto.tags) ∙ c.copy_sets.ensures.tags ∙ c.deref.ensures.value in
    let words = written_back c.self.inside.words.len c.copy_sets.new.words c.self.inside.words.items (sym c.deref_mut-2.ensures.len ∙ sym c.copy_sets.auto.words) in
    let agree : AgreeWhereTagged c.other.inside.tags.items c.other.inside.words.items c.copy_sets.new.words = rw (c.deref.ensures.value, c.deref-2.ensures.value) at c.copy_sets.ensures.words in
    let same : memory_of ways c.self.inside.sets (take c.self.inside.tags.len (c.copy_sets.new.tags ++ drop (length c.copy_sets.new.tags) c.self.inside.tags.items)) (take c.self.inside.words.len (c.copy_sets.new.words ++ drop (length c.copy_sets.new.words) c.self.inside.words.items)) ≡ c.args.other.now =
    rw (sets, tags, words) (agreed_memory ways c.other.inside.sets c.other.inside.tags.items c.other.inside.words.items c.copy_sets.new.words agree ∙ c.other.view_is) in
    same
