use Rattle.std.proofs.Common.{ℕ, refl, sym, ap, ◌∙◌, ◌≡◌, ◌%◌, true, false, length, nat_le}
use Rattle.std.specs.Prelude.{option_map}
use Rattle.leaf_protocol.specs.DdmTypes.declared.sizes.LeafState.{LeafState}
use Rattle.leaf_protocol.proofs.Ways.{item_in_way-none, lowest-some, lowest-none}
use Rattle.leaf_protocol.proofs.Fits.{are-below}
use Rattle.leaf_protocol.proofs.Changing.{entry-told, told-ok, moved-kept, moved-ways, moved-buffer, moved-free, moved-absent, moved-waiting, cleared-is, cleared-free}
use Rattle.leaf_protocol.proofs.entries.Entries.make_way.Goals as goal

pub returns-in-Some-clause-way : goal.returns-in-Some-clause-way
returns-in-Some-clause-way g c = rw (← c.self.view_is, lowest-some c.self.inside.items c.self.inside.memory (are-below c.self.invariant) g.row.WAYS c.args.item c.in-Some.way c.in-Some.ensures.lowest) refl

pub returns-in-Some-clause-after : goal.returns-in-Some-clause-after
returns-in-Some-clause-after g c = rw (← c.self.view_is) (sym (cleared-free c.args.item c.in-Some.way _ (item_in_way-none c.self.inside.items c.self.inside.memory (are-below c.self.invariant) c.args.item c.in-Some.way c.in-Some.ensures.lowest.free)))

pub returns-in-Some-clause-free : goal.returns-in-Some-clause-free
returns-in-Some-clause-free g c = rw (← c.self.view_is) (item_in_way-none c.self.inside.items c.self.inside.memory (are-below c.self.invariant) c.args.item c.in-Some.way c.in-Some.ensures.lowest.free)

pub returns-then-is_err-clause-way : goal.returns-then-is_err-clause-way
returns-then-is_err-clause-way g c =
    let none = lowest-none c.self.inside.items c.self.inside.memory (are-below c.self.invariant) g.row.WAYS c.args.item c.in_default.ensures.full in
    let full : nat_le c.self.inside.buffer.capacity (length c.self.inside.buffer.list) ≡ true = sym c.put.ensures.test ∙ (sym c.is_err.ensures.value ∙ c.if-is_err.true) in
    rw (← c.self.view_is, none, full) refl

pub invariant_of-self-2 : goal.invariant_of-self-2
invariant_of-self-2 g c =
    let there = entry-told _ c.unwrap-place.result.1 c.words_at-words.result (ap (option_map (λ (found : ℕ × LeafState). found.1)) (sym c.unwrap-place.ensures) ∙ c.seek.ensures.state) c.words_at-words.ensures in
    let put = told-ok c.put.result (sym c.is_err.ensures.value ∙ c.if-is_err.false) c.put.ensures.ok in
    rw (c.remove_at.ensures, put) (moved-kept c.self.invariant c.args.item (c.args.victim % g.row.WAYS) c.victim-other.result c.victim-other.ensures _ there.1)

pub returns-clause-way : goal.returns-clause-way
returns-clause-way g c =
    let none = lowest-none c.self.inside.items c.self.inside.memory (are-below c.self.invariant) g.row.WAYS c.args.item c.in_default.ensures.full in
    let free : nat_le c.self.inside.buffer.capacity (length c.self.inside.buffer.list) ≡ false = sym c.put.ensures.test ∙ (sym c.is_err.ensures.value ∙ c.if-is_err.false) in
    rw (← c.self.view_is, c.from.ensures, none, free) refl

pub returns-clause-after : goal.returns-clause-after
returns-clause-after g c =
    let there = entry-told _ c.unwrap-place.result.1 c.words_at-words.result (ap (option_map (λ (found : ℕ × LeafState). found.1)) (sym c.unwrap-place.ensures) ∙ c.seek.ensures.state) c.words_at-words.ensures in
    let put = told-ok c.put.result (sym c.is_err.ensures.value ∙ c.if-is_err.false) c.put.ensures.ok in
    rw (← c.self.view_is, c.from.ensures, c.remove_at.ensures, put) (cleared-is c.args.item (c.args.victim % g.row.WAYS) c.self.inside.memory.sets c.self.inside.buffer.capacity _ _ _ _ (moved-ways c.self.invariant c.args.item (c.args.victim % g.row.WAYS) c.victim-other.result c.victim-other.ensures _ there.1) (moved-buffer c.self.invariant c.args.item (c.args.victim % g.row.WAYS) c.victim-other.result c.victim-other.ensures _ there.1))

pub returns-clause-free : goal.returns-clause-free
returns-clause-free g c =
    let there = entry-told _ c.unwrap-place.result.1 c.words_at-words.result (ap (option_map (λ (found : ℕ × LeafState). found.1)) (sym c.unwrap-place.ensures) ∙ c.seek.ensures.state) c.words_at-words.ensures in
    rw (c.from.ensures, c.remove_at.ensures) (moved-free c.self.invariant c.args.item (c.args.victim % g.row.WAYS) c.victim-other.result c.victim-other.ensures _ there.1)

pub returns-clause-absent : goal.returns-clause-absent
returns-clause-absent g c =
    let there = entry-told _ c.unwrap-place.result.1 c.words_at-words.result (ap (option_map (λ (found : ℕ × LeafState). found.1)) (sym c.unwrap-place.ensures) ∙ c.seek.ensures.state) c.words_at-words.ensures in
    let put = told-ok c.put.result (sym c.is_err.ensures.value ∙ c.if-is_err.false) c.put.ensures.ok in
    rw (c.remove_at.ensures, put) (moved-absent c.self.invariant c.args.item (c.args.victim % g.row.WAYS) c.victim-other.result c.victim-other.ensures _ there.1 (rw (← c.self.view_is) at c.requires))

pub returns-clause-waiting : goal.returns-clause-waiting
returns-clause-waiting g c =
    let there = entry-told _ c.unwrap-place.result.1 c.words_at-words.result (ap (option_map (λ (found : ℕ × LeafState). found.1)) (sym c.unwrap-place.ensures) ∙ c.seek.ensures.state) c.words_at-words.ensures in
    let put = told-ok c.put.result (sym c.is_err.ensures.value ∙ c.if-is_err.false) c.put.ensures.ok in
    rw (← c.self.view_is, c.remove_at.ensures, put) (moved-waiting c.self.invariant c.args.item (c.args.victim % g.row.WAYS) c.victim-other.result c.victim-other.ensures _ there.1)
