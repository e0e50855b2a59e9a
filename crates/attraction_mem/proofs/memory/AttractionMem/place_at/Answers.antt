use Rattle.std.proofs.Common.{◌≡◌, ℕ, ◌+◌, ◌*◌, ◌%◌, ◌<◌, List, ◌++◌, None, Some, drop, length, set, take, subst, sym, ◌∙◌, ap, arith}
use Rattle.std.proofs.Math.Nat.{mod-lt}
use Rattle.std.proofs.Math.Seq.{take-append_seam}
use Rattle.attraction_mem.specs.Marks.{AreMarked, marked}
use Rattle.attraction_mem.specs.Memory.{entry_of, with_entry, IsFree}
use Rattle.attraction_mem.proofs.Holding.{written-set}
use Rattle.attraction_mem.proofs.Marked.{placed_marked}
use Rattle.attraction_mem.proofs.Writing.{placed_kept, placed_is}
use Rattle.attraction_mem.proofs.memory.AttractionMem.place_at.Goals as goal

pub invariant_of-self : goal.invariant_of-self
invariant_of-self g c =
    let p = c.first_place.result + c.args.way in
    let place : p ≡ c.args.item % c.self.inside.sets * g.row.WAYS + c.args.way = ap (λ k. k + c.args.way) c.first_place.ensures.place in
    let inside : p < length c.self.inside.tags.items = omega (arith, c.first_place.ensures.fits, c.requires.exists, c.self.invariant.0.sized.count) in
    let absent = ap (λ m. entry_of m c.args.item) c.self.view_is ∙ c.requires.absent in
    let free = subst (λ m. IsFree m (c.args.item % m.sets) c.args.way) (sym c.self.view_is) c.requires.free in
    let sets = c.self.inside.sets in
    let marks = c.self.inside.marks.items in
    let tags = set c.self.inside.tags.items p (Some (c.args.item, c.args.state)) in
    let after = c.mark.new.marks in
    let same : after ≡ marked sets c.args.item marks = c.mark.ensures ∙ ap (λ (ms : List ℕ). marked sets c.args.item ms) c.deref_mut.ensures.value in
    let whole : c.self.inside.marks.len ≡ length after = sym c.deref_mut.ensures.len ∙ sym c.mark.auto.marks in
    let back : take c.self.inside.marks.len (after ++ drop (length after) marks) ≡ after = ap (λ n. take n (after ++ drop (length after) marks)) whole ∙ take-append_seam after (drop (length after) marks) in
    let low : c.args.item % sets < sets = mod-lt c.args.item (omega (arith, c.self.invariant.0.sized.some_sets)) in (
      placed_kept c.self.invariant.0 c.args.item c.args.way p c.args.state c.args.words place inside c.requires.exists absent free,
      subst (AreMarked sets tags) (sym (back ∙ same)) (placed_marked sets c.self.inside.tags.items tags marks c.args.item p c.args.state low c.self.invariant.1 (written-set None c.self.inside.tags.items p (Some (c.args.item, c.args.state)) inside)),
    )

pub returns : goal.returns
returns g c =
    let p = c.first_place.result + c.args.way in
    let place : p ≡ c.args.item % c.self.inside.sets * g.row.WAYS + c.args.way = ap (λ k. k + c.args.way) c.first_place.ensures.place in
    let inside : p < length c.self.inside.tags.items = omega (arith, c.first_place.ensures.fits, c.requires.exists, c.self.invariant.0.sized.count) in
    let absent = ap (λ m. entry_of m c.args.item) c.self.view_is ∙ c.requires.absent in
    let free = subst (λ m. IsFree m (c.args.item % m.sets) c.args.way) (sym c.self.view_is) c.requires.free in
    placed_is c.self.invariant.0 c.args.item c.args.way p c.args.state c.args.words place inside c.requires.exists absent free ∙ ap (λ m. with_entry m c.args.item c.args.way c.args.state c.args.words) c.self.view_is
