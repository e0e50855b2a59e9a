use Rattle.std.proofs.Common.{◌≡◌, ℕ, ◌+◌, ◌%◌, length, drop, rules, refl, sym, ap, subst, ◌∙◌, arith, All}
use Rattle.std.specs.Prelude.{slice_index_or}
use Rattle.std.proofs.Math.Nat.{mod-add-mod, zero-mod}
use Rattle.std.proofs.lemmas.List.{drop_all}
use Rattle.run_engine.specs.TreeModel.Start.Nodes.{placed_items}
use Rattle.run_engine.specs.Placement.{HasSets, TakesItem}
use Rattle.run_engine.proofs.Open.{IsOpen, blank-open, open-more, open-takes, placed-end, placed-next}
use Rattle.run_engine.proofs.Passing.{AreKnown, IsKnown, MayBegin, begins-behind, begins-own, known-next, none-known, nothing_passed, placed-none, sets-in}
use Rattle.run_engine.proofs.leaves.place_items.Goals as goal
use Rattle.run_engine.proofs.leaves.place_items.Goals.{then-known-own, else-known-own}

-- a remainder that is counted along
counted : {r : ℕ} (k n : ℕ) → r ≡ k % n → (r + 1) % n ≡ (k + 1) % n
counted k n is = ap (λ r. (r + 1) % n) is ∙ mod-add-mod k n 1

pub loop-item-init : goal.loop-item-init
loop-item-init g c = record {
  blank = blank-open (length c.args.words.now) c.args.leaves.now c.requires.can.blank;
  rest = refl;
  sets = c.requires.sets;
  known = none-known c.args.sets 4096 c.args.leaves.now;
  own = sym (zero-mod (length c.args.leaves.now));
  set = sym (zero-mod c.args.sets);
}

pub returns-then-count-eq0 : goal.returns-then-count-eq0
returns-then-count-eq0 g c = placed-none 0 c.args.words.now c.args.leaves.now (omega (arith, c.if-count-eq0.true))

pub place_item-full-requires : goal.place_item-full-requires
place_item-full-requires g c =
    let n = c.args.words.now in
    let k = c.loop-item.item in
    let ls = c.loop-item.leaves in
    let inv = c.loop-item.invariant in
    let own : c.loop-item.own ≡ k % length ls = inv.own ∙ ap (λ n. k % n) (sym c.loop-item.auto.leaves) in
    let known = subst (λ set. IsKnown c.args.sets set (slice_index_or c.loop-item.passed c.loop-item.set nothing_passed) ls) inv.set (inv.known c.loop-item.set) in
    let begins : MayBegin k c.if-known-own.first ls = elim c.if-known-own.branch [
      | then-known-own w ↦ begins-behind c.args.sets k c.if-known-own.first _ ls known (w.if-known-own.true ∙ own) w.first-is
      | else-known-own w ↦ begins-own k c.if-known-own.first ls w.first-is
    ] in
    (omega arith, (search rules, (omega (arith, c.requires.can.few_leaves, c.loop-item.auto.leaves), (own, (open-takes (length n) k ls c.loop-item-test.true inv.blank, begins)))))

pub loop-item-preserved : goal.loop-item-preserved
loop-item-preserved g c =
    let n = c.args.words.now in
    let k = c.loop-item.item in
    let w = c.index-words-item.result in
    let ls = c.loop-item.leaves in
    let inv = c.loop-item.invariant in
    let after = c.place_item-full.ensures.placed in
    let own : c.loop-item.own ≡ k % length ls = inv.own ∙ ap (λ n. k % n) (sym c.loop-item.auto.leaves) in
    let takes : All (TakesItem k) ls = open-takes (length n) k ls c.loop-item-test.true inv.blank in
    let next = open-more (length n) k w ls inv.blank in
    record {
      blank = subst (λ ms. All (IsOpen (length n) (k + 1)) ms) (sym after) next;
      rest = inv.rest ∙ placed-next k n w ls c.loop-item-test.true c.index-words-item.is ∙ ap (placed_items (k + 1) (drop (k + 1) n)) (sym after);
      sets = subst (λ ms. All (HasSets c.args.sets) ms) (sym after) (sets-in k w c.args.sets _ ls inv.sets);
      known = subst (AreKnown c.args.sets _) (sym after) (known-next c.args.sets k w ls inv.sets takes c.loop-item.passed c.loop-item.set c.loop-item.own c.place_item-full.result inv.known inv.set own c.place_item-full.ensures.inside c.place_item-full.ensures.passed);
      own = c.wrapped-own.ensures ∙ counted k (length c.args.leaves.now) inv.own;
      set = c.wrapped-set.ensures ∙ counted k c.args.sets inv.set;
    }

pub returns : goal.returns
returns g c = sym (c.loop-item.invariant.rest ∙ placed-end c.loop-item.item c.args.words.now c.loop-item.leaves (drop_all c.loop-item.item c.args.words.now c.loop-item-test.false))
