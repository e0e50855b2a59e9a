use Rattle.std.proofs.Common.{◌≡◌, ap, ◌∙◌, ◌++◌, ◌+◌, ◌-◌, [], ◌∷◌, drop, take, arith}
use Rattle.timeless_words.specs.Struck.{entries_struck}
use Rattle.timeless_words.proofs.Forgotten.{ends, entries-step}
use Rattle.timeless_words.proofs.bus.push_entries.Goals as goal

pub loop-entry-preserved : goal.loop-entry-preserved
loop-entry-preserved c =
    let old = c.loop-entry.out.items in
    let left = c.loop-entry.left.now in
    let behind : c.parted-in-loop-entry.result.1.now ≡ drop 4 (drop 2 left) = c.parted-in-loop-entry.ensures.rest ∙ ap (drop 4) c.parted.ensures.rest in
    let copy = c.parted-in-loop-entry-2.ensures.front ∙ ap (take c.args.item_words) behind in
    let rest = c.parted-in-loop-entry-2.ensures.rest ∙ ap (drop c.args.item_words) behind in
    let one : c.extend_from_slice.new.self.items ≡ old ++ take 2 left = c.in_ok-extend_from_slice.ensures.items ∙ ap (λ a. old ++ a) c.parted.ensures.front in
    let two : c.extend_from_slice-in-loop-entry.new.self.items ≡ (old ++ take 2 left) ++ (0 ∷ 0 ∷ 0 ∷ 0 ∷ []) = c.in_ok-extend_from_slice-2.ensures.items ∙ ap (λ a. a ++ (0 ∷ 0 ∷ 0 ∷ 0 ∷ [])) one in
    let new : c.extend_from_slice-in-loop-entry-2.new.self.items ≡ ((old ++ take 2 left) ++ (0 ∷ 0 ∷ 0 ∷ 0 ∷ [])) ++ take c.args.item_words (drop 4 (drop 2 left)) =
    c.in_ok-extend_from_slice-3.ensures.items ∙ ap (λ a. a ++ c.parted-in-loop-entry-2.result.0.now) two ∙ ap (λ a. ((old ++ take 2 left) ++ (0 ∷ 0 ∷ 0 ∷ 0 ∷ [])) ++ a) copy in
    ap (λ ws. c.extend_from_slice-in-loop-entry-2.new.self.items ++ entries_struck c.args.item_words (c.args.count - (c.loop-entry._entry + 1)) ws) rest
    ∙ entries-step c.args.item_words c.args.count c.loop-entry._entry old _ left c.loop-entry-test.true new ∙ c.loop-entry.invariant

pub returns : goal.returns
returns c =
    let none : c.args.count - c.loop-entry._entry ≡ 0 = omega (arith, c.loop-entry-test.false) in
    c.in_ok-extend_from_slice-4.ensures.items ∙ ends c.args.item_words _ c.loop-entry.out.items c.loop-entry.left.now none ∙ c.loop-entry.invariant
