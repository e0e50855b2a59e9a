use Rattle.std.proofs.Common.{◌≡◌, ◌≤◌, ◌-◌, ◌/◌, leb, true, false, length, sym, ◌∙◌, arith, rules}
use Rattle.std.specs.Prelude.{slice_get}
use Rattle.std.specs.List.Sorted.{IsPartitionPoint, IsPartitionedBy}
use Rattle.std.proofs.lemmas.List.Sorted.{IsPartitionPoint-from_clause, IsPartitionedBy-leb}
use Rattle.ddm_types.specs.CodeMap.{part_words, word_at}
use Rattle.ddm_types.proofs.code_map.Code.word_at.Goals as goal
use Rattle.ddm_types.proofs.code_map.Code.word_at.Goals.{After-partition_point-after, After-index-part}
use Rattle.ddm_types.proofs.Parts.{in_order-rise, before_all, started, last_decides, part-whole, part-between, lent_item}

-- the parts before the answer start at the pc or below
point : (c : After-partition_point-after) → IsPartitionPoint (λ p. leb p.start c.args.pc ≡ true) (λ p. leb p.start c.args.pc ≡ false) c.self.inside.parts.items c.partition_point-after.result
point c =
    let parted = IsPartitionedBy-leb (λ p. p.start) c.self.inside.parts.items c.args.pc (in_order-rise c.self.inside.parts.items c.self.invariant) in
    let same = c.deref.ensures.value in
    let parted' : IsPartitionedBy (λ p. leb p.start c.args.pc) c.deref.result.now = rw same parted in
    rw same at (IsPartitionPoint-from_clause (λ p. leb p.start c.args.pc) _ _ c.partition_point-after.ensures.partitioned parted' (λ a r q k. search rules))

in_list : (c : After-index-part) → c.partition_point-after.result ≤ length c.self.inside.parts.items
in_list c = rw c.deref.ensures.value at c.partition_point-after.ensures.bound

-- the part starts at the pc or below
low : (c : After-index-part) → c.index-part.result.now.start ≤ c.args.pc
low c =
    started c.self.inside.parts.items c.args.pc c.partition_point-after.result c.self.invariant (point (goal.at.overflow_sub-offset c).After-partition_point-after)
    c.index-part.result.now (omega arith) (in_list c) c.index-part.ensures

-- the part decides what the code has at the pc
decides : (c : After-index-part) → word_at c.args.self.now c.args.pc ≡ word_at (part_words c.index-part.result.now) c.args.pc
decides c =
    rw (sym c.self.view_is)
    (last_decides c.self.inside.parts.items c.args.pc c.partition_point-after.result c.self.invariant (point (goal.at.overflow_sub-offset c).After-partition_point-after)
    c.index-part.result.now (omega arith) (in_list c) c.index-part.ensures)

pub returns-then-after-eq0 : goal.returns-then-after-eq0
returns-then-after-eq0 c =
    rw (sym c.self.view_is)
    (sym (before_all c.self.inside.parts.items c.args.pc c.partition_point-after.result c.self.invariant (point (goal.at.returns-then-after-eq0 c).After-partition_point-after) c.if-after-eq0.true))

pub overflow_sub-offset : goal.overflow_sub-offset
overflow_sub-offset c = low c

pub returns-then-offset-ne0 : goal.returns-then-offset-ne0
returns-then-offset-ne0 c =
    let d = (goal.at.returns-then-offset-ne0 c).After-index-part in
    sym (decides d ∙ part-between c.index-part.result.now c.args.pc (low d) c.if-offset-ne0.true)

pub returns : goal.returns
returns c =
    let d = (goal.at.returns c).After-index-part in
    let read : c.copied.result ≡ slice_get c.index-part.result.now.words.items ((c.args.pc - c.index-part.result.now.start) / 4) = rw c.deref-2.ensures.value at (c.copied.ensures ∙ lent_item _ _ c.get.result c.get.ensures.lookup) in
    read ∙ sym (decides d ∙ part-whole c.index-part.result.now c.args.pc (low d) c.if-offset-ne0.false)
