use Rattle.std.proofs.Common.{rules, ◌≡◌, ◌∙◌, Err, sym}
use Rattle.leaf_protocol.proofs.ReadBack.{refused_by_replies, whole_read, broken_by_entries, broken_by_slot}
use Rattle.leaf_protocol.proofs.leaf.Leaf.read_part.Goals as goal
use Rattle.leaf_protocol.proofs.leaf.Leaf.read_part.Goals.{then-not-whole-via-then-not-whole, then-not-whole-via-else-not-whole+then-not-slot_fits}

pub returns-in_err-read_replies-clause-read : goal.returns-in_err-read_replies-clause-read
returns-in_err-read_replies-clause-read g c =
    let p = c.self.inside in
    let is : c.from_residual-in_err-read_replies.result ≡ Err c.in_err-read_replies.field-0.0 = search rules in
    rw is (refused_by_replies g.row.WAYS g.row.WORDS p.number p.entries p.slot p.replies p.reservation p.hart c.args.self.now c.self.view_is c.args.words.now c.args.from c.in_ok-reserved.reserved c.in_ok-code.code c.in_ok-asked.asked c.in_ok-replied.replied
    (record {
      reservation_read = rw c.items-items.ensures at c.in_ok-reserved.ensures.read;
      kind_read = c.in_ok-code.ensures.read;
      item_read = rw c.items-items.ensures at c.in_ok-asked.ensures.read;
      entries = c.in_ok-whole.ensures.read;
      count_read = rw c.capacity.ensures at c.in_ok-replied.ensures.read;
    })
    c.in_err-read_replies.field-0.0 (rw c.items-items.ensures at c.in_err-read_replies.ensures.refused))

pub returns-clause-read : goal.returns-clause-read
returns-clause-read g c =
    let p = c.self.inside in
    whole_read g.row.WAYS g.row.WORDS p.number p.entries p.slot p.replies p.reservation p.hart c.args.self.now c.self.view_is c.args.words.now c.args.from c.in_ok-reserved.reserved c.in_ok-code.code c.in_ok-asked.asked c.in_ok-replied.replied
    (record {
      reservation_read = rw c.items-items.ensures at c.in_ok-reserved.ensures.read;
      kind_read = c.in_ok-code.ensures.read;
      item_read = rw c.items-items.ensures at c.in_ok-asked.ensures.read;
      entries = c.in_ok-whole.ensures.read;
      count_read = rw c.capacity.ensures at c.in_ok-replied.ensures.read;
    })
    c.in_ok-whole.ensures.sizes c.slot_of-self-inside.result c.read_replies.new.replies c.reserved_of-self-inside.result c.read_replies.new.at
    (rw c.items-items.ensures at c.in_ok-read_replies.ensures.read) c.slot_of-self-inside.ensures.value c.reserved_of-self-inside.ensures.value c.in_ok-read_replies.ensures.capacity c.if-not-whole.false (sym c.slot_fits.ensures ∙ c.if-not-slot_fits.false)

pub returns-then-not-whole-clause-read : goal.returns-then-not-whole-clause-read
returns-then-not-whole-clause-read g c = let p = c.self.inside in elim c.then-not-whole.branch [
  | then-not-whole-via-then-not-whole w ↦
      let number : c.result.inside.0 ≡ p.number = search (rules, w.self-is) in
      rw number (broken_by_entries g.row.WAYS g.row.WORDS p.number p.entries p.slot p.replies p.reservation p.hart c.args.self.now c.self.view_is c.args.words.now c.args.from c.in_ok-reserved.reserved c.in_ok-code.code c.in_ok-asked.asked c.in_ok-replied.replied
      (record {
        reservation_read = rw c.items-items.ensures at c.in_ok-reserved.ensures.read;
        kind_read = c.in_ok-code.ensures.read;
        item_read = rw c.items-items.ensures at c.in_ok-asked.ensures.read;
        entries = c.in_ok-whole.ensures.read;
        count_read = rw c.capacity.ensures at c.in_ok-replied.ensures.read;
      })
      c.in_ok-whole.ensures.sizes c.slot_of-self-inside.result c.read_replies.new.replies c.reserved_of-self-inside.result c.read_replies.new.at
      (rw c.items-items.ensures at c.in_ok-read_replies.ensures.read) c.slot_of-self-inside.ensures.value c.reserved_of-self-inside.ensures.value c.in_ok-read_replies.ensures.capacity w.if-not-whole.true)
  | then-not-whole-via-else-not-whole+then-not-slot_fits w ↦
      let number : c.result.inside.0 ≡ p.number = search (rules, w.self-is) in
      rw number (broken_by_slot g.row.WAYS g.row.WORDS p.number p.entries p.slot p.replies p.reservation p.hart c.args.self.now c.self.view_is c.args.words.now c.args.from c.in_ok-reserved.reserved c.in_ok-code.code c.in_ok-asked.asked c.in_ok-replied.replied
      (record {
        reservation_read = rw c.items-items.ensures at c.in_ok-reserved.ensures.read;
        kind_read = c.in_ok-code.ensures.read;
        item_read = rw c.items-items.ensures at c.in_ok-asked.ensures.read;
        entries = c.in_ok-whole.ensures.read;
        count_read = rw c.capacity.ensures at c.in_ok-replied.ensures.read;
      })
      c.in_ok-whole.ensures.sizes c.slot_of-self-inside.result c.read_replies.new.replies c.reserved_of-self-inside.result c.read_replies.new.at
      (rw c.items-items.ensures at c.in_ok-read_replies.ensures.read) c.slot_of-self-inside.ensures.value c.reserved_of-self-inside.ensures.value c.in_ok-read_replies.ensures.capacity w.if-not-whole.false (sym w.slot_fits.ensures ∙ w.if-not-slot_fits.true))
]
