use Rattle.std.proofs.Common.{rules, ◌≡◌, ◌∙◌, Err, ap, arith}
use Rattle.leaf_protocol.specs.Entries.{EntriesValue}
use Rattle.leaf_protocol.proofs.ReadBack.{standing-begun, standing-more, standing-refused, standing-done}
use Rattle.leaf_protocol.proofs.entries.Entries.read_standing.Goals as goal

pub entries-init : goal.entries-init
entries-init g c = record {
  read = standing-begun g.row.WAYS g.row.WORDS c.args.words.now c.args.self.now c.args.count c.args.at.now c.clear.new.self c.clear.ensures;
  buffer = ap (λ (e : EntriesValue). e.buffer) c.clear.ensures;
  inside = c.requires.inside;
}

pub returns-in_err-entry-clause-refused : goal.returns-in_err-entry-clause-refused
returns-in_err-entry-clause-refused g c =
    let is : c.from_residual.result ≡ Err c.in_err-entry.field-0.0 = search rules in
    rw is (standing-refused g.row.WAYS g.row.WORDS c.args.words.now c.args.self.now c.args.count c.args.at.now c.entries.invariant.read (omega arith) c.in_err-entry.field-0.0 c.in_err-entry.ensures.refused)

pub entries-preserved : goal.entries-preserved
entries-preserved g c = record {
  read = standing-more g.row.WAYS g.row.WORDS c.args.words.now c.args.self.now c.args.count c.args.at.now c.entries.invariant.read (omega arith) c.in_ok-entry.entry c.in_ok-entry.fits c.read_one_standing.new.self c.read_one_standing.new.at c.in_ok-entry.ensures.read c.in_ok-entry.ensures.there c.in_ok-entry.ensures.sizes;
  buffer = c.in_ok-entry.ensures.buffer ∙ c.entries.invariant.buffer;
  inside = c.in_ok-entry.ensures.inside;
}

pub returns-clause-read : goal.returns-clause-read
returns-clause-read g c = standing-done g.row.WAYS g.row.WORDS c.args.words.now c.args.self.now c.args.count c.args.at.now c.entries.invariant.read (omega arith)
