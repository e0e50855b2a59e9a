use Rattle.std.proofs.Common.{rules, ◌≡◌, Err, arith}
use Rattle.leaf_protocol.proofs.ReadBack.{sized-same, sized-on, buffered-begun, buffered-more, buffered-refused, buffered-done}
use Rattle.leaf_protocol.proofs.entries.Entries.read_buffered.Goals as goal

pub entries-init : goal.entries-init
entries-init g c = record {
  read = λ ss there. buffered-begun g.row.WAYS g.row.WORDS c.args.words.now c.args.self.now ss c.args.count c.args.at.now there;
  sizes = sized-same c.args.self.now;
  room = omega arith;
  inside = c.requires.inside;
}

pub returns-in_err-now-clause-refused : goal.returns-in_err-now-clause-refused
returns-in_err-now-clause-refused g c =
    let is : c.from_residual.result ≡ Err c.in_err-now.field-0.0 = search rules in
    λ ss there. rw is (buffered-refused g.row.WAYS g.row.WORDS c.args.words.now c.args.self.now ss c.args.count c.args.at.now (c.entries.invariant.read ss there) c.entries.invariant.sizes (omega arith) c.in_err-now.field-0.0 c.in_err-now.ensures.refused)

pub entries-preserved : goal.entries-preserved
entries-preserved g c = record {
  read = λ ss there. buffered-more g.row.WAYS g.row.WORDS c.args.words.now c.args.self.now ss c.args.count c.args.at.now (c.entries.invariant.read ss there) c.entries.invariant.sizes (omega arith) c.in_ok-now.now c.read_one_buffered.new.self c.read_one_buffered.new.at c.in_ok-now.ensures.read;
  sizes = sized-on c.entries.invariant.sizes c.in_ok-now.ensures.sizes;
  room = omega (arith, c.in_ok-now.ensures.count, c.entries.invariant.room);
  inside = c.in_ok-now.ensures.inside;
}

pub returns-clause-read : goal.returns-clause-read
returns-clause-read g c = λ ss there. buffered-done g.row.WAYS g.row.WORDS c.args.words.now c.args.self.now ss c.args.count c.args.at.now (c.entries.invariant.read ss there) (omega arith)
