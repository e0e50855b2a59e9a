use Rattle.std.proofs.Common.{◌+◌, ◌∙◌, sym, refl, arith}
use Rattle.ddm_cli.proofs.Verdicts.{few_fed, long_fed, nothing_fed, piece_fed}
use Rattle.ddm_cli.proofs.checking.feed_file.Goals as goal

pub reading-init : goal.reading-init
reading-init g c = record {
  read = nothing_fed c.args.reader.now (g.F.Shelf.told c.args.files.now c.args.name.now);
  few = omega arith;
  same = refl;
  later = λ other. omega arith;
}

pub reading-preserved : goal.reading-preserved
reading-preserved g c =
    let told = g.F.Shelf.told c.args.files.now c.args.name.now in
    let part = rw c.reading.invariant.same at c.in-Ok.ensures.told in
    let read = piece_fed c.args.reader.now told c.reading.at c.reading.reader c.reading.invariant.read c.in-Ok.n c.read.new.into part c.feed.new.self c.in-Ok.ensures.bound c.feed.ensures.reader in
    record {
      read = read;
      few = few_fed c.args.reader.now told (c.reading.at + c.in-Ok.n) c.feed.new.self read c.requires.begins.0 c.requires.begins.1 (sym c.in-Ok-feed.ensures.answer);
      same = c.read.ensures.same ∙ c.reading.invariant.same;
      later = λ other. omega (arith, c.reading.invariant.later other, c.read.ensures.later other);
    }

pub returns-in-Err-clause-cause : goal.returns-in-Err-clause-cause
returns-in-Err-clause-cause g c =
    let told = g.F.Shelf.told c.args.files.now c.args.name.now in
    let part = rw c.reading.invariant.same at c.in-Ok.ensures.told in
    let read = piece_fed c.args.reader.now told c.reading.at c.reading.reader c.reading.invariant.read c.in-Ok.n c.read.new.into part c.feed.new.self c.in-Ok.ensures.bound c.feed.ensures.reader in
    long_fed c.args.reader.now told (c.reading.at + c.in-Ok.n) c.feed.new.self read c.in-Err.refusal (sym c.in-Err.ensures.answer)
