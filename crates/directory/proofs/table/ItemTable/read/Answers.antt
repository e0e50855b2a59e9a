use Rattle.std.proofs.Common.{◌≡◌, ◌∙◌, ◌-◌, ap, sym, rules, Err, arith, drop, length, replicate, None}
use Rattle.std.proofs.lemmas.List.{length-replicate}
use Rattle.directory.specs.StateReading.Reading.{times}
use Rattle.directory.specs.StateReading.Parts.{at_rest, read_record}
use Rattle.directory.proofs.StateReading.Steps.{went_on, times_begun, times_went_on, times_refused, times_done}
use Rattle.directory.proofs.table.ItemTable.read.Goals as goal

pub loop-number-init : goal.loop-number-init
loop-number-init c =
    let n = length c.args.self.now in
    let rest : c.clear.new.self ≡ replicate n (at_rest c.args.top) = c.clear.ensures ∙ ap (replicate n) c.hold_at_rest.ensures in
    record {
      left = times_begun (read_record n c.args.children c.args.top) c.in_ok-count.count _ c.any_word.new.at (drop c.any_word.new.at c.args.words.now)
          ∙ ap (λ items. times (read_record n c.args.children c.args.top) (c.in_ok-count.count - 0) (record { last = None; items = items }) c.any_word.new.at (drop c.any_word.new.at c.args.words.now)) (sym rest);
      items = ap length rest ∙ length-replicate n (at_rest c.args.top);
      inside = c.any_word.ensures.inside;
    }

pub loop-number-preserved : goal.loop-number-preserved
loop-number-preserved c =
    let read = read_record (length c.args.self.now) c.args.children c.args.top in
    let one : read (record { last = c.loop-number.last; items = c.loop-number.self }) c.loop-number.at (drop c.loop-number.at c.args.words.now) ≡ _ =
    rw c.loop-number.invariant.items at c.in_ok-read_record.ensures.read in
    record {
      left = c.loop-number.invariant.left ∙ times_went_on read c.in_ok-count.count c.loop-number._number _ c.loop-number.at (drop c.loop-number.at c.args.words.now) _ _ _ (omega arith) one;
      items = c.in_ok-read_record.ensures.items ∙ c.loop-number.invariant.items;
      inside = c.in_ok-read_record.ensures.inside;
    }

pub returns-in_err-read_record-clause-refused : goal.returns-in_err-read_record-clause-refused
returns-in_err-read_record-clause-refused c =
    let e = c.in_err-read_record.field-0.0 in
    let is : c.from_residual-in_err-read_record.result ≡ Err e = search rules in
    let read = read_record (length c.args.self.now) c.args.children c.args.top in
    let one : read (record { last = c.loop-number.last; items = c.loop-number.self }) c.loop-number.at (drop c.loop-number.at c.args.words.now) ≡ Err e =
    rw c.loop-number.invariant.items at c.in_err-read_record.ensures.refused in
    rw is (went_on _ _ c.in_ok-count.count c.any_word.new.at (drop c.any_word.new.at c.args.words.now) c.in_ok-count.ensures.read
    ∙ c.loop-number.invariant.left ∙ times_refused read c.in_ok-count.count c.loop-number._number _ c.loop-number.at (drop c.loop-number.at c.args.words.now) e (omega arith) one)

pub returns-clause-read : goal.returns-clause-read
returns-clause-read c =
    went_on _ _ c.in_ok-count.count c.any_word.new.at (drop c.any_word.new.at c.args.words.now) c.in_ok-count.ensures.read
    ∙ c.loop-number.invariant.left
    ∙ times_done (read_record (length c.args.self.now) c.args.children c.args.top) c.in_ok-count.count c.loop-number._number _ c.loop-number.at (drop c.loop-number.at c.args.words.now) (omega arith)
