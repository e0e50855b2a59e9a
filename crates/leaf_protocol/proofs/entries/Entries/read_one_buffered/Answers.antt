use Rattle.std.proofs.Common.{◌∙◌, ◌++◌, ◌∷◌, [], drop, length, ap}
use Rattle.leaf_protocol.specs.TreeModel.State.Values.{BufferValue}
use Rattle.leaf_protocol.specs.StateReading.Reading.{and_then, given}
use Rattle.leaf_protocol.proofs.Together.{on-true, one-buffered}
use Rattle.leaf_protocol.proofs.ReadBack.{buffered-read}
use Rattle.leaf_protocol.proofs.entries.Entries.read_one_buffered.Goals as goal

pub returns-clause-read : goal.returns-clause-read
returns-clause-read g c =
    let b : BufferValue = record { item = c.in_ok-item.item; state = c.in_ok-item.state; words = c.in_ok-item.read } in
    λ ss bs there. record {
      entries = bs ++ b ∷ [];
      is = buffered-read (length c.args.self.now.ways) g.row.WAYS g.row.WORDS c.args.self.now.sets bs c.args.at.now (drop c.args.at.now c.args.words.now) ∙ ap (λ r. and_then r (λ b k ws. given (bs ++ b ∷ []) k ws)) c.in_ok-item.ensures.read;
      there = one-buffered there c.put_beside.new.self c.put_beside.ensures.sizes.sets b c.in_ok-item.ensures.item c.put_beside.result c.put_beside.ensures.value (λ h. c.put_beside.ensures.ways) (on-true _ c.put_beside.ensures.buffer);
    }
