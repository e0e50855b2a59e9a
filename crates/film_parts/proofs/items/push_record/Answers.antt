use Rattle.film_parts.proofs.DirItems.{item_put, note_spelled, record_spelled}
use Rattle.film_parts.proofs.ListSteps.{first_word, next_words}
use Rattle.film_parts.proofs.items.push_record.Goals as goal

pub returns : goal.returns
returns c = λ x i rest is.
    let w1 = next_words c.take.ensures.left (record_spelled c.args.words.now rest x i is) in
    let w2 = next_words c.next-hold.ensures.left w1 in
    let w3 = next_words c.next-kind.ensures.left w2 in
    let w4 = next_words c.next-child.ensures.left w3 in
    let w5 = next_words c.next-joined.ensures.left w4 in
    record {
      added =
          item_put c.args.children i (c.in_ok-push_hold.ensures i.hold (first_word c.next-hold.ensures.word w1))
          (c.in_ok-push_note.ensures i.note (note_spelled i.note (first_word c.next-kind.ensures.word w2) (first_word c.next-child.ensures.word w3) (first_word c.next-joined.ensures.word w4)))
          (c.in_ok-push_answering.ensures i.answering (first_word c.next-flag.ensures.word w5));
      left = next_words c.next-flag.ensures.left w5;
    }
