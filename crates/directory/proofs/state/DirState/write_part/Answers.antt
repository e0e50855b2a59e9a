use Rattle.std.proofs.Common.{◌≡◌, false, nat_eq, arith}
use Rattle.std.proofs.lemmas.Bool.{ne_eqb}
use Rattle.directory.specs.DdmText.Adds.{◌▸◌}
use Rattle.directory.specs.StateWords.Parts.{dir_words, item_and_words, request_words}
use Rattle.directory.proofs.StateWords.Mapped.{counted-map}
use Rattle.directory.specs.DirParts.{request_of, copy_of}
use Rattle.directory.proofs.state.DirState.write_part.Goals as goal

pub returns-clause-ok : goal.returns-clause-ok
unfolding dir_words
returns-clause-ok g c =
    let below : nat_eq c.self.inside.level 0 ≡ false = ne_eqb c.self.inside.level 0 (λ same. absurd (omega (arith, same, c.self.invariant.below_top))) in
    let epoch = rw c.stamp_words.ensures at c.in_ok-push_words-2.ensures.ok in
    let reserved = rw c.reserved.ensures at c.in_ok-push_words-3.ensures.ok in
    rw (← c.self.view_is, below, counted-map request_words request_of c.self.inside.requests.list, counted-map item_and_words copy_of c.self.inside.replies.list) (c.in_ok-push_words.ensures.ok ▸ epoch ▸ c.in_ok-write.ensures.ok ▸ c.in_ok-write-2.ensures.ok ▸ c.in_ok-write-3.ensures.ok ▸ c.in_ok-write-4.ensures.ok ▸ c.in_ok-write-5.ensures.ok ▸ reserved)
