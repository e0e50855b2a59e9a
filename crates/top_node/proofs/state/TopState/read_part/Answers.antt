use Rattle.std.proofs.Common.{◌≡◌, ◌&&◌, not, nat_lt, length, arith, refl, rules, Err}
use Rattle.std.specs.List.{list_any}
use Rattle.top_node.specs.TreeModel.State.Leaf.{is_copy}
use Rattle.top_node.specs.StateReading.Parts.{read_copy, read_dir, read_request}
use Rattle.top_node.proofs.NoEntries.{no_entries, entries_refused}
use Rattle.top_node.proofs.state.TopState.read_part.Goals as goal

pub returns-in_err-self-inside-clause-read : goal.returns-in_err-self-inside-clause-read
unfolding read_dir
returns-in_err-self-inside-clause-read g c =
    let is : c.from_residual.result ≡ Err c.in_err-self-inside.field-0.0 = search rules in
    rw (is, c.in_err-self-inside.ensures.read) refl

pub returns-in_err-stamp_words-clause-read : goal.returns-in_err-stamp_words-clause-read
unfolding read_dir
returns-in_err-stamp_words-clause-read g c =
    let is : c.from_residual-in_err-stamp_words.result ≡ Err c.in_err-stamp_words.field-0.0 = search rules in
    rw (is, ← c.self.view_is, c.in_ok-self-inside.ensures.read, c.in_err-stamp_words.ensures.read) refl

pub returns-in_err-read-clause-read : goal.returns-in_err-read-clause-read
unfolding read_dir
returns-in_err-read-clause-read g c =
    let is : c.from_residual-in_err-read.result ≡ Err c.in_err-read.field-0.0 = search rules in
    rw (is, ← c.self.view_is, c.in_ok-self-inside.ensures.read, c.in_ok-stamp_words.ensures.read, c.in_err-read.ensures.refused) refl

pub returns-in_err-read_entries-clause-read : goal.returns-in_err-read_entries-clause-read
unfolding read_dir
returns-in_err-read_entries-clause-read g c =
    let is : c.from_residual-in_err-read_entries.result ≡ Err c.in_err-read_entries.field-0.0 = search rules in
    rw (is, ← c.self.view_is, c.in_ok-self-inside.ensures.read, c.in_ok-stamp_words.ensures.read, c.in_ok-read.ensures.read, (rw c.self.invariant.down at c.in_err-read_entries.ensures.refused)) refl

pub returns-in_err-_requests-clause-read : goal.returns-in_err-_requests-clause-read
unfolding read_dir
returns-in_err-_requests-clause-read g c =
    let is : c.from_residual-in_err-_requests.result ≡ Err c.in_err-_requests.field-0.0 = search rules in
    rw (is, ← c.self.view_is, c.in_ok-self-inside.ensures.read, c.in_ok-stamp_words.ensures.read, c.in_ok-read.ensures.read, (rw c.self.invariant.down at c.in_ok-read_entries.ensures.read), entries_refused (read_request (length c.self.inside.kept)) _ _ _ c.in_err-_requests.ensures.read) refl

pub returns-in_err-_replies-clause-read : goal.returns-in_err-_replies-clause-read
unfolding read_dir
returns-in_err-_replies-clause-read g c =
    let is : c.from_residual-in_err-_replies.result ≡ Err c.in_err-_replies.field-0.0 = search rules in
    rw (is, ← c.self.view_is, c.in_ok-self-inside.ensures.read, c.in_ok-stamp_words.ensures.read, c.in_ok-read.ensures.read, (rw c.self.invariant.down at c.in_ok-read_entries.ensures.read), no_entries (read_request (length c.self.inside.kept)) _ _ _ _ _ c.in_ok-_requests.ensures.most c.in_ok-_requests.ensures.read, entries_refused (read_copy g.row.WORDS (λ x cs. nat_lt x (length c.self.inside.kept))) _ _ _ c.in_err-_replies.ensures.read) refl

pub returns-in_err-_parked-clause-read : goal.returns-in_err-_parked-clause-read
unfolding read_dir
returns-in_err-_parked-clause-read g c =
    let is : c.from_residual-in_err-_parked.result ≡ Err c.in_err-_parked.field-0.0 = search rules in
    rw (is, ← c.self.view_is, c.in_ok-self-inside.ensures.read, c.in_ok-stamp_words.ensures.read, c.in_ok-read.ensures.read, (rw c.self.invariant.down at c.in_ok-read_entries.ensures.read), no_entries (read_request (length c.self.inside.kept)) _ _ _ _ _ c.in_ok-_requests.ensures.most c.in_ok-_requests.ensures.read, no_entries (read_copy g.row.WORDS (λ x cs. nat_lt x (length c.self.inside.kept))) _ _ _ _ _ c.in_ok-_replies.ensures.most c.in_ok-_replies.ensures.read, entries_refused (read_copy g.row.WORDS (λ x cs. nat_lt x (length c.self.inside.kept) && not (list_any (is_copy x) cs))) _ _ _ c.in_err-_parked.ensures.read) refl

pub returns-in_err-_reserved-clause-read : goal.returns-in_err-_reserved-clause-read
unfolding read_dir
returns-in_err-_reserved-clause-read g c =
    let is : c.from_residual-in_err-_reserved.result ≡ Err c.in_err-_reserved.field-0.0 = search rules in
    rw (is, ← c.self.view_is, c.in_ok-self-inside.ensures.read, c.in_ok-stamp_words.ensures.read, c.in_ok-read.ensures.read, (rw c.self.invariant.down at c.in_ok-read_entries.ensures.read), no_entries (read_request (length c.self.inside.kept)) _ _ _ _ _ c.in_ok-_requests.ensures.most c.in_ok-_requests.ensures.read, no_entries (read_copy g.row.WORDS (λ x cs. nat_lt x (length c.self.inside.kept))) _ _ _ _ _ c.in_ok-_replies.ensures.most c.in_ok-_replies.ensures.read, no_entries (read_copy g.row.WORDS (λ x cs. nat_lt x (length c.self.inside.kept) && not (list_any (is_copy x) cs))) _ _ _ _ _ c.in_ok-_parked.ensures.most c.in_ok-_parked.ensures.read, c.in_err-_reserved.ensures.read) refl

pub returns-clause-read : goal.returns-clause-read
unfolding read_dir
returns-clause-read g c =
    let none : c.in_ok-_reserved._reserved ≡ 0 = omega (arith, c.in_ok-_reserved.ensures.most) in
    rw (c.in_ok-read_entries.ensures.capacity, ← c.self.view_is, c.in_ok-self-inside.ensures.read, c.in_ok-stamp_words.ensures.read, c.in_ok-read.ensures.read, (rw c.self.invariant.down at c.in_ok-read_entries.ensures.read), no_entries (read_request (length c.self.inside.kept)) _ _ _ _ _ c.in_ok-_requests.ensures.most c.in_ok-_requests.ensures.read, no_entries (read_copy g.row.WORDS (λ x cs. nat_lt x (length c.self.inside.kept))) _ _ _ _ _ c.in_ok-_replies.ensures.most c.in_ok-_replies.ensures.read, no_entries (read_copy g.row.WORDS (λ x cs. nat_lt x (length c.self.inside.kept) && not (list_any (is_copy x) cs))) _ _ _ _ _ c.in_ok-_parked.ensures.most c.in_ok-_parked.ensures.read, c.in_ok-_reserved.ensures.read, none, c.in_ok-stamp_words.ensures.zero refl) refl
