use Rattle.std.proofs.Common.{◌≡◌, false, nat_eq, arith, refl, rules, Err}
use Rattle.std.proofs.lemmas.Bool.{ne_eqb}
use Rattle.directory.specs.StateReading.Parts.{read_dir}
use Rattle.directory.proofs.state.DirState.read_part.Goals as goal

pub returns-in_err-self-inside-clause-read : goal.returns-in_err-self-inside-clause-read
unfolding read_dir
returns-in_err-self-inside-clause-read g c =
    let is : c.from_residual.result ≡ Err c.in_err-self-inside.field-0.0 = search rules in
    rw (is, ← c.self.view_is, c.in_err-self-inside.ensures.read) refl

pub returns-in_err-self-inside-2-clause-read : goal.returns-in_err-self-inside-2-clause-read
unfolding read_dir
returns-in_err-self-inside-2-clause-read g c =
    let is : c.from_residual-in_err-self-inside-2.result ≡ Err c.in_err-self-inside-2.field-0.0 = search rules in
    rw (is, ← c.self.view_is, c.in_ok-self-inside.ensures.read, c.in_err-self-inside-2.ensures.read) refl

pub returns-in_err-read-clause-read : goal.returns-in_err-read-clause-read
unfolding read_dir
returns-in_err-read-clause-read g c =
    let is : c.from_residual-in_err-read.result ≡ Err c.in_err-read.field-0.0 = search rules in
    let low : nat_eq c.self.inside.level 0 ≡ false = ne_eqb c.self.inside.level 0 (λ same. absurd (omega (arith, same, c.self.invariant.below_top))) in
    rw (is, ← c.self.view_is, c.in_ok-self-inside.ensures.read, c.in_ok-self-inside-2.ensures.read, low, c.in_err-read.ensures.refused) refl

pub returns-in_err-read_entries-clause-read : goal.returns-in_err-read_entries-clause-read
unfolding read_dir
returns-in_err-read_entries-clause-read g c =
    let is : c.from_residual-in_err-read_entries.result ≡ Err c.in_err-read_entries.field-0.0 = search rules in
    let low : nat_eq c.self.inside.level 0 ≡ false = ne_eqb c.self.inside.level 0 (λ same. absurd (omega (arith, same, c.self.invariant.below_top))) in
    rw (is, ← c.self.view_is, c.in_ok-self-inside.ensures.read, c.in_ok-self-inside-2.ensures.read, low, c.in_ok-read.ensures.read, (rw c.self.invariant.down at c.in_err-read_entries.ensures.refused)) refl

pub returns-in_err-read_requests-clause-read : goal.returns-in_err-read_requests-clause-read
unfolding read_dir
returns-in_err-read_requests-clause-read g c =
    let is : c.from_residual-in_err-read_requests.result ≡ Err c.in_err-read_requests.field-0.0 = search rules in
    let low : nat_eq c.self.inside.level 0 ≡ false = ne_eqb c.self.inside.level 0 (λ same. absurd (omega (arith, same, c.self.invariant.below_top))) in
    rw (is, ← c.self.view_is, c.in_ok-self-inside.ensures.read, c.in_ok-self-inside-2.ensures.read, low, c.in_ok-read.ensures.read, (rw c.self.invariant.down at c.in_ok-read_entries.ensures.read), (rw c.self.invariant.requests at c.in_err-read_requests.ensures.refused)) refl

pub returns-in_err-read_copies-clause-read : goal.returns-in_err-read_copies-clause-read
unfolding read_dir
returns-in_err-read_copies-clause-read g c =
    let is : c.from_residual-in_err-read_copies.result ≡ Err c.in_err-read_copies.field-0.0 = search rules in
    let low : nat_eq c.self.inside.level 0 ≡ false = ne_eqb c.self.inside.level 0 (λ same. absurd (omega (arith, same, c.self.invariant.below_top))) in
    rw (is, ← c.self.view_is, c.in_ok-self-inside.ensures.read, c.in_ok-self-inside-2.ensures.read, low, c.in_ok-read.ensures.read, (rw c.self.invariant.down at c.in_ok-read_entries.ensures.read), (rw c.self.invariant.requests at c.in_ok-read_requests.ensures.read), (rw c.self.invariant.replies at c.in_err-read_copies.ensures.refused)) refl

pub returns-in_err-read-2-clause-read : goal.returns-in_err-read-2-clause-read
unfolding read_dir
returns-in_err-read-2-clause-read g c =
    let is : c.from_residual-in_err-read-2.result ≡ Err c.in_err-read-2.field-0.0 = search rules in
    let low : nat_eq c.self.inside.level 0 ≡ false = ne_eqb c.self.inside.level 0 (λ same. absurd (omega (arith, same, c.self.invariant.below_top))) in
    rw (is, ← c.self.view_is, c.in_ok-self-inside.ensures.read, c.in_ok-self-inside-2.ensures.read, low, c.in_ok-read.ensures.read, (rw c.self.invariant.down at c.in_ok-read_entries.ensures.read), (rw c.self.invariant.requests at c.in_ok-read_requests.ensures.read), (rw c.self.invariant.replies at c.in_ok-read_copies.ensures.read), (rw c.len-items.ensures at c.in_err-read-2.ensures.refused)) refl

pub returns-in_err-reserved-clause-read : goal.returns-in_err-reserved-clause-read
unfolding read_dir
returns-in_err-reserved-clause-read g c =
    let is : c.from_residual-in_err-reserved.result ≡ Err c.in_err-reserved.field-0.0 = search rules in
    let low : nat_eq c.self.inside.level 0 ≡ false = ne_eqb c.self.inside.level 0 (λ same. absurd (omega (arith, same, c.self.invariant.below_top))) in
    rw (is, ← c.self.view_is, c.in_ok-self-inside.ensures.read, c.in_ok-self-inside-2.ensures.read, low, c.in_ok-read.ensures.read, (rw c.self.invariant.down at c.in_ok-read_entries.ensures.read), (rw c.self.invariant.requests at c.in_ok-read_requests.ensures.read), (rw c.self.invariant.replies at c.in_ok-read_copies.ensures.read), (rw c.len-items.ensures at c.in_ok-read-2.ensures.read), (rw (c.room.ensures, c.read-2.ensures.capacity) at c.in_err-reserved.ensures.read)) refl

pub returns-clause-read : goal.returns-clause-read
unfolding read_dir
returns-clause-read g c =
    let low : nat_eq c.self.inside.level 0 ≡ false = ne_eqb c.self.inside.level 0 (λ same. absurd (omega (arith, same, c.self.invariant.below_top))) in
    rw (c.keep.ensures, c.in_ok-read_entries.ensures.capacity, c.in_ok-read_requests.ensures.capacity, c.in_ok-read_copies.ensures.capacity, c.in_ok-read-2.ensures.capacity, ← c.self.view_is, c.in_ok-self-inside.ensures.read, c.in_ok-self-inside-2.ensures.read, low, c.in_ok-read.ensures.read, (rw c.self.invariant.down at c.in_ok-read_entries.ensures.read), (rw c.self.invariant.requests at c.in_ok-read_requests.ensures.read), (rw c.self.invariant.replies at c.in_ok-read_copies.ensures.read), (rw c.len-items.ensures at c.in_ok-read-2.ensures.read), (rw (c.room.ensures, c.read-2.ensures.capacity) at c.in_ok-reserved.ensures.read)) refl
