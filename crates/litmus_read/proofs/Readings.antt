-- A proposition, one operator or part more at a time.
use Rattle.std.proofs.Common.{◌≡◌, ℕ, ◌+◌, ◌<◌, List, [], ◌∷◌, ◌++◌, length, drop, get_or, refl, sym, ap, ◌∙◌, append_assoc, arith}
use Rattle.std.specs.Prelude.{true, false, not, ◌||◌, nat_eq, Some, None, Ok, Err}
use Rattle.std.proofs.lemmas.List.{append-nil}
use Rattle.litmus_model.specs.declared.parts.Part.{Part}
use Rattle.litmus_model.specs.declared.parts.Token.{Token}
use Rattle.litmus_model.specs.declared.parts.Chunk.{Chunk}
use Rattle.litmus_model.specs.declared.parts.Standing.{Standing}
use Rattle.litmus_model.specs.declared.refusal.Fault.TheVariants.{BadCondition}
use Rattle.litmus_model.specs.declared.refusal.TestRefusal.{TestRefusal}
use Rattle.litmus_model.specs.declared.refusal.TestRefusal.TheVariants.{InLine}
use Rattle.litmus_model.specs.Refusing.{Judged, ◌>>=◌, and_then}
use Rattle.litmus_model.specs.Condition.{RawChunk, operator, atom, after_operator, atom_of, chunks_from, chunks_of, operator_of, operator_of_two, proposition_from, standing, with_atom}
use Rattle.litmus_text.specs.declared.judged.Unread.{Unread}
use Rattle.litmus_text.specs.declared.judged.Unread.TheVariants.{Refused, NoMemory}
use Rattle.litmus_text.specs.Reads.{Adds, ReadsList, behind}
use Rattle.litmus_text.proofs.Judging.{behind_nothing, behind_one, refused_behind}
use Rattle.litmus_read.specs.Reading.{Leads, Takes, atom_chunks, begins_with_atom, begun, two_in, with_row}

-- ---- parts of an atom

part_begins : (t : Token) (line : ℕ) (cs : List RawChunk) → with_row line [] (with_atom t cs) ≡ with_row t.line (t.part ∷ []) cs
unfolding with_row with_atom
part_begins t line [] = refl
part_begins t line (operator l c ∷ cs) = refl
part_begins t line (atom l qs ∷ cs) = refl

pub part_added : (t : Token) (line : ℕ) (row : List Part) (cs : List RawChunk) → with_row line row (with_atom t cs) ≡ with_row (begun line row t) (row ++ t.part ∷ []) cs
unfolding with_row with_atom
part_added t line [] cs = part_begins t line cs
part_added t line (p ∷ ps) [] = refl
part_added t line (p ∷ ps) (operator l c ∷ cs) = refl
part_added t line (p ∷ ps) (atom l qs ∷ cs) = ap (λ (parts : List Part). atom line (p ∷ parts) ∷ cs) (sym (append_assoc ps (t.part ∷ []) qs))

row_is : (line : ℕ) (row : List Part) (cs : List RawChunk) → 0 < length row → begins_with_atom cs ≡ false → with_row line row cs ≡ atom line row ∷ cs
unfolding with_row
row_is line [] cs some plain = absurd (omega (arith, some))
row_is line (p ∷ ps) [] some plain = refl
row_is line (p ∷ ps) (operator l c ∷ cs) some plain = refl
row_is line (p ∷ ps) (atom l qs ∷ cs) some plain = absurd (cc)

-- ---- an atom's end

both_added : (old new : List Chunk) (j : Judged Chunk) (m : Judged (List Chunk)) → behind old (j >>= (λ c. Ok (c ∷ []))) ≡ Ok new → behind old (j >>= (λ c. m >>= (λ others. Ok (c ∷ others)))) ≡ behind new m
unfolding behind and_then
both_added old new (Ok c) m added = let same : old ++ c ∷ [] ≡ new = cc in rw (← same) (behind_one old c m)
both_added old new (Err r) m added = absurd (cc)

pub atom_ends : (threads end line : ℕ) (old new : List Chunk) (s : Standing) (row left : List Part) (cs : List RawChunk)
    → 0 < length row → begins_with_atom cs ≡ false → s.wants ≡ true → left ≡ [] → behind old (atom_chunks threads line row) ≡ Ok new
    → behind old (proposition_from threads end s (with_row line row cs)) ≡ behind new (proposition_from threads end (standing s.brackets false) (with_row line left cs))
unfolding proposition_from atom_chunks with_row
atom_ends threads end line old new s row left cs some plain wants none added =
    rw none (ap (λ (rs : List RawChunk). behind old (proposition_from threads end s rs)) (row_is line row cs some plain)
    ∙ rw wants (both_added old new (atom_of threads line row) (proposition_from threads end (standing s.brackets false) cs) added))

pub atom_unwanted : (threads end line : ℕ) (old : List Chunk) (s : Standing) (row : List Part) (cs : List RawChunk)
    → 0 < length row → begins_with_atom cs ≡ false → s.wants ≡ false
    → behind old (proposition_from threads end s (with_row line row cs)) ≡ Err (InLine line BadCondition)
unfolding proposition_from and_then behind
atom_unwanted threads end line old s row cs some plain unwanted = rw (row_is line row cs some plain, unwanted) refl

first_refused : (r : TestRefusal) (j : Judged Chunk) (m : Judged (List Chunk)) → j >>= (λ c. Ok (c ∷ [])) ≡ Err r → j >>= (λ c. m >>= (λ others. Ok (c ∷ others))) ≡ Err r
unfolding and_then
first_refused r (Ok c) m bad = absurd (cc)
first_refused r (Err q) m bad = bad

pub atom_refused : (threads end line : ℕ) (old : List Chunk) (s : Standing) (row : List Part) (cs : List RawChunk) (r : TestRefusal)
    → 0 < length row → begins_with_atom cs ≡ false → s.wants ≡ true → atom_chunks threads line row ≡ Err r
    → behind old (proposition_from threads end s (with_row line row cs)) ≡ Err r
unfolding proposition_from atom_chunks
atom_refused threads end line old s row cs r some plain wants bad =
    rw (row_is line row cs some plain, wants)
    (refused_behind old r (atom_of threads line row >>= (λ c. proposition_from threads end (standing s.brackets false) cs >>= (λ others. Ok (c ∷ others))))
    (first_refused r (atom_of threads line row) (proposition_from threads end (standing s.brackets false) cs) bad))

pub atom_fails : (threads end line : ℕ) (old new : List Chunk) (s : Standing) (row : List Part) (cs : List RawChunk) (next : Judged (List Chunk)) (e : Unread)
    → 0 < length row → begins_with_atom cs ≡ false → s.wants ≡ true → Adds (atom_chunks threads line row) old new (Err e)
    → Leads (behind old (proposition_from threads end s (with_row line row cs))) next (Err e)
atom_fails threads end line old new s row cs next (Refused r) some plain wants fails = atom_refused threads end line old s row cs r some plain wants fails
atom_fails threads end line old new s row cs next NoMemory some plain wants fails = tt

-- ---- operators

pub operator_next : (threads end line begun : ℕ) (old : List Chunk) (s next : Standing) (row : List Part) (op : Chunk) (cs : List RawChunk) → row ≡ [] → after_operator op s ≡ Some next
    → behind old (proposition_from threads end s (with_row begun row (operator line op ∷ cs))) ≡ behind (old ++ op ∷ []) (proposition_from threads end next (with_row begun row cs))
unfolding proposition_from with_row
operator_next threads end line begun old s next row op cs none is = rw (none, is) (behind_one old op (proposition_from threads end next cs))

pub operator_bad : (threads end line begun : ℕ) (old : List Chunk) (s : Standing) (row : List Part) (op : Chunk) (cs : List RawChunk) → row ≡ [] → after_operator op s ≡ None
    → behind old (proposition_from threads end s (with_row begun row (operator line op ∷ cs))) ≡ Err (InLine line BadCondition)
unfolding proposition_from with_row behind and_then
operator_bad threads end line begun old s row op cs none is = rw (none, is) refl

pub leads_fail : {A : Type 0} (old mid new : Judged A) (e : Unread) → Leads old mid (Err e) → Leads old new (Err e)
leads_fail old mid new (Refused r) leads = leads
leads_fail old mid new NoMemory leads = tt

pub two_taken : (tokens : List Token) (d : Token) (op : Chunk) → two_in tokens ≡ Some op → chunks_of tokens ≡ operator (get_or tokens 0 d).line op ∷ chunks_of (drop 2 tokens)
unfolding two_in operator_of_two chunks_from
two_taken [] d op is = absurd (cc)
two_taken (t ∷ []) d op is = absurd (cc)
two_taken (t ∷ u ∷ ts) d op is = rw is refl

pub two_taken_by : (tokens : List Token) (t : Token) (op : Chunk) → t ≡ get_or tokens 0 t → two_in tokens ≡ Some op → chunks_of tokens ≡ operator t.line op ∷ chunks_of (drop 2 tokens)
two_taken_by tokens t op first is = two_taken tokens t op is ∙ ap (λ (u : Token). operator u.line op ∷ chunks_of (drop 2 tokens)) (sym first)

pub one_taken : (tokens : List Token) (d : Token) (op : Chunk) → 0 < length tokens → two_in tokens ≡ None → operator_of (get_or tokens 0 d).part ≡ Some op
    → chunks_of tokens ≡ operator (get_or tokens 0 d).line op ∷ chunks_of (drop 1 tokens)
unfolding two_in chunks_from
one_taken [] d op some none is = absurd (omega (arith, some))
one_taken (t ∷ ts) d op some none is = rw (none, is) refl

pub one_taken_by : (tokens : List Token) (t : Token) (op : Chunk) → t ≡ get_or tokens 0 t → 0 < length tokens → two_in tokens ≡ None → operator_of t.part ≡ Some op
    → chunks_of tokens ≡ operator t.line op ∷ chunks_of (drop 1 tokens)
one_taken_by tokens t op first some none is =
    one_taken tokens t op some none (ap (λ (u : Token). operator_of u.part) (sym first) ∙ is)
    ∙ ap (λ (u : Token). operator u.line op ∷ chunks_of (drop 1 tokens)) (sym first)

pub part_taken : (tokens : List Token) (d : Token) → 0 < length tokens → two_in tokens ≡ None → operator_of (get_or tokens 0 d).part ≡ None
    → chunks_of tokens ≡ with_atom (get_or tokens 0 d) (chunks_of (drop 1 tokens))
unfolding two_in chunks_from
part_taken [] d some none is = absurd (omega (arith, some))
part_taken (t ∷ ts) d some none is = rw (none, is) refl

-- ---- the end

pub nothing_more : (threads end begun : ℕ) (old : List Chunk) (s : Standing) (row : List Part) → row ≡ [] → (s.wants || not (nat_eq s.brackets 0)) ≡ false
    → behind old (proposition_from threads end s (with_row begun row [])) ≡ Ok old
unfolding proposition_from with_row behind and_then
nothing_more threads end begun old s row none closed = rw (none, closed) (ap (λ (cs : List Chunk). Ok cs) (append-nil old))

pub breaks_off : (threads end begun : ℕ) (old : List Chunk) (s : Standing) (row : List Part) → row ≡ [] → (s.wants || not (nat_eq s.brackets 0)) ≡ true
    → behind old (proposition_from threads end s (with_row begun row [])) ≡ Err (InLine end BadCondition)
unfolding proposition_from with_row behind and_then
breaks_off threads end begun old s row none unfinished = rw (none, unfinished) refl

pub none_left : (tokens : List Token) → length tokens ≡ 0 → chunks_of tokens ≡ []
unfolding chunks_from
none_left [] none = refl
none_left (t ∷ ts) none = absurd (omega (arith, none))

pub reading_begun : (threads end : ℕ) (cs : List RawChunk) (old : List Chunk) (row : List Part) → old ≡ [] → row ≡ []
    → proposition_from threads end (standing 0 true) cs ≡ behind old (proposition_from threads end (standing 0 true) (with_row 0 row cs))
unfolding with_row
reading_begun threads end cs old row nothing none = rw (nothing, none) (behind_nothing (proposition_from threads end (standing 0 true) cs))

-- ---- refusals

pub takes_fail : {A : Type 0} (first old mid : Judged A) (new : ℕ → Judged A) (e : Unread) → first ≡ old → Leads old mid (Err e) → Takes first new (Err e)
takes_fail first old mid new (Refused r) is leads = is ∙ leads
takes_fail first old mid new NoMemory is leads = tt

pub whole_fails : {A : Type 0} (whole old new : Judged (List A)) (e : Unread) → whole ≡ old → Leads old new (Err e) → ReadsList whole (Err e)
whole_fails whole old new (Refused r) is leads = is ∙ leads
whole_fails whole old new NoMemory is leads = tt

pub reading_fails : {A : Type 0} (whole old : Judged (List A)) (new : ℕ → Judged (List A)) (e : Unread) → whole ≡ old → Takes old new (Err e) → ReadsList whole (Err e)
reading_fails whole old new (Refused r) is takes = is ∙ takes
reading_fails whole old new NoMemory is takes = tt
