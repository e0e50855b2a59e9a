-- What `locations` names, one piece more at a time.
use Rattle.std.proofs.Common.{◌≡◌, ℕ, ◌+◌, ◌<◌, ◌≤◌, List, [], ◌∷◌, ◌++◌, length, take, drop, get_or, refl, sym, ap, ◌∙◌, add-one, arith}
use Rattle.std.specs.Prelude.{true, false, codes, Some, None, Ok, Err}
use Rattle.std.specs.List.{position_or_len}
use Rattle.std.proofs.Math.Seq.{drop-nil}
use Rattle.std.proofs.lemmas.List.{append-nil, drop_all, drop_more}
use Rattle.litmus_model.specs.declared.parts.Token.{Token}
use Rattle.litmus_model.specs.declared.parts.Target.{Target}
use Rattle.litmus_model.specs.declared.refusal.Fault.TheVariants.{BadLocations}
use Rattle.litmus_model.specs.declared.refusal.TestRefusal.{TestRefusal}
use Rattle.litmus_model.specs.declared.refusal.TestRefusal.TheVariants.{InLine}
use Rattle.litmus_model.specs.Refusing.{and_then}
use Rattle.litmus_model.specs.Tokens.{Piece, is_mark, parts_of, pieces_at}
use Rattle.litmus_model.specs.Words.{target_of}
use Rattle.litmus_model.specs.Condition.{behind_locations, is_part_word, listed_targets, named_targets, observed_of, pieces_targets}
use Rattle.litmus_text.specs.declared.judged.Unread.{Unread}
use Rattle.litmus_text.specs.declared.judged.Unread.TheVariants.{Refused, NoMemory}
use Rattle.litmus_text.specs.Reads.{Adds, Reads, ReadsList, behind}
use Rattle.litmus_text.proofs.Judging.{behind_nothing, both_behind, refused_behind}
use Rattle.litmus_read.specs.Final.{listed_in, observed_from}

-- what is left of all tokens but the first
pub drop_later : (tokens : List Token) (n : ℕ) → drop n (drop 1 tokens) ≡ drop (n + 1) tokens
drop_later [] n = rw (add-one) (drop-nil n)
drop_later (t ∷ ts) n = rw (add-one) refl

-- ---- a piece

pub nothing_named : (threads : ℕ) (tokens : List Token) (old : List Target) → length tokens ≡ 0 → behind old (named_targets threads tokens) ≡ Ok old
unfolding named_targets behind and_then
nothing_named threads [] old none = ap (λ (ts : List Target). Ok ts) (append-nil old)
nothing_named threads (t ∷ ts) old none = absurd (omega (arith, none))

pub one_named : (threads : ℕ) (tokens : List Token) (d : Token) (target : Target) (old : List Target) → 0 < length tokens → target_of threads (get_or tokens 0 d).line (parts_of tokens) ≡ Ok (Some target)
    → behind old (named_targets threads tokens) ≡ Ok (old ++ target ∷ [])
unfolding named_targets behind and_then
one_named threads [] d target old some is = absurd (omega (arith, some))
one_named threads (t ∷ ts) d target old some is = rw is refl

pub no_target : (threads : ℕ) (tokens : List Token) (d : Token) → 0 < length tokens → target_of threads (get_or tokens 0 d).line (parts_of tokens) ≡ Ok None
    → named_targets threads tokens ≡ Err (InLine (get_or tokens 0 d).line BadLocations)
unfolding named_targets and_then
no_target threads [] d some is = absurd (omega (arith, some))
no_target threads (t ∷ ts) d some is = rw is refl

pub bad_named : (threads : ℕ) (tokens : List Token) (d : Token) (r : TestRefusal) → 0 < length tokens → target_of threads (get_or tokens 0 d).line (parts_of tokens) ≡ Err r
    → named_targets threads tokens ≡ Err r
unfolding named_targets and_then
bad_named threads [] d r some bad = absurd (omega (arith, some))
bad_named threads (t ∷ ts) d r some bad = rw bad refl

-- ---- pieces

pub pieces_begun : (threads : ℕ) (pieces : List Piece) → pieces_targets threads pieces ≡ behind [] (pieces_targets threads pieces)
pieces_begun threads pieces = behind_nothing (pieces_targets threads pieces)

pub pieces_next : (old new : List Target) (threads : ℕ) (pieces : List Piece) (k : ℕ) (d : Piece) → k < length pieces → behind old (named_targets threads (get_or pieces k d).tokens) ≡ Ok new
    → behind old (pieces_targets threads (drop k pieces)) ≡ behind new (pieces_targets threads (drop (k + 1) pieces))
unfolding pieces_targets behind
pieces_next old new threads pieces k d inside is =
    rw (drop_more pieces k d inside) (both_behind old new (named_targets threads (get_or pieces k d).tokens) (pieces_targets threads (drop (k + 1) pieces)) is)

pub pieces_done : (old : List Target) (threads : ℕ) (pieces : List Piece) (k : ℕ) → length pieces ≤ k → behind old (pieces_targets threads (drop k pieces)) ≡ Ok old
unfolding pieces_targets behind and_then
pieces_done old threads pieces k past = rw (drop_all k pieces past) (ap (λ (ts : List Target). Ok ts) (append-nil old))

piece_refused : (threads : ℕ) (pieces : List Piece) (k : ℕ) (d : Piece) (r : TestRefusal) → k < length pieces → named_targets threads (get_or pieces k d).tokens ≡ Err r
    → pieces_targets threads (drop k pieces) ≡ Err r
unfolding pieces_targets and_then
piece_refused threads pieces k d r inside bad = rw (drop_more pieces k d inside, bad) refl

pub pieces_fail : (old new : List Target) (threads : ℕ) (pieces : List Piece) (k : ℕ) (d : Piece) (e : Unread) → k < length pieces
    → pieces_targets threads pieces ≡ behind old (pieces_targets threads (drop k pieces)) → Adds (named_targets threads (get_or pieces k d).tokens) old new (Err e)
    → ReadsList (pieces_targets threads pieces) (Err e)
pieces_fail old new threads pieces k d (Refused r) inside whole fails =
    whole ∙ refused_behind old r (pieces_targets threads (drop k pieces)) (piece_refused threads pieces k d r inside fails)
pieces_fail old new threads pieces k d NoMemory inside whole fails = tt

-- ---- the list

pub open_list : (threads line : ℕ) (tokens : List Token) → position_or_len (is_mark 93) tokens ≡ length tokens → listed_in threads line tokens ≡ Err (InLine line BadLocations)
unfolding listed_in listed_targets
open_list threads line tokens none = rw (none, drop_all (length tokens) tokens (omega arith)) refl

pub closed_list : (threads line : ℕ) (tokens : List Token) (at : ℕ) (named : List Target) → position_or_len (is_mark 93) tokens ≡ at → at < length tokens
    → pieces_targets threads (pieces_at 59 line (take at tokens)) ≡ Ok named → listed_in threads line tokens ≡ Ok (record { named = named; condition = drop (at + 1) tokens })
unfolding listed_in listed_targets and_then
closed_list threads line [] at named here inside is = absurd (omega (arith, inside))
closed_list threads line (t ∷ ts) at named here inside is = rw (here, drop_more (t ∷ ts) at t inside, is) refl

pub bad_list : (threads line : ℕ) (tokens : List Token) (at : ℕ) (r : TestRefusal) → position_or_len (is_mark 93) tokens ≡ at → at < length tokens
    → pieces_targets threads (pieces_at 59 line (take at tokens)) ≡ Err r → listed_in threads line tokens ≡ Err r
unfolding listed_in listed_targets and_then
bad_list threads line [] at r here inside bad = absurd (omega (arith, inside))
bad_list threads line (t ∷ ts) at r here inside bad = rw (here, drop_more (t ∷ ts) at t inside, bad) refl

pub no_list : (threads line : ℕ) (tokens : List Token) → length tokens ≡ 0 → behind_locations threads line tokens ≡ Err (InLine line BadLocations)
unfolding behind_locations
no_list threads line [] none = refl
no_list threads line (t ∷ ts) none = absurd (omega (arith, none))

pub other_mark : (threads line : ℕ) (tokens : List Token) (d : Token) → 0 < length tokens → is_mark 91 (get_or tokens 0 d) ≡ false → behind_locations threads line tokens ≡ Err (InLine line BadLocations)
unfolding behind_locations
other_mark threads line [] d some other = absurd (omega (arith, some))
other_mark threads line (t ∷ ts) d some other = rw other refl

some_list : (threads line : ℕ) (tokens rest : List Token) (t : Token) → 0 < length tokens → t ≡ get_or tokens 0 t → rest ≡ drop 1 tokens → is_mark 91 t ≡ true
    → behind_locations threads line tokens ≡ listed_in threads line rest
unfolding behind_locations listed_in
some_list threads line [] rest t some is are bracket = absurd (omega (arith, some))
some_list threads line (u ∷ ts) rest t some is are bracket = let first : is_mark 91 u ≡ true = ap (is_mark 91) (sym is) ∙ bracket in rw (first, are) refl

pub list_read : (threads line : ℕ) (tokens rest : List Token) (t : Token) (named : List Target) (n : ℕ) → 0 < length tokens → t ≡ get_or tokens 0 t → rest ≡ drop 1 tokens → is_mark 91 t ≡ true
    → listed_in threads line rest ≡ Ok (record { named = named; condition = drop n rest }) → behind_locations threads line tokens ≡ Ok (record { named = named; condition = drop (n + 1) tokens })
list_read threads line tokens rest t named n some is are bracket read =
    some_list threads line tokens rest t some is are bracket
    ∙ read
    ∙ ap (λ (left : List Token). Ok (record { named = named; condition = left })) (ap (drop n) are ∙ drop_later tokens n)

pub list_fails : (threads line : ℕ) (tokens rest : List Token) (t : Token) (e : Unread) → 0 < length tokens → t ≡ get_or tokens 0 t → rest ≡ drop 1 tokens → is_mark 91 t ≡ true
    → Reads (observed_from rest) (listed_in threads line rest) (Err e) → Reads (observed_from tokens) (behind_locations threads line tokens) (Err e)
list_fails threads line tokens rest t (Refused r) some is are bracket fails = some_list threads line tokens rest t some is are bracket ∙ fails
list_fails threads line tokens rest t NoMemory some is are bracket fails = tt

pub pieces_bad : (threads line : ℕ) (tokens : List Token) (at : ℕ) (e : Unread) → position_or_len (is_mark 93) tokens ≡ at → at < length tokens
    → ReadsList (pieces_targets threads (pieces_at 59 line (take at tokens))) (Err e) → Reads (observed_from tokens) (listed_in threads line tokens) (Err e)
pieces_bad threads line tokens at (Refused r) here inside fails = bad_list threads line tokens at r here inside fails
pieces_bad threads line tokens at NoMemory here inside fails = tt

-- ---- all of it

pub nothing_observed : (threads : ℕ) (tokens : List Token) → length tokens ≡ 0 → observed_of threads tokens ≡ Ok (record { named = []; condition = drop 0 tokens })
unfolding observed_of
nothing_observed threads [] none = refl
nothing_observed threads (t ∷ ts) none = absurd (omega (arith, none))

pub other_observed : (threads : ℕ) (tokens : List Token) (d : Token) → 0 < length tokens → is_part_word (codes "locations") (get_or tokens 0 d).part ≡ false
    → observed_of threads tokens ≡ Ok (record { named = []; condition = drop 0 tokens })
unfolding observed_of
other_observed threads [] d some other = absurd (omega (arith, some))
other_observed threads (t ∷ ts) d some other = rw other refl

locations_observed : (threads : ℕ) (tokens rest : List Token) (t u : Token) → 0 < length tokens → t ≡ get_or tokens 0 t → rest ≡ drop 1 tokens → is_part_word (codes "locations") t.part ≡ true
    → observed_of threads tokens ≡ behind_locations threads (get_or tokens 0 u).line rest
unfolding observed_of
locations_observed threads [] rest t u some is are word = absurd (omega (arith, some))
locations_observed threads (w ∷ ts) rest t u some is are word =
    let first : is_part_word (codes "locations") w.part ≡ true = ap (λ (v : Token). is_part_word (codes "locations") v.part) (sym is) ∙ word in
    rw (first, are) refl

pub locations_read : (threads : ℕ) (tokens rest : List Token) (t u : Token) (named : List Target) (n : ℕ) → 0 < length tokens → t ≡ get_or tokens 0 t → rest ≡ drop 1 tokens
    → is_part_word (codes "locations") t.part ≡ true → behind_locations threads (get_or tokens 0 u).line rest ≡ Ok (record { named = named; condition = drop n rest })
    → observed_of threads tokens ≡ Ok (record { named = named; condition = drop (n + 1) tokens })
locations_read threads tokens rest t u named n some is are word read =
    locations_observed threads tokens rest t u some is are word
    ∙ read
    ∙ ap (λ (left : List Token). Ok (record { named = named; condition = left })) (ap (drop n) are ∙ drop_later tokens n)

pub locations_fail : (threads : ℕ) (tokens rest : List Token) (t u : Token) (e : Unread) → 0 < length tokens → t ≡ get_or tokens 0 t → rest ≡ drop 1 tokens
    → is_part_word (codes "locations") t.part ≡ true → Reads (observed_from rest) (behind_locations threads (get_or tokens 0 u).line rest) (Err e) → Reads (observed_from tokens) (observed_of threads tokens) (Err e)
locations_fail threads tokens rest t u (Refused r) some is are word fails = locations_observed threads tokens rest t u some is are word ∙ fails
locations_fail threads tokens rest t u NoMemory some is are word fails = tt

-- What one piece names.
pub ruleset piece_cases = (nothing_named, one_named, bad_named, no_target)

-- One piece after another.
pub ruleset piece_steps = (pieces_begun, pieces_next, pieces_done)
