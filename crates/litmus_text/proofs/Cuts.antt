-- Where a text is cut into sections.
use Rattle.std.proofs.Common.{◌≡◌, ℕ, suc, ◌+◌, ◌<◌, List, [], ◌∷◌, length, take, drop, get_or, refl, sym, ap, ◌∙◌, arith}
use Rattle.std.specs.Prelude.{Bool, true, false, Ok, Err, nat_eq, if◌then◌else◌}
use Rattle.std.specs.List.{position_or_len}
use Rattle.std.proofs.lemmas.List.{drop_all, drop_more}
use Rattle.litmus_model.specs.declared.parts.Commented.{Commented}
use Rattle.litmus_model.specs.declared.parts.Token.{Token}
use Rattle.litmus_model.specs.declared.refusal.Fault.TheVariants.{OpenComment, NoCondition, OpenInit, NoInit}
use Rattle.litmus_model.specs.declared.refusal.TestRefusal.{TestRefusal}
use Rattle.litmus_model.specs.declared.refusal.TestRefusal.TheVariants.{InLine}
use Rattle.litmus_model.specs.Refusing.{Judged, ◌>>=◌, and_then}
use Rattle.litmus_model.specs.Comments.{behind_byte, shown, uncommented, without_comments}
use Rattle.litmus_model.specs.Tokens.{is_mark, tokens_of}
use Rattle.litmus_text.specs.declared.judged.Unread.{Unread}
use Rattle.litmus_text.specs.declared.judged.Unread.TheVariants.{Refused, NoMemory}
use Rattle.litmus_text.specs.Kept.{sections_from}
use Rattle.litmus_text.specs.Reads.{Reads, ReadsList}
use Rattle.litmus_model.specs.Sections.{behind_header, behind_init, head_words, is_final, line_feeds, name_of, sections_in, sections_of, with_final, with_init}

-- ---- the final section

pub no_final : (name : List ℕ) (init : List Token) (closing end : ℕ) (tokens : List Token) → position_or_len is_final tokens ≡ length tokens
    → behind_init name init closing end tokens ≡ Err (InLine end NoCondition)
unfolding with_final
no_final name init closing end tokens none = rw (none, drop_all (length tokens) tokens (omega arith)) refl

pub some_final : (name : List ℕ) (init : List Token) (closing end : ℕ) (tokens : List Token) (at : ℕ) (d : Token) → position_or_len is_final tokens ≡ at → at < length tokens
    → behind_init name init closing end tokens ≡ Ok (record { name = name; init = init; closing = closing; program = take at tokens; condition_line = (get_or tokens at d).line; final = drop at tokens; end = end })
unfolding with_final
some_final name init closing end tokens at d here inside = rw (here, drop_more tokens at d inside) refl

-- ---- the initial state

pub open_init : (name : List ℕ) (begun end : ℕ) (tokens : List Token) → position_or_len (is_mark 125) tokens ≡ length tokens → sections_in name begun end tokens ≡ Err (InLine begun OpenInit)
unfolding with_init
open_init name begun end tokens none = rw (none, drop_all (length tokens) tokens (omega arith)) refl

pub closed_init : (name : List ℕ) (begun end : ℕ) (tokens : List Token) (at : ℕ) (d : Token) → position_or_len (is_mark 125) tokens ≡ at → at < length tokens
    → sections_in name begun end tokens ≡ behind_init name (take at tokens) (get_or tokens at d).line end (drop (at + 1) tokens)
unfolding with_init
closed_init name begun end tokens at d here inside = rw (here, drop_more tokens at d inside) refl

-- ---- the header

pub no_brace : (name : List ℕ) (begun end : ℕ) (text : List ℕ) → length text ≡ 0 → behind_header name begun end text ≡ Err (InLine end NoInit)
unfolding behind_header
no_brace name begun end [] none = refl
no_brace name begun end (b ∷ bs) none = absurd (omega (arith, none))

pub some_brace : (name : List ℕ) (begun end : ℕ) (text : List ℕ) (tokens : List Token) → (length text ≡ 0 → ⊥) → tokens_of begun (drop 1 text) ≡ Ok tokens
    → behind_header name begun end text ≡ sections_in name begun end tokens
unfolding behind_header and_then
some_brace name begun end [] tokens some are = absurd (some refl)
some_brace name begun end (b ∷ bs) tokens some are = rw are refl

pub bad_tokens : (name : List ℕ) (begun end : ℕ) (text : List ℕ) (r : TestRefusal) → (length text ≡ 0 → ⊥) → tokens_of begun (drop 1 text) ≡ Err r
    → behind_header name begun end text ≡ Err r
unfolding behind_header and_then
bad_tokens name begun end [] r some bad = absurd (some refl)
bad_tokens name begun end (b ∷ bs) r some bad = rw bad refl

pub good_header : (text : List ℕ) (at : ℕ) (name : List ℕ) → position_or_len (λ b. nat_eq b 123) text ≡ at → name_of (1 + line_feeds (take at text)) (head_words 1 [] (take at text)) ≡ Ok name
    → sections_of text ≡ behind_header name (1 + line_feeds (take at text)) (1 + line_feeds text) (drop at text)
unfolding sections_of and_then
good_header text at name here good = rw (here, good) refl

pub bad_header : (text : List ℕ) (at : ℕ) (r : TestRefusal) → position_or_len (λ b. nat_eq b 123) text ≡ at → name_of (1 + line_feeds (take at text)) (head_words 1 [] (take at text)) ≡ Err r → sections_of text ≡ Err r
unfolding sections_of and_then
bad_header text at r here bad = rw (here, bad) refl

-- ---- comments

pub good_comments : (text bytes : List ℕ) → without_comments text ≡ Ok bytes → and_then (without_comments text) sections_of ≡ sections_of bytes
unfolding and_then
good_comments text bytes are = rw are refl

pub bad_comments : (text : List ℕ) (r : TestRefusal) → without_comments text ≡ Err r → and_then (without_comments text) sections_of ≡ Err r
unfolding and_then
bad_comments text r bad = rw bad refl

-- a text without its comments has as many bytes
none_left : (b : Bool) (r : TestRefusal) (bytes : List ℕ) → (if b then Ok [] else Err r) ≡ Ok bytes → length bytes ≡ 0
none_left true r bytes are = let same : [] ≡ bytes = cc in ap (λ (bs : List ℕ). length bs) (sym same)
none_left false r bytes are = absurd (cc)

one_shown : (x n : ℕ) (j : Judged (List ℕ)) (bytes : List ℕ) → ((rest : List ℕ) → j ≡ Ok rest → length rest ≡ n) → j >>= (λ rest. Ok (x ∷ rest)) ≡ Ok bytes → length bytes ≡ suc n
unfolding and_then
one_shown x n (Ok rest) bytes h are =
    let same : x ∷ rest ≡ bytes = cc in
    let count = h rest refl in
    rw (← same, count) refl
one_shown x n (Err r) bytes h are = absurd (cc)

same_length : (s : Commented) (text bytes : List ℕ) → uncommented s text ≡ Ok bytes → length bytes ≡ length text
unfolding uncommented
same_length s [] bytes are = none_left (nat_eq s.depth 0) (InLine s.begun OpenComment) bytes are
same_length s (b ∷ bs) bytes are = one_shown (shown s b bs) (length bs) (uncommented (behind_byte s b bs) bs) bytes (same_length (behind_byte s b bs) bs) are

pub as_long : (text bytes : List ℕ) → without_comments text ≡ Ok bytes → length bytes ≡ length text
as_long text bytes are = same_length (record { line = 1; depth = 0; begun = 1; half = false }) text bytes are

-- ---- answers

pub tokens_bad : (name : List ℕ) (begun end : ℕ) (text rest : List ℕ) (e : Unread) → 0 < length text → rest ≡ drop 1 text → ReadsList (tokens_of begun rest) (Err e)
    → Reads sections_from (behind_header name begun end text) (Err e)
tokens_bad name begun end text rest (Refused r) some is answer = bad_tokens name begun end text r (λ none. omega (arith, some, none)) (ap (tokens_of begun) (sym is) ∙ answer)
tokens_bad name begun end text rest NoMemory some is answer = tt
