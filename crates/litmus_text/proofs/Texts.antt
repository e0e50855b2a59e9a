-- A text without comments, and its tokens, one byte more at a time: what is done and what is left are the whole.
use Rattle.std.proofs.Common.{◌≡◌, ℕ, ◌+◌, ◌<◌, ◌≤◌, List, [], ◌∷◌, ◌++◌, length, drop, get_or, refl, sym, ap, ◌∙◌, arith}
use Rattle.std.specs.Prelude.{true, false, nat_eq, nat_lt, ◌||◌, Result, Ok, Err}
use Rattle.std.proofs.Math.ListN.{drop_of_length-le}
use Rattle.std.proofs.lemmas.Bool.Decides.{nat_tests}
use Rattle.std.proofs.lemmas.List.{append-nil, drop_more}
use Rattle.litmus_model.specs.declared.parts.Commented.{Commented}
use Rattle.litmus_model.specs.declared.parts.Part.TheVariants.{Word, Mark}
use Rattle.litmus_model.specs.declared.parts.Token.{Token}
use Rattle.litmus_model.specs.declared.refusal.Fault.TheVariants.{OpenComment, LongWord, BadByte}
use Rattle.litmus_model.specs.declared.refusal.TestRefusal.{TestRefusal}
use Rattle.litmus_model.specs.declared.refusal.TestRefusal.TheVariants.{InLine}
use Rattle.litmus_model.specs.Refusing.{Judged, ◌>>=◌, and_then}
use Rattle.litmus_model.specs.Bytes.{is_blank, is_line_feed, is_mark_byte, is_word_byte}
use Rattle.litmus_model.specs.Comments.{behind_byte, next_line, shown, uncommented}
use Rattle.litmus_model.specs.Tokens.{ended, judged_token, judged_tokens, mark_token, token, tokens_from, tokens_of, word_token, word_with}
use Rattle.litmus_text.specs.declared.judged.Unread.{Unread}
use Rattle.litmus_text.specs.declared.judged.Unread.TheVariants.{Refused, NoMemory}
use Rattle.litmus_text.specs.Reads.{Adds, ReadsList, behind}
use Rattle.litmus_text.proofs.Judging.{behind_nothing, behind_one, both_behind, second_refused, refused_behind}

-- ---- comments

pub byte_shown : (old text : List ℕ) (s : Commented) (at d : ℕ) → at < length text
    → behind old (uncommented s (drop at text)) ≡ behind (old ++ shown s (get_or text at d) (drop (at + 1) text) ∷ []) (uncommented (behind_byte s (get_or text at d) (drop (at + 1) text)) (drop (at + 1) text))
unfolding uncommented
byte_shown old text s at d inside =
    rw (drop_more text at d inside) (behind_one old (shown s (get_or text at d) (drop (at + 1) text)) (uncommented (behind_byte s (get_or text at d) (drop (at + 1) text)) (drop (at + 1) text)))

pub text_done : (old text : List ℕ) (s : Commented) (at : ℕ) → length text ≤ at → s.depth ≡ 0 → behind old (uncommented s (drop at text)) ≡ Ok old
unfolding behind uncommented and_then
text_done old text s at past closed = rw (drop_of_length-le text past, closed) (ap (λ (bytes : List ℕ). Ok bytes) (append-nil old))

open_left : (n : ℕ) → 0 < n → nat_eq n 0 ≡ false
open_left n h = grind (arith, nat_tests)

pub text_open : (old text : List ℕ) (s : Commented) (at : ℕ) → length text ≤ at → 0 < s.depth → uncommented s (drop at text) ≡ Err (InLine s.begun OpenComment)
unfolding uncommented
text_open old text s at past left = rw (drop_of_length-le text past, open_left s.depth left) refl

-- ---- the tokens that end with a byte

pub no_word : (old : List Token) (line : ℕ) (word : List ℕ) → length word ≡ 0 → behind old (judged_tokens (word_token line word)) ≡ Ok old
unfolding behind judged_tokens and_then
no_word old line [] none = ap (λ (ts : List Token). Ok ts) (append-nil old)
no_word old line (b ∷ bs) none = absurd (omega (arith, none))

few : (n : ℕ) → n ≤ 127 → nat_lt 127 n ≡ false
few n h = grind (arith, nat_tests)

many : (n : ℕ) → 127 < n → nat_lt 127 n ≡ true
many n h = grind (arith, nat_tests)

pub one_word : (old : List Token) (line : ℕ) (word : List ℕ) → (length word ≡ 0 → ⊥) → length word ≤ 127
    → behind old (judged_tokens (word_token line word)) ≡ Ok (old ++ token line (Word word) ∷ [])
unfolding behind judged_tokens judged_token and_then
one_word old line [] some short = absurd (some refl)
one_word old line (b ∷ bs) some short = rw (few (length (b ∷ bs)) short) refl

pub long_word : (line : ℕ) (word : List ℕ) → 127 < length word → judged_tokens (word_token line word) ≡ Err (InLine line LongWord)
unfolding judged_tokens judged_token and_then
long_word line [] long = absurd (omega (arith, long))
long_word line (b ∷ bs) long = rw (many (length (b ∷ bs)) long) refl

pub no_mark : (old : List Token) (line b : ℕ) → (is_blank b || is_line_feed b) ≡ true → behind old (judged_tokens (mark_token line b)) ≡ Ok old
unfolding behind judged_tokens and_then
no_mark old line b blank = rw blank (ap (λ (ts : List Token). Ok ts) (append-nil old))

pub one_mark : (old : List Token) (line b : ℕ) → (is_blank b || is_line_feed b) ≡ false → is_mark_byte b ≡ true
    → behind old (judged_tokens (mark_token line b)) ≡ Ok (old ++ token line (Mark b) ∷ [])
unfolding behind judged_tokens judged_token and_then
one_mark old line b some good = rw (some, good) refl

pub bad_mark : (line b : ℕ) → (is_blank b || is_line_feed b) ≡ false → is_mark_byte b ≡ false → judged_tokens (mark_token line b) ≡ Err (InLine line BadByte)
unfolding judged_tokens judged_token and_then
bad_mark line b some bad = rw (some, bad) refl

judged_step : (first : Judged Token) (j m : Judged (List Token))
    → first >>= (λ t. (j >>= (λ ts. behind ts m)) >>= (λ others. Ok (t ∷ others))) ≡ (first >>= (λ t. j >>= (λ others. Ok (t ∷ others)))) >>= (λ ts. behind ts m)
unfolding behind and_then
judged_step (Err r) j m = refl
judged_step (Ok t) (Err r) m = refl
judged_step (Ok t) (Ok ts) (Err r) = refl
judged_step (Ok t) (Ok ts) (Ok us) = refl

judged_append : (xs ys : List Token) → judged_tokens (xs ++ ys) ≡ judged_tokens xs >>= (λ ts. behind ts (judged_tokens ys))
unfolding judged_tokens and_then
judged_append [] ys = behind_nothing (judged_tokens ys)
judged_append (x ∷ xs) ys = rw (judged_append xs ys) (judged_step (judged_token x.line x.part) (judged_tokens xs) (judged_tokens ys))

pub no_end : (old : List Token) (line : ℕ) (word : List ℕ) (b : ℕ) → is_word_byte b ≡ true → behind old (judged_tokens (ended line word b)) ≡ Ok old
unfolding behind judged_tokens and_then
no_end old line word b goes_on = rw goes_on (ap (λ (ts : List Token). Ok ts) (append-nil old))

pub both_ended : (old mid new : List Token) (line : ℕ) (word : List ℕ) (b : ℕ) → is_word_byte b ≡ false
    → behind old (judged_tokens (word_token line word)) ≡ Ok mid → behind mid (judged_tokens (mark_token line b)) ≡ Ok new → behind old (judged_tokens (ended line word b)) ≡ Ok new
both_ended old mid new line word b ends first second =
    rw (ends, judged_append (word_token line word) (mark_token line b)) (both_behind old mid (judged_tokens (word_token line word)) (judged_tokens (mark_token line b)) first ∙ second)

pub word_refused : (line : ℕ) (word : List ℕ) (b : ℕ) (r : TestRefusal) → is_word_byte b ≡ false → judged_tokens (word_token line word) ≡ Err r → judged_tokens (ended line word b) ≡ Err r
unfolding and_then
word_refused line word b r ends first = rw (ends, judged_append (word_token line word) (mark_token line b), first) refl

pub mark_refused : (old mid : List Token) (line : ℕ) (word : List ℕ) (b : ℕ) (r : TestRefusal) → is_word_byte b ≡ false
    → behind old (judged_tokens (word_token line word)) ≡ Ok mid → judged_tokens (mark_token line b) ≡ Err r → judged_tokens (ended line word b) ≡ Err r
mark_refused old mid line word b r ends first second =
    rw (ends, judged_append (word_token line word) (mark_token line b)) (second_refused old mid r (judged_tokens (word_token line word)) (judged_tokens (mark_token line b)) first second)

-- ---- all tokens

pub tokens_next : (old new : List Token) (line : ℕ) (word text : List ℕ) (k d : ℕ) → k < length text
    → behind old (judged_tokens (ended line word (get_or text k d))) ≡ Ok new
    → behind old (judged_tokens (tokens_from line word (drop k text))) ≡ behind new (judged_tokens (tokens_from (next_line line (get_or text k d)) (word_with word (get_or text k d)) (drop (k + 1) text)))
unfolding tokens_from
tokens_next old new line word text k d inside first =
    let b = get_or text k d in
    let rest = tokens_from (next_line line b) (word_with word b) (drop (k + 1) text) in
    rw (drop_more text k d inside, judged_append (ended line word b) rest) (both_behind old new (judged_tokens (ended line word b)) (judged_tokens rest) first)

pub tokens_refused : (line : ℕ) (word text : List ℕ) (k d : ℕ) (r : TestRefusal) → k < length text
    → judged_tokens (ended line word (get_or text k d)) ≡ Err r → judged_tokens (tokens_from line word (drop k text)) ≡ Err r
unfolding tokens_from and_then
tokens_refused line word text k d r inside first =
    let b = get_or text k d in
    let rest = tokens_from (next_line line b) (word_with word b) (drop (k + 1) text) in
    rw (drop_more text k d inside, judged_append (ended line word b) rest, first) refl

pub tokens_done : (line : ℕ) (word text : List ℕ) (k : ℕ) → length text ≤ k → judged_tokens (tokens_from line word (drop k text)) ≡ judged_tokens (word_token line word)
unfolding tokens_from
tokens_done line word text k past = rw (drop_of_length-le text past) refl

-- ---- answers

pub ended_adds : (old mid new : List Token) (line : ℕ) (word : List ℕ) (b : ℕ) (result : Result (Unit {0}) Unread) → is_word_byte b ≡ false
    → behind old (judged_tokens (word_token line word)) ≡ Ok mid → Adds (judged_tokens (mark_token line b)) mid new result → Adds (judged_tokens (ended line word b)) old new result
ended_adds old mid new line word b (Ok done) ends first second = both_ended old mid new line word b ends first second
ended_adds old mid new line word b (Err (Refused r)) ends first second = mark_refused old mid line word b r ends first second
ended_adds old mid new line word b (Err NoMemory) ends first second = tt

pub tokens_fail : (first line : ℕ) (old new : List Token) (word shown text : List ℕ) (k d : ℕ) (e : Unread) → k < length text
    → tokens_of first text ≡ behind old (judged_tokens (tokens_from line word (drop k text))) → shown ≡ word
    → Adds (judged_tokens (ended line shown (get_or text k d))) old new (Err e) → ReadsList (tokens_of first text) (Err e)
tokens_fail first line old new word shown text k d (Refused r) inside whole same answer =
    let refused : judged_tokens (ended line word (get_or text k d)) ≡ Err r = ap (λ (w : List ℕ). judged_tokens (ended line w (get_or text k d))) (sym same) ∙ answer in
    whole ∙ refused_behind old r (judged_tokens (tokens_from line word (drop k text))) (tokens_refused line word text k d r inside refused)
tokens_fail first line old new word shown text k d NoMemory inside whole same answer = tt

pub last_fails : (first line : ℕ) (old new : List Token) (word shown text : List ℕ) (k : ℕ) (e : Unread) → length text ≤ k
    → tokens_of first text ≡ behind old (judged_tokens (tokens_from line word (drop k text))) → shown ≡ word
    → Adds (judged_tokens (word_token line shown)) old new (Err e) → ReadsList (tokens_of first text) (Err e)
last_fails first line old new word shown text k (Refused r) past whole same answer =
    let refused : judged_tokens (word_token line word) ≡ Err r = ap (λ (w : List ℕ). judged_tokens (word_token line w)) (sym same) ∙ answer in
    whole ∙ refused_behind old r (judged_tokens (tokens_from line word (drop k text))) (tokens_done line word text k past ∙ refused)
last_fails first line old new word shown text k NoMemory past whole same answer = tt

-- A text without comments.
pub ruleset text_steps = (byte_shown, text_done, text_open)

-- The end of a token.
pub ruleset token_ends = (no_end, both_ended, word_refused, mark_refused)

-- One token after another.
pub ruleset token_steps = (tokens_next, tokens_refused, tokens_done)
