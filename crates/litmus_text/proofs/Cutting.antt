-- Tokens cut into pieces, one token more at a time: what is cut and what is left are the whole.
use Rattle.std.proofs.Common.{◌≡◌, ℕ, ◌+◌, ◌<◌, ◌≤◌, List, [], ◌∷◌, ◌++◌, length, drop, get_or, refl, sym, ap, append_assoc}
use Rattle.std.specs.Prelude.{true, false}
use Rattle.std.proofs.lemmas.List.{append-nil, drop_all, drop_more}
use Rattle.litmus_model.specs.declared.parts.Part.{Part}
use Rattle.litmus_model.specs.declared.parts.Token.{Token}
use Rattle.litmus_model.specs.Tokens.{Piece, is_mark, parts_of, pieces_at, with_token}
use Rattle.litmus_text.specs.Pieces.{with_tokens}

none_in_front : (ps : List Piece) → with_tokens [] ps ≡ ps
unfolding with_tokens
none_in_front [] = refl
none_in_front (p ∷ ps) = refl

one_in_front : (ts : List Token) (t : Token) (ps : List Piece) → with_tokens ts (with_token t ps) ≡ with_tokens (ts ++ t ∷ []) ps
unfolding with_tokens
one_in_front ts t [] = refl
one_in_front ts t (p ∷ ps) = ap (λ (us : List Token). record { tokens = us; line = p.line } ∷ ps) (sym (append_assoc ts (t ∷ []) p.tokens))

pub piece_ends : (mark : ℕ) (old : List Piece) (begun : List Token) (t : Token) (ts : List Token) (end : ℕ) → is_mark mark t ≡ true
    → old ++ with_tokens begun (pieces_at mark end (t ∷ ts)) ≡ (old ++ record { tokens = begun; line = t.line } ∷ []) ++ with_tokens [] (pieces_at mark end ts)
unfolding pieces_at with_tokens
piece_ends mark old begun t ts end ends =
    rw (ends, append-nil begun, none_in_front (pieces_at mark end ts)) (sym (append_assoc old (record { tokens = begun; line = t.line } ∷ []) (pieces_at mark end ts)))

pub piece_goes_on : (mark : ℕ) (old : List Piece) (begun : List Token) (t : Token) (ts : List Token) (end : ℕ) → is_mark mark t ≡ false
    → old ++ with_tokens begun (pieces_at mark end (t ∷ ts)) ≡ old ++ with_tokens (begun ++ t ∷ []) (pieces_at mark end ts)
unfolding pieces_at
piece_goes_on mark old begun t ts end goes_on = rw (goes_on, one_in_front begun t (pieces_at mark end ts)) refl

pub pieces_begun : (mark end : ℕ) (tokens : List Token) → pieces_at mark end tokens ≡ [] ++ with_tokens [] (pieces_at mark end tokens)
pieces_begun mark end tokens = sym (none_in_front (pieces_at mark end tokens))

pub last_piece : (mark end : ℕ) (old : List Piece) (begun tokens : List Token) (k : ℕ) → length tokens ≤ k
    → old ++ with_tokens begun (pieces_at mark end (drop k tokens)) ≡ old ++ record { tokens = begun; line = end } ∷ []
unfolding pieces_at with_tokens
last_piece mark end old begun tokens k past = rw (drop_all k tokens past, append-nil begun) refl

pub parts_next : (old : List Part) (tokens : List Token) (k : ℕ) (d : Token) → k < length tokens
    → old ++ parts_of (drop k tokens) ≡ (old ++ (get_or tokens k d).part ∷ []) ++ parts_of (drop (k + 1) tokens)
parts_next old tokens k d inside = rw (drop_more tokens k d inside) (sym (append_assoc old ((get_or tokens k d).part ∷ []) (parts_of (drop (k + 1) tokens))))

pub parts_done : (old : List Part) (tokens : List Token) (k : ℕ) → length tokens ≤ k → old ++ parts_of (drop k tokens) ≡ old
parts_done old tokens k past = rw (drop_all k tokens past) (append-nil old)
