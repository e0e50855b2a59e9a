-- A text without its comments, which nest: each of their bytes is a blank, but line feeds stay.
use Rattle.std.specs.Prelude.{ℕ, ◌+◌, ◌-◌, Bool, false, not, ◌&&◌, ◌||◌, nat_eq, nat_lt, List, [], ◌∷◌, Ok, if◌then◌else◌}
use Rattle.litmus_model.specs.declared.parts.Commented.{Commented}
use Rattle.litmus_model.specs.declared.refusal.Fault.TheVariants.{OpenComment}
use Rattle.litmus_model.specs.Refusing.{Judged, ◌>>=◌, refused}
use Rattle.litmus_model.specs.Bytes.{is_line_feed}

abbrev pub first_is : ℕ → List ℕ → Bool
first_is b [] = false
first_is b (c ∷ bs) = nat_eq c b

-- whether a comment begins with this byte, before these others
abbrev pub begins : Commented → ℕ → List ℕ → Bool
begins s b bs = not s.half && (nat_eq b 40 && first_is 42 bs)

abbrev pub ends : Commented → ℕ → List ℕ → Bool
ends s b bs = (not s.half && nat_lt 0 s.depth) && (nat_eq b 42 && first_is 41 bs)

abbrev pub next_line : ℕ → ℕ → ℕ
next_line line b = if is_line_feed b then line + 1 else line

abbrev pub next_depth : Commented → ℕ → List ℕ → ℕ
next_depth s b bs = if begins s b bs then s.depth + 1 else (if ends s b bs then s.depth - 1 else s.depth)

unfoldable pub behind_byte : Commented → ℕ → List ℕ → Commented
behind_byte s b bs = record {
  line = next_line s.line b;
  depth = next_depth s b bs;
  begun = if begins s b bs && nat_eq s.depth 0 then s.line else s.begun;
  half = begins s b bs || ends s b bs;
}

-- what stands for a byte
unfoldable pub shown : Commented → ℕ → List ℕ → ℕ
shown s b bs =
    if not (is_line_feed b) && (nat_lt 0 s.depth || (s.half || begins s b bs)) then 32 else b

unfoldable pub uncommented : Commented → List ℕ → Judged (List ℕ)
uncommented s [] = if nat_eq s.depth 0 then Ok [] else refused s.begun OpenComment
uncommented s (b ∷ bs) = uncommented (behind_byte s b bs) bs >>= (λ rest. Ok (shown s b bs ∷ rest))

abbrev pub without_comments : List ℕ → Judged (List ℕ)
without_comments text = uncommented (record { line = 1; depth = 0; begun = 1; half = false }) text
