-- The initial state: what registers and locations begin with.
use Rattle.std.specs.Prelude.{ℕ, Bool, true, false, ◌&&◌, ◌||◌, nat_eq, bytes_eq, codes, List, [], ◌∷◌, ◌++◌, take}
use Rattle.std.specs.Prelude.{drop, Option, Some, None, Ok, if◌then◌else◌}
use Rattle.std.specs.List.{list_any, position_or_len}
use Rattle.litmus_model.specs.declared.parts.Part.{Part}
use Rattle.litmus_model.specs.declared.parts.Part.TheVariants.{Word, Mark}
use Rattle.litmus_model.specs.declared.parts.Token.{Token}
use Rattle.litmus_model.specs.declared.parts.Value.{Value}
use Rattle.litmus_model.specs.declared.parts.Value.TheVariants.{Number}
use Rattle.litmus_model.specs.declared.parts.Target.{Target}
use Rattle.litmus_model.specs.declared.parts.Target.TheVariants.{Register, Location}
use Rattle.litmus_model.specs.declared.parts.Given.{Given}
use Rattle.litmus_model.specs.Tokens.{Piece}
use Rattle.litmus_model.specs.declared.refusal.Fault.TheVariants.{UnsupportedType, BadInit, Twice}
use Rattle.litmus_model.specs.Refusing.{Judged, ◌>>=◌, refused}
use Rattle.litmus_model.specs.Tokens.{is_part_mark, parts_of, pieces_at}
use Rattle.litmus_model.specs.Words.{is_name, target_of, value_of}

-- ---- a type in front of a target

abbrev pub is_word : Part → Bool
is_word (Word w) = true
is_word (Mark b) = false

abbrev pub is_name_part : Part → Bool
is_name_part (Word w) = is_name w
is_name_part (Mark b) = false

abbrev pub is_known_type : Part → Bool
is_known_type (Word w) = bytes_eq w (codes "int") || (bytes_eq w (codes "int32_t") || bytes_eq w (codes "uint32_t"))
is_known_type (Mark b) = false

-- a piece's parts without a type, which is a name with a word or `*` behind it
unfoldable pub without_type : ℕ → List Part → Judged (List Part)
without_type line [] = Ok []
without_type line (p ∷ []) = Ok (p ∷ [])
without_type line (p ∷ q ∷ parts) =
    if is_name_part p && (is_word q || is_part_mark 42 q) then
    (if is_known_type p && is_word q then Ok (q ∷ parts) else refused line UnsupportedType)
    else Ok (p ∷ q ∷ parts)

-- ---- a piece

-- how many parts are before the first `=`
abbrev pub equals_place : List Part → ℕ
equals_place parts = position_or_len (is_part_mark 61) parts

-- the value behind `=`, and 0 where there is none
unfoldable pub given_value : ℕ → List Part → Judged (Option Value)
given_value line [] = Ok (Some (Number 0))
given_value line (equals ∷ parts) = value_of line parts

abbrev pub same_target : Target → Target → Bool
same_target (Register t r) (Register u s) = nat_eq t u && nat_eq r s
same_target (Register t r) (Location w) = false
same_target (Location v) (Register u s) = false
same_target (Location v) (Location w) = bytes_eq v w

abbrev pub is_given : List Given → Target → Bool
is_given givens target = list_any (λ (g : Given). same_target g.target target) givens

-- what a piece says behind these others
unfoldable pub new_given : ℕ → List Given → Option Target → Option Value → Judged Given
new_given line before None value = refused line BadInit
new_given line before (Some target) None = refused line BadInit
new_given line before (Some target) (Some value) =
    if is_given before target then refused line Twice else Ok (record { target = target; value = value })

unfoldable pub given_of : ℕ → ℕ → List Given → List Part → Judged Given
given_of threads line before typed =
    without_type line typed >>= (λ parts.
    target_of threads line (take (equals_place parts) parts) >>= (λ target.
    given_value line (drop (equals_place parts) parts) >>= (λ value.
    new_given line before target value)))

-- ---- all pieces; those without tokens say nothing

unfoldable pub piece_givens : ℕ → ℕ → List Given → List Token → Judged (List Given)
piece_givens threads line before [] = Ok before
piece_givens threads line before (t ∷ ts) =
    given_of threads line before (parts_of (t ∷ ts)) >>= (λ given. Ok (before ++ given ∷ []))

unfoldable pub givens_from : ℕ → List Given → List Piece → Judged (List Given)
givens_from threads before [] = Ok before
givens_from threads before (p ∷ ps) = piece_givens threads p.line before p.tokens >>= (λ givens. givens_from threads givens ps)

-- `closing` is the line of the `}`
abbrev pub init_of : ℕ → ℕ → List Token → Judged (List Given)
init_of threads closing tokens = givens_from threads [] (pieces_at 59 closing tokens)
