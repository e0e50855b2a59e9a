-- The final section: what is observed, and the condition.
use Rattle.std.specs.Prelude.{ℕ, ◌+◌, ◌-◌, Bool, true, false, not, ◌&&◌, ◌||◌, nat_eq, bytes_eq, codes, List, [], ◌∷◌}
use Rattle.std.specs.Prelude.{◌++◌, take, drop, Option, Some, None, is_some, Ok, if◌then◌else◌}
use Rattle.std.specs.List.{position_or_len}
use Rattle.std.specs.Option.{option_or, option_map_or}
use Rattle.litmus_model.specs.declared.parts.Part.{Part}
use Rattle.litmus_model.specs.declared.parts.Part.TheVariants.{Word, Mark}
use Rattle.litmus_model.specs.declared.parts.Token.{Token}
use Rattle.litmus_model.specs.declared.parts.Value.{Value}
use Rattle.litmus_model.specs.declared.parts.Target.{Target}
use Rattle.litmus_model.specs.declared.parts.Chunk.{Chunk}
use Rattle.litmus_model.specs.declared.parts.Chunk.TheVariants as chunk
use Rattle.litmus_model.specs.Tokens.{Piece}
use Rattle.litmus_model.specs.declared.test.Quantifier.{Quantifier}
use Rattle.litmus_model.specs.declared.test.Quantifier.TheVariants.{Exists, NotExists, Forall}
use Rattle.litmus_model.specs.declared.parts.Standing.{Standing}
use Rattle.litmus_model.specs.declared.refusal.Fault.TheVariants.{BadLocations, Filter, BadCondition}
use Rattle.litmus_model.specs.Refusing.{Judged, ◌>>=◌, refused}
use Rattle.litmus_model.specs.Tokens.{is_mark, is_part_mark, parts_of, pieces_at}
use Rattle.litmus_model.specs.Words.{target_of, value_of}
use Rattle.litmus_model.specs.Init.{equals_place}

abbrev pub is_part_word : List ℕ → Part → Bool
is_part_word word (Word w) = bytes_eq w word
is_part_word word (Mark b) = false

-- ---- locations [ .. ]

-- the target of a piece that must be one; its line is that of its first token
unfoldable pub named_targets : ℕ → List Token → Judged (List Target)
named_targets threads [] = Ok []
named_targets threads (t ∷ ts) =
    target_of threads t.line (parts_of (t ∷ ts)) >>= (λ target.
    option_map_or (λ named. Ok (named ∷ [])) target (refused t.line BadLocations))

unfoldable pub pieces_targets : ℕ → List Piece → Judged (List Target)
pieces_targets threads [] = Ok []
pieces_targets threads (p ∷ ps) =
    named_targets threads p.tokens >>= (λ named. pieces_targets threads ps >>= (λ others. Ok (named ++ others)))

-- what is named, and the tokens of the condition
pub record Observed : Type 0 where
  pub named : List Target
  pub condition : List Token

-- the pieces before the first `]`, and what stands behind it
unfoldable pub listed_targets : ℕ → ℕ → List Token → List Token → Judged Observed
listed_targets threads line inside [] = refused line BadLocations
listed_targets threads line inside (bracket ∷ condition) =
    pieces_targets threads (pieces_at 59 line inside) >>= (λ named. Ok (record { named = named; condition = condition }))

unfoldable pub behind_locations : ℕ → ℕ → List Token → Judged Observed
behind_locations threads line [] = refused line BadLocations
behind_locations threads line (bracket ∷ ts) =
    let n = position_or_len (is_mark 93) ts in
    if is_mark 91 bracket then listed_targets threads line (take n ts) (drop n ts) else refused line BadLocations

unfoldable pub observed_of : ℕ → List Token → Judged Observed
observed_of threads [] = Ok (record { named = []; condition = [] })
observed_of threads (t ∷ ts) =
    if is_part_word (codes "locations") t.part then behind_locations threads t.line ts
    else Ok (record { named = []; condition = t ∷ ts })

-- ---- the quantifier

pub record Quantified : Type 0 where
  pub quantifier : Quantifier
  pub proposition : List Token

abbrev pub quantified : Quantifier → List Token → Judged Quantified
quantified quantifier tokens = Ok (record { quantifier = quantifier; proposition = tokens })

-- behind `~`, which stands in this line
unfoldable pub denied : ℕ → List Token → Judged Quantified
denied line [] = refused line BadCondition
denied line (t ∷ ts) = if is_part_word (codes "exists") t.part then quantified NotExists ts else refused line BadCondition

unfoldable pub quantifier_of : ℕ → List Token → Judged Quantified
quantifier_of end [] = refused end BadCondition
quantifier_of end (t ∷ ts) =
    if is_part_word (codes "filter") t.part then refused t.line Filter
    else (if is_part_mark 126 t.part then denied t.line ts
    else (if is_part_word (codes "exists") t.part then quantified Exists ts
    else (if is_part_word (codes "forall") t.part then quantified Forall ts
    else refused t.line BadCondition)))

-- ---- the chunks of a proposition: operators, and longest rows of other tokens

pub data RawChunk : Type 0 where
  operator : ℕ → Chunk → RawChunk
  atom : ℕ → List Part → RawChunk

-- a token in front of chunks, of which the first goes on where it is an atom
unfoldable pub with_atom : Token → List RawChunk → List RawChunk
with_atom t [] = atom t.line (t.part ∷ []) ∷ []
with_atom t (operator line c ∷ cs) = atom t.line (t.part ∷ []) ∷ operator line c ∷ cs
with_atom t (atom line parts ∷ cs) = atom t.line (t.part ∷ parts) ∷ cs

-- an operator of one token
unfoldable pub operator_of : Part → Option Chunk
operator_of (Word w) = if bytes_eq w (codes "not") then Some chunk.Not else None
operator_of (Mark b) =
    if nat_eq b 40 then Some chunk.Open
    else (if nat_eq b 41 then Some chunk.Close
    else (if nat_eq b 126 then Some chunk.Not
    else None))

abbrev pub with_operator : Token → Option Chunk → List RawChunk → List RawChunk
with_operator t None cs = with_atom t cs
with_operator t (Some c) cs = operator t.line c ∷ cs

-- an operator of two tokens, of which this is the first
unfoldable pub operator_of_two : Part → List Token → Option Chunk
operator_of_two p [] = None
operator_of_two p (t ∷ ts) =
    if is_part_mark 47 p && is_mark 92 t then Some chunk.And
    else (if is_part_mark 92 p && is_mark 47 t then Some chunk.Or
    else None)

-- where `half`, the first token is the second one of an operator
unfoldable pub chunks_from : Bool → List Token → List RawChunk
chunks_from half [] = []
chunks_from true (t ∷ ts) = chunks_from false ts
chunks_from false (t ∷ ts) =
    with_operator t (option_or (operator_of_two t.part ts) (operator_of t.part))
    (chunks_from (is_some (operator_of_two t.part ts)) ts)

abbrev pub chunks_of : List Token → List RawChunk
chunks_of tokens = chunks_from false tokens

-- ---- atoms

unfoldable pub comparison : ℕ → Option Target → Option Value → Judged Chunk
comparison line None value = refused line BadCondition
comparison line (Some target) None = refused line BadCondition
comparison line (Some target) (Some value) = Ok (chunk.Is target value)

-- a target, and behind the first `=` a value
unfoldable pub compared : ℕ → ℕ → List Part → List Part → Judged Chunk
compared threads line before [] = refused line BadCondition
compared threads line before (equals ∷ behind) =
    target_of threads line before >>= (λ target. value_of line behind >>= (λ value. comparison line target value))

abbrev pub compared_at : ℕ → ℕ → ℕ → List Part → Judged Chunk
compared_at threads line n parts = compared threads line (take n parts) (drop n parts)

unfoldable pub atom_of : ℕ → ℕ → List Part → Judged Chunk
atom_of threads line [] = refused line BadCondition
atom_of threads line (p ∷ []) =
    if is_part_word (codes "true") p then Ok chunk.True
    else (if is_part_word (codes "false") p then Ok chunk.False
    else refused line BadCondition)
atom_of threads line (p ∷ q ∷ ps) = compared_at threads line (equals_place (p ∷ q ∷ ps)) (p ∷ q ∷ ps)

-- ---- which chunks are a proposition

abbrev pub standing : ℕ → Bool → Standing
standing brackets wants = record { brackets = brackets; wants = wants }

-- how far it has come with an operator more, where it goes on so
unfoldable pub after_operator : Chunk → Standing → Option Standing
after_operator chunk.Open s = if s.wants then Some (standing (s.brackets + 1) true) else None
after_operator chunk.Not s = if s.wants then Some s else None
after_operator chunk.And s = if s.wants then None else Some (standing s.brackets true)
after_operator chunk.Or s = if s.wants then None else Some (standing s.brackets true)
after_operator chunk.Close s = if s.wants || nat_eq s.brackets 0 then None else Some (standing (s.brackets - 1) false)
after_operator chunk.True s = None
after_operator chunk.False s = None
after_operator (chunk.Is target value) s = None

-- Chunks that are a proposition, one by one: any := all | any or all; all := one | all and one; one := atom | not one | ( any ).
unfoldable pub proposition_from : ℕ → ℕ → Standing → List RawChunk → Judged (List Chunk)
proposition_from threads end s [] = if s.wants || not (nat_eq s.brackets 0) then refused end BadCondition else Ok []
proposition_from threads end s (operator line c ∷ cs) =
    option_map_or (λ next. proposition_from threads end next cs >>= (λ others. Ok (c ∷ others)))
    (after_operator c s) (refused line BadCondition)
proposition_from threads end s (atom line parts ∷ cs) =
    (if s.wants then atom_of threads line parts else refused line BadCondition) >>= (λ c.
    proposition_from threads end (standing s.brackets false) cs >>= (λ others. Ok (c ∷ others)))

abbrev pub proposition_of : ℕ → ℕ → List Token → Judged (List Chunk)
proposition_of threads end tokens = proposition_from threads end (standing 0 true) (chunks_of tokens)

-- ---- all of it

pub record Final : Type 0 where
  -- by `locations`
  pub named : List Target
  pub quantifier : Quantifier
  pub chunks : List Chunk

-- `end` is the line of the text's end
unfoldable pub final_of : ℕ → ℕ → List Token → Judged Final
final_of threads end tokens =
    observed_of threads tokens >>= (λ (seen : Observed).
    quantifier_of end seen.condition >>= (λ (asked : Quantified).
    proposition_of threads end asked.proposition >>= (λ chunks.
    Ok (record { named = seen.named; quantifier = asked.quantifier; chunks = chunks }))))
