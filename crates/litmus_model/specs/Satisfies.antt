-- Whether a state satisfies a condition.
-- Letters: l is a level.
use Rattle.std.specs.Prelude.{ℕ, Bool, true, false, not, ◌&&◌, ◌||◌, nat_eq, List, [], ◌∷◌, fold, if◌then◌else◌}
use Rattle.litmus_model.specs.declared.parts.Value.{Value}
use Rattle.litmus_model.specs.declared.parts.Target.{Target}
use Rattle.litmus_model.specs.declared.parts.Chunk.{Chunk}
use Rattle.litmus_model.specs.declared.parts.Chunk.TheVariants as chunk
use Rattle.litmus_model.specs.Init.{same_target}
use Rattle.litmus_model.specs.Image.{word_of}
use Rattle.litmus_model.specs.Test.{Test}

-- What is known of a bracket that is open, or of the whole: whether an alternative before the last `or` is true, whether all behind it
-- are, and whether what comes next is denied.
pub record Level : Type 0 where
  pub any : Bool
  pub all : Bool
  pub denied : Bool

abbrev pub level_begun : Level
level_begun = record { any = false; all = true; denied = false }

abbrev pub level_value : Level → Bool
level_value l = l.any || l.all

abbrev pub with_value : Bool → Level → Level
with_value b l = record l { all = l.all && (if l.denied then not b else b); denied = false }

-- the levels, the innermost first, with one more value
abbrev pub with_last : Bool → List Level → List Level
with_last b [] = []
with_last b (l ∷ ls) = with_value b l ∷ ls

abbrev pub denied_once_more : List Level → List Level
denied_once_more [] = []
denied_once_more (l ∷ ls) = record l { denied = not l.denied } ∷ ls

abbrev pub alternative : List Level → List Level
alternative [] = []
alternative (l ∷ ls) = record { any = level_value l; all = true; denied = false } ∷ ls

abbrev pub level_closed : List Level → List Level
level_closed [] = []
level_closed (l ∷ ls) = with_last (level_value l) ls

-- the word of a target, where these ones are observed in this order with these words
abbrev pub observed_word : List Target → List ℕ → Target → ℕ
observed_word [] words target = 0
observed_word (t ∷ ts) [] target = 0
observed_word (t ∷ ts) (w ∷ ws) target = if same_target t target then w else observed_word ts ws target

abbrev pub atom_holds : Test → ℕ → List ℕ → Target → Value → Bool
atom_holds test item_bytes words target value = nat_eq (observed_word test.observed words target) (word_of test item_bytes value)

-- the levels with one more chunk: `not` binds closest, then `and`, then `or`
unfoldable pub with_chunk : Test → ℕ → List ℕ → List Level → Chunk → List Level
with_chunk test item_bytes words levels chunk.Open = level_begun ∷ levels
with_chunk test item_bytes words levels chunk.Close = level_closed levels
with_chunk test item_bytes words levels chunk.Not = denied_once_more levels
with_chunk test item_bytes words levels chunk.And = levels
with_chunk test item_bytes words levels chunk.Or = alternative levels
with_chunk test item_bytes words levels chunk.True = with_last true levels
with_chunk test item_bytes words levels chunk.False = with_last false levels
with_chunk test item_bytes words levels (chunk.Is target value) = with_last (atom_holds test item_bytes words target value) levels

abbrev pub outermost_value : List Level → Bool
outermost_value [] = false
outermost_value (l ∷ ls) = level_value l

-- whether a state, the words of what is observed, satisfies the condition of the test
unfoldable pub satisfies : Test → ℕ → List ℕ → Bool
satisfies test item_bytes words = outermost_value (fold (with_chunk test item_bytes words) (level_begun ∷ []) test.chunks)
