-- A search is right.
-- Letters: m is the state that it begins with.
use Rattle.std.proofs.Common.{◌≡◌, ℕ, ◌<◌, false, [], inl, inr}
use Rattle.search_laws.specs.Space.{Space}
use Rattle.search_laws.specs.Search.{searched}
use Rattle.search_laws.specs.Rules.{KeepsAlike, EndsStay, QuietFirst}
use Rattle.search_laws.specs.Claims.{IsRight}
use Rattle.search_laws.proofs.Lists.{absurd-bool}
use Rattle.search_laws.proofs.Rounds.{searched-sound, searched-done}
use Rattle.search_laws.proofs.Covers.{lines-all, lines-far, lines-shortest}
use Rattle.search_laws.proofs.Losing.{lost-right}

module _ {S T O : Type 0} (space : Space S T O) (Alike : S → S → Type 0) (keeps : KeepsAlike space Alike) (stay : EndsStay space Alike) (IsQuiet : S → T → Type 0) (IsFit : S → Type 0) (first : QuietFirst space Alike IsQuiet IsFit) (most : ℕ) (m : S) where
  -- where no state was without a place, none waits
  none-waits : 0 < most → space.ended m ≡ false → (searched space most m).full ≡ false → (searched space most m).waiting ≡ []
  none-waits some runs room = elim (searched-done space Alike keeps m most some runs) [
    | inl full ↦ absurd-bool (searched space most m).full full room
    | inr none ↦ none
  ]

  pub search-right : 0 < most → IsFit m → space.ended m ≡ false → IsRight space m (searched space most m)
  search-right some fit runs =
      let s = searched space most m in
      let sound = searched-sound space Alike keeps m most some runs in
      record {
        lines = lines-shortest space Alike keeps stay IsQuiet IsFit first m fit most s sound;
        all = λ room. lines-all space Alike keeps stay IsQuiet IsFit first m fit most s sound (none-waits some runs room);
        ended = λ full. lines-far space Alike keeps stay IsQuiet IsFit first m fit most s sound;
        lost = λ room. lost-right space Alike keeps stay IsQuiet IsFit first m fit most s sound (none-waits some runs room);
      }
