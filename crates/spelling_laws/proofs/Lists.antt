-- What is read of stamps, copies, requests and entries of down lists is what is spelled of them.
use Rattle.std.specs.Prelude.{◌≡◌, ℕ, Bool, true, nat_eq, nat_lt, ◌||◌, List, [], ◌∷◌, ◌++◌, Ok, refl}
use Rattle.std.proofs.Common.{ap}
use Rattle.spelling_laws.specs.DdmTypes.declared.keys.Stamp.{Stamp}
use Rattle.spelling_laws.specs.TreeModel.State.Kinds.{brings_copy}
use Rattle.spelling_laws.specs.TreeModel.State.Values.{RequestValue, CopyValue, DownValue}
use Rattle.spelling_laws.specs.StateReading.Reading.{Read}
use Rattle.spelling_laws.specs.StateReading.Parts as reading
use Rattle.spelling_laws.specs.StateReading.Parts.{item_words, kind_of, read_copy, read_request, read_down}
use Rattle.spelling_laws.specs.StateWords.Numbers.{stamp_words}
use Rattle.spelling_laws.specs.StateWords.Parts.{item_and_words, request_words, down_words}
use Rattle.spelling_laws.specs.Spells.{Spells}
use Rattle.spelling_laws.proofs.Numbers.{kind-spelled, asked-spelled}
use Rattle.spelling_laws.proofs.Steps.{Added, is_below, is_from_1, is_if, step, word-step, many-read, ended, spells-both, spells-as}

pub stamp-read : (level k : ℕ) (ws : List ℕ) (q : Read Stamp) → reading.stamp_words level k ws ≡ Ok q → Spells k ws (stamp_words q.value) q.at q.rest
stamp-read level k ws q e =
    word-step (is_if (nat_lt 0 level)) k ws _ q e (λ s0 k1 ws1 w1 p1 e.
    word-step (is_if (nat_lt 1 level)) k1 ws1 _ q e (λ s1 k2 ws2 w2 p2 e.
    word-step (is_if (nat_lt 2 level)) k2 ws2 _ q e (λ s2 k3 ws3 w3 p3 e.
    word-step (is_if (nat_lt 3 level)) k3 ws3 _ q e (λ s3 k4 ws4 w4 p4 e.
    ended (λ q. Spells k ws (stamp_words q.value) q.at q.rest) (record { value = record { s0 = s0; s1 = s1; s2 = s2; s3 = s3 }; at = k4; rest = ws4 }) q
    (spells-both w1 (spells-both w2 (spells-both w3 w4))) e))))

pub item-words-read : (has : Bool) (width k : ℕ) (ws : List ℕ) (q : Read (List ℕ)) → item_words has width k ws ≡ Ok q → Spells k ws q.value q.at q.rest
item-words-read has width k ws q e = many-read (is_if has) width k ws q e

pub copy-read : (width : ℕ) (ok : ℕ → List CopyValue → Bool) (cs : List CopyValue) (k : ℕ) (ws : List ℕ) (q : Read (List CopyValue)) → read_copy width ok cs k ws ≡ Ok q → Added item_and_words cs k ws q
copy-read width ok cs k ws q e =
    word-step (λ x. ok x cs) k ws _ q e (λ x k1 ws1 w1 p1 e.
    step (item_words true width k1 ws1) _ q e (λ words is e.
    ended (Added item_and_words cs k ws) (record { value = cs ++ record { item = x; words = words.value } ∷ []; at = words.at; rest = words.rest }) q
    (record { entry = record { item = x; words = words.value }; value = refl; spells = spells-both w1 (item-words-read true width k1 ws1 words is) }) e))

pub request-read : (n : ℕ) (rs : List RequestValue) (k : ℕ) (ws : List ℕ) (q : Read (List RequestValue)) → read_request n rs k ws ≡ Ok q → Added request_words rs k ws q
request-read n rs k ws q e =
    word-step (λ w. nat_eq w 1 || nat_eq w 3) k ws _ q e (λ code k1 ws1 w1 p1 e.
    word-step (is_below n) k1 ws1 _ q e (λ x k2 ws2 w2 p2 e.
    ended (Added request_words rs k ws) (record { value = rs ++ record { kind = kind_of code; item = x } ∷ []; at = k2; rest = ws2 }) q
    (record { entry = record { kind = kind_of code; item = x }; value = refl; spells = spells-as (ap (λ c. c ∷ x ∷ []) (asked-spelled code p1)) (spells-both w1 w2) }) e))

pub down-read : (n level width : ℕ) (es : List DownValue) (k : ℕ) (ws : List ℕ) (q : Read (List DownValue)) → read_down n level width es k ws ≡ Ok q → Added down_words es k ws q
down-read n level width es k ws q e =
    word-step (is_from_1 5) k ws _ q e (λ code k1 ws1 w1 p1 e.
    word-step (is_below n) k1 ws1 _ q e (λ x k2 ws2 w2 p2 e.
    step (reading.stamp_words level k2 ws2) _ q e (λ stamp stamped e.
    step (item_words (brings_copy (kind_of code)) width stamp.at stamp.rest) _ q e (λ words is e.
    ended (Added down_words es k ws) (record { value = es ++ record { kind = kind_of code; item = x; words = words.value; stamp = stamp.value } ∷ []; at = words.at; rest = words.rest }) q
    (record {
      entry = record { kind = kind_of code; item = x; words = words.value; stamp = stamp.value };
      value = refl;
      spells = spells-as (ap (λ c. c ∷ x ∷ stamp_words stamp.value ++ words.value) (kind-spelled code p1))
          (spells-both w1 (spells-both w2 (spells-both (stamp-read level k2 ws2 stamp stamped) (item-words-read (brings_copy (kind_of code)) width stamp.at stamp.rest words is))));
    }) e))))
