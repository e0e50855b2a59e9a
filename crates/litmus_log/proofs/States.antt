-- The words of a state, printed one target more at a time.
use Rattle.std.proofs.Common.{◌≡◌, ℕ, ◌+◌, ◌<◌, ◌≤◌, List, [], ◌∷◌, ◌++◌, length, drop, get_or, inl, inr, refl, sym, ap, ◌∙◌, suc, add-one, append_assoc, arith}
use Rattle.std.specs.Prelude.{◌⊎◌, codes, min}
use Rattle.std.proofs.Math.Seq.{drop-cons}
use Rattle.std.proofs.Math.ListN.{drop_of_length-le}
use Rattle.std.proofs.lemmas.List.{append-nil}
use Rattle.ddm_text.specs.Adds.{Adds}
use Rattle.litmus_model.specs.declared.parts.Target.{Target}
use Rattle.litmus_model.specs.StatesText.{observed_text, others_text, state_text, targets_text}
use Rattle.litmus_model.specs.Test.{Test}
use Rattle.litmus_log.proofs.Either.{either}

module _ (test : Test) (item_bytes : ℕ) where
  -- what is left after one target more
  pub other_next : (old mid : List ℕ) (ts : List Target) (ws : List ℕ) (k : ℕ) (d : Target) (e : ℕ) → k < length ts → k < length ws
      → Adds old mid (codes " " ++ observed_text test item_bytes (get_or ts k d) (get_or ws k e))
      → old ++ others_text test item_bytes (drop k ts) (drop k ws) ≡ mid ++ others_text test item_bytes (drop (k + 1) ts) (drop (k + 1) ws)
  unfolding others_text
  other_next old mid ts ws k d e inside within added =
      let text = codes " " ++ observed_text test item_bytes (get_or ts k d) (get_or ws k e) in
      rw (add-one, drop-cons ts k d inside, drop-cons ws k e within, added.is)
      (sym (append_assoc old text (others_text test item_bytes (drop (suc k) ts) (drop (suc k) ws))))

  no_more : (ts : List Target) → others_text test item_bytes ts [] ≡ []
  unfolding others_text
  no_more [] = refl
  no_more (t ∷ ts) = refl

  no_more_targets : (ts : List Target) (ws : List ℕ) (k : ℕ) → length ts ≤ k → others_text test item_bytes (drop k ts) (drop k ws) ≡ []
  unfolding others_text
  no_more_targets ts ws k past = rw (drop_of_length-le ts past) refl

  no_more_words : (ts : List Target) (ws : List ℕ) (k : ℕ) → length ws ≤ k → others_text test item_bytes (drop k ts) (drop k ws) ≡ []
  no_more_words ts ws k past = rw (drop_of_length-le ws past) (no_more (drop k ts))

  pub others_done : (old : List ℕ) (ts : List Target) (ws : List ℕ) (k : ℕ) → min (length ts) (length ws) ≤ k → old ++ others_text test item_bytes (drop k ts) (drop k ws) ≡ old
  others_done old ts ws k past = ap (λ text. old ++ text) (by (either (length ts) (length ws) k past)) ∙ append-nil old where
    by : (length ts ≤ k) ⊎ (length ws ≤ k) → others_text test item_bytes (drop k ts) (drop k ws) ≡ []
    by (inl p) = no_more_targets ts ws k p
    by (inr p) = no_more_words ts ws k p

-- where nothing is observed
pub nothing_observed : (test : Test) (item_bytes : ℕ) (ws : List ℕ) → length test.observed ≡ 0 → state_text test item_bytes ws ≡ []
unfolding state_text
nothing_observed test item_bytes ws none = by test.observed none where
  by : (ts : List Target) → length ts ≡ 0 → targets_text test item_bytes ts ws ≡ []
  by [] none = refl
  by (t ∷ ts) none = absurd (omega (arith, none))

pub no_words : (test : Test) (item_bytes : ℕ) (ws : List ℕ) → length ws ≡ 0 → state_text test item_bytes ws ≡ []
unfolding state_text
no_words test item_bytes ws none = by test.observed ws none where
  by : (ts : List Target) (vs : List ℕ) → length vs ≡ 0 → targets_text test item_bytes ts vs ≡ []
  by [] vs none = refl
  by (t ∷ ts) [] none = refl
  by (t ∷ ts) (v ∷ vs) none = absurd (omega (arith, none))

-- the first and the others
pub first_and_others : (test : Test) (item_bytes : ℕ) (ws : List ℕ) (d : Target) (e : ℕ) → 0 < length test.observed → 0 < length ws
    → state_text test item_bytes ws ≡ observed_text test item_bytes (get_or test.observed 0 d) (get_or ws 0 e) ++ others_text test item_bytes (drop 1 test.observed) (drop 1 ws)
unfolding state_text
first_and_others test item_bytes ws d e some words = rw (drop-cons test.observed 0 d some, drop-cons ws 0 e words) refl

-- a state has no text, or that of the first target and those of the others
pub ruleset some_or_none = (nothing_observed, no_words, first_and_others)
