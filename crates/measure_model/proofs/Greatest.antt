-- The greatest of what is read of a machine in a run is reached, and never exceeded.
-- Letters: t is a turn, m a machine, b the number of a bus, k a number of turns.
use Rattle.std.proofs.Common.{◌≡◌, ◌∙◌, ◌⊎◌, ◌≤◌, ◌<◌, ℕ, zero, suc, List, [], ◌∷◌, inl, inr, take, refl, sym, arith}
use Rattle.std.specs.Prelude.{max}
use Rattle.std.proofs.Math.Nat.{le-max_left, le-max_right, max-eq_left, max-eq_right}
use Rattle.std.proofs.lemmas.Bool.{cases_lt}
use Rattle.recording_model.specs.DdmTypes.declared.turns.Turn.{Turn}
use Rattle.recording_model.specs.TreeModel.State.Values.{MachineValue}
use Rattle.recording_model.specs.TreeModel.Turns.Machine.{run_of, turn_of}
use Rattle.measure_model.specs.Lengths.{greatest, lengths_in, lengths_over, most_in, most_over}
use Rattle.measure_model.specs.Laws.{AreReached, IsGreatest}

-- the greater of two is one of them
either-max : (a b : ℕ) → (max a b ≡ a) ⊎ (max a b ≡ b)
either-max a b = by-case (cases_lt a b) where
  by-case : (a < b) ⊎ (b ≤ a) → (max a b ≡ a) ⊎ (max a b ≡ b)
  by-case (inl less) = inr (max-eq_right (omega (arith, less)))
  by-case (inr least) = inl (max-eq_left least)

module _ (read : MachineValue → ℕ) where
  never-more : (ts : List Turn) (m : MachineValue) (k : ℕ) → read (run_of (take k ts) m).machine ≤ greatest read ts m
  unfolding run_of greatest
  never-more [] m zero = omega arith
  never-more [] m (suc k) = omega arith
  never-more (t ∷ ts) m zero = le-max_left (read m) (greatest read ts (turn_of t m).machine)
  never-more (t ∷ ts) m (suc k) =
      let rest = never-more ts (turn_of t m).machine k in
      let most = le-max_right (read m) (greatest read ts (turn_of t m).machine) in
      omega (arith, rest, most)

  abbrev Reached : List Turn → MachineValue → ℕ → Type 0
  Reached ts m most = (k : ℕ) × (read (run_of (take k ts) m).machine ≡ most)

  either-reached : (t : Turn) (ts : List Turn) (m : MachineValue) (most : ℕ) → Reached ts (turn_of t m).machine most → (max (read m) most ≡ read m) ⊎ (max (read m) most ≡ most) → Reached (t ∷ ts) m (max (read m) most)
  unfolding run_of
  either-reached t ts m most rest (inl first) = (zero, sym first)
  either-reached t ts m most rest (inr later) = (suc rest.0, rest.1 ∙ sym later)

  reached : (ts : List Turn) (m : MachineValue) → Reached ts m (greatest read ts m)
  unfolding run_of greatest
  reached [] m = (zero, refl)
  reached (t ∷ ts) m = either-reached t ts m (greatest read ts (turn_of t m).machine) (reached ts (turn_of t m).machine) (either-max (read m) (greatest read ts (turn_of t m).machine))

  is-greatest : (ts : List Turn) (m : MachineValue) → IsGreatest read ts m (greatest read ts m)
  is-greatest ts m = record { never_more = never-more ts m; reached = reached ts m }

pub reaches-most : (ts : List Turn) (m : MachineValue) → AreReached ts m
unfolding most_over most_in
reaches-most ts m = record {
  over = λ b. record {
    down = is-greatest (λ k. (lengths_over b k).down) ts m;
    requests = is-greatest (λ k. (lengths_over b k).requests) ts m;
    replies = is-greatest (λ k. (lengths_over b k).replies) ts m;
    parking = is-greatest (λ k. (lengths_over b k).parking) ts m;
  };
  inside = λ leaf. record {
    replies = is-greatest (λ k. (lengths_in leaf k).replies) ts m;
    buffer = is-greatest (λ k. (lengths_in leaf k).buffer) ts m;
  };
}
