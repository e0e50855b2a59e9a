-- One more turn is made: the greatest lengths.
-- Letters: t is a turn after ts, m the machine before them, b the number of a bus, k that of a leaf, l and n are lengths.
use Rattle.std.proofs.Common.{◌≡◌, ◌∙◌, ◌⊎◌, ◌≤◌, ◌<◌, inl, inr, ℕ, List, [], ◌∷◌, ◌++◌, refl, sym, ap, arith}
use Rattle.std.specs.Prelude.{max}
use Rattle.std.proofs.Math.Nat.{le-max_right, max-eq_left, max-eq_right}
use Rattle.std.proofs.lemmas.Bool.{cases_lt}
use Rattle.ddm_types.specs.declared.turns.Turn.{Turn}
use Rattle.recording_model.specs.TreeModel.State.Values.{MachineValue}
use Rattle.recording_model.specs.TreeModel.Turns.Machine.{run_of, turn_of}
use Rattle.tree_model.specs.declared.DirLengths.{DirLengths}
use Rattle.tree_model.specs.declared.LeafLengths.{LeafLengths}
use Rattle.measure_model.specs.Lengths.{greatest, lengths_in, lengths_over, most_in, most_over}
use Rattle.measuring.specs.Seen.{leaf_raised, raised}

max-assoc : (a b c : ℕ) → max (max a b) c ≡ max a (max b c)
max-assoc a b c = by_case (cases_lt a b) (cases_lt b c) where
  by_case : (a < b) ⊎ (b ≤ a) → (b < c) ⊎ (c ≤ b) → max (max a b) c ≡ max a (max b c)
  by_case (inl ab) (inl bc) = ap (λ x. max x c) (max-eq_right (omega (arith, ab))) ∙ max-eq_right (omega (arith, bc)) ∙ sym (ap (max a) (max-eq_right (omega (arith, bc))) ∙ max-eq_right (omega (arith, ab, bc)))
  by_case (inl ab) (inr cb) = ap (λ x. max x c) (max-eq_right (omega (arith, ab))) ∙ max-eq_left cb ∙ sym (ap (max a) (max-eq_left cb) ∙ max-eq_right (omega (arith, ab)))
  by_case (inr ba) (inl bc) = ap (λ x. max x c) (max-eq_left ba) ∙ sym (ap (max a) (max-eq_right (omega (arith, bc))))
  by_case (inr ba) (inr cb) = ap (λ x. max x c) (max-eq_left ba) ∙ max-eq_left (omega (arith, ba, cb)) ∙ sym (ap (max a) (max-eq_left cb) ∙ max-eq_left ba)

module _ (read : MachineValue → ℕ) where
  greatest-more : (ts : List Turn) (t : Turn) (m : MachineValue) → greatest read (ts ++ t ∷ []) m ≡ max (greatest read ts m) (read (run_of (ts ++ t ∷ []) m).machine)
  unfolding greatest run_of
  greatest-more [] t m = refl
  greatest-more (u ∷ ts) t m =
      ap (max (read m)) (greatest-more ts t (turn_of u m).machine) ∙ sym (max-assoc (read m) (greatest read ts (turn_of u m).machine) (read (run_of (ts ++ t ∷ []) (turn_of u m).machine).machine))

  greatest-last : (ts : List Turn) (m : MachineValue) → read (run_of ts m).machine ≤ greatest read ts m
  unfolding greatest run_of
  greatest-last [] m = omega arith
  greatest-last (u ∷ ts) m =
      let rest = greatest-last ts (turn_of u m).machine in
      let most = le-max_right (read m) (greatest read ts (turn_of u m).machine) in
      omega (arith, rest, most)

  greatest-kept : (ts : List Turn) (m : MachineValue) (n : ℕ) → n ≡ read (run_of ts m).machine → max (greatest read ts m) n ≡ greatest read ts m
  greatest-kept ts m n same = let last = greatest-last ts m in max-eq_left (omega (arith, last, same))

module _ (ts : List Turn) (t : Turn) (m : MachineValue) where
  pub most-more : (b : ℕ) → most_over (ts ++ t ∷ []) m b ≡ raised (most_over ts m b) (lengths_over b (run_of (ts ++ t ∷ []) m).machine)
  unfolding most_over
  most-more b = rw (greatest-more (λ k. (lengths_over b k).down) ts t m, greatest-more (λ k. (lengths_over b k).requests) ts t m, greatest-more (λ k. (lengths_over b k).replies) ts t m, greatest-more (λ k. (lengths_over b k).parking) ts t m) refl

  pub leaf-most-more : (k : ℕ) → most_in (ts ++ t ∷ []) m k ≡ leaf_raised (most_in ts m k) (lengths_in k (run_of (ts ++ t ∷ []) m).machine)
  unfolding most_in
  leaf-most-more k = rw (greatest-more (λ n. (lengths_in k n).replies) ts t m, greatest-more (λ n. (lengths_in k n).buffer) ts t m) refl

pub most-kept : (ts : List Turn) (m : MachineValue) (b : ℕ) (l : DirLengths) → l ≡ lengths_over b (run_of ts m).machine → raised (most_over ts m b) l ≡ most_over ts m b
unfolding most_over
most-kept ts m b l same =
    rw (
      greatest-kept (λ k. (lengths_over b k).down) ts m l.down (ap (λ n. n.down) same),
      greatest-kept (λ k. (lengths_over b k).requests) ts m l.requests (ap (λ n. n.requests) same),
      greatest-kept (λ k. (lengths_over b k).replies) ts m l.replies (ap (λ n. n.replies) same),
      greatest-kept (λ k. (lengths_over b k).parking) ts m l.parking (ap (λ n. n.parking) same),
    ) refl

pub leaf-most-kept : (ts : List Turn) (m : MachineValue) (k : ℕ) (l : LeafLengths) → l ≡ lengths_in k (run_of ts m).machine → leaf_raised (most_in ts m k) l ≡ most_in ts m k
unfolding most_in
leaf-most-kept ts m k l same =
    rw (greatest-kept (λ n. (lengths_in k n).replies) ts m l.replies (ap (λ n. n.replies) same), greatest-kept (λ n. (lengths_in k n).buffer) ts m l.buffer (ap (λ n. n.buffer) same)) refl

-- ---- what is raised twice

pub raised-twice : (l n : DirLengths) → raised (raised l n) n ≡ raised l n
raised-twice l n = rw (twice l.down n.down, twice l.requests n.requests, twice l.replies n.replies, twice l.parking n.parking) refl where
  twice : (a b : ℕ) → max (max a b) b ≡ max a b
  twice a b = max-eq_left (le-max_right a b)

pub leaf-raised-twice : (l n : LeafLengths) → leaf_raised (leaf_raised l n) n ≡ leaf_raised l n
leaf-raised-twice l n = rw (twice l.replies n.replies, twice l.buffer n.buffer) refl where
  twice : (a b : ℕ) → max (max a b) b ≡ max a b
  twice a b = max-eq_left (le-max_right a b)
