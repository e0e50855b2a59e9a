-- What a bus's new moment does to copies that stay, and to words that come to another place.
use Rattle.std.proofs.Common.{◌≡◌, ℕ, zero, suc, ◌+◌, ◌*◌, ◌<◌, ◌≤◌, true, false, nat_eq, nat_lt, List, [], ◌∷◌, ◌++◌, length, take, None, refl, sym, ap, subst, ◌∙◌, ◌⊎◌, inl, inr, arith}
use Rattle.std.proofs.lemmas.Bool.{and_parts, eqb-true, ltb-true, ltb-false}
use Rattle.std.proofs.lemmas.List.{take-take, length-append}
use Rattle.order_laws.specs.DdmTypes.declared.keys.Stamp.{Stamp}
use Rattle.order_laws.specs.TreeModel.State.Values.{Node, leaf_node, dir_node}
use Rattle.order_laws.specs.TreeModel.State.Leaf.{leaf_entry}
use Rattle.order_laws.specs.TreeModel.State.Place.{Spot}
use Rattle.order_laws.specs.TreeRules.Order.Copies.{CopyAt, copy_here, copies_here, inner}
use Rattle.order_laws.specs.TreeRules.Order.Moments.{less, less_at, moment_at, moment_length, is_under}
use Rattle.order_lists.proofs.Moments.{at_most-at}
use Rattle.order_lists.proofs.Paths.{under-itself, under-append, under-length}
use Rattle.order_laws.specs.Moves.Moved.{Kept, Told, Moved, AllFrom}
use Rattle.order_laws.proofs.Moves.Sources.{AllFrom-same, AllFrom-more}
use Rattle.order_laws.proofs.Moves.Cuts.{Moved-same}
use Rattle.order_laws.proofs.Moves.Leaves.{held_words, entry_copies-are}

-- The moments of a bus before and after a turn: the new one is greater than the old one, and each begins with the moment of the
-- stamp that the bus had taken over last.
pub record IsNext (path bound bound' old new : List ℕ) : Type 0 where
  pub rises : less new old ≡ false
  pub whole : take (moment_length (length path)) new ≡ new
  pub began : take (length bound) old ≡ bound
  pub begins : take (length bound') new ≡ bound'
  pub sized : 2 * length path ≤ length bound + 1
  pub size : 2 * length path ≤ length bound' + 1
  pub bound_rises : less bound' bound ≡ false

-- a copy without an end under the bus, whose clock isn't past this moment as far as the buses above know
pub record Rises (path clock : List ℕ) (k : CopyAt) : Type 0 where
  pub under : is_under path k.place ≡ true
  pub least : (j : ℕ) → j < length path → less_at (moment_length j) clock k.clock ≡ false
  pub fresh : k.end ≡ None

pub take-under : (p q : List ℕ) (n : ℕ) → is_under p q ≡ true → n ≤ length p → take n p ≡ take n q
take-under p q zero h l = refl
take-under [] q (suc n) h l = absurd (omega arith)
take-under (c ∷ p) [] (suc n) h l = cc
take-under (c ∷ p) (d ∷ q) (suc n) h l =
    let parts = and_parts (nat_eq c d) (is_under p q) h in
    let rest = take-under p q n parts.1 (omega arith) in
    rw (eqb-true c d parts.0, rest) refl

-- moments of which one begins with the other
same-begun : (path a b : List ℕ) (j : ℕ) → take (length a) b ≡ a → 2 * length path ≤ length a + 1 → j < length path → take (moment_length j) b ≡ take (moment_length j) a
same-begun path a b j begins size l =
    let fits : moment_length j ≤ length a = omega (arith, size, l) in
    sym (take-take (moment_length j) (length a) b fits) ∙ ap (take (moment_length j)) begins

module _ (path bound bound' old new : List ℕ) (Has : ℕ → Type 0) where
  abbrev Move : CopyAt → CopyAt → Type 0
  Move = Moved path old new Has

  -- a copy that stays, with a clock that rises
  pub clock-risen : (place words a b : List ℕ) → less b a ≡ false → Move (copy_here place a words) (copy_here place b words)
  clock-risen place words a b rises = record { words = refl; end = inl refl; clock = λ j l. inl (record { deep = l; same = refl; clock = at_most-at (moment_length j) a b rises }) }

  pub here-risen : (place a b : List ℕ) → less b a ≡ false → (ws : List (List ℕ)) → AllFrom Move (copies_here place a ws) (copies_here place b ws)
  here-risen place a b rises [] = tt
  here-risen place a b rises (w ∷ ws) = (record { source = copy_here place a w; there = inl refl; related = clock-risen place w a b rises }, AllFrom-more Move (copies_here place a ws) (copies_here place a (w ∷ ws)) (copies_here place b ws) (λ k h. inr h) (here-risen place a b rises ws))

  -- ---- words that come to the parent

  kept-at : (c : List ℕ) (k k' : CopyAt) → Rises path c k → k'.clock ≡ c → is_under path k'.place ≡ true → (j : ℕ) → j < length path → Kept j k k'
  kept-at c k k' r is over j l =
      let longer : length path ≤ length k.place = under-length path k.place r.under in
      record {
        deep = omega (arith, longer, l);
        same = sym (take-under path k'.place (j + 1) over (omega (arith, l))) ∙ take-under path k.place (j + 1) r.under (omega (arith, l));
        clock = subst (λ t. less_at (moment_length j) t k.clock ≡ false) (sym is) (r.least j l);
      }

  pub to-parent : (c : List ℕ) (k : CopyAt) → Rises path c k → Move k (copy_here path c k.words)
  to-parent c k r = record { words = refl; end = inl (sym r.fresh); clock = λ j l. inl (kept-at c k (copy_here path c k.words) r refl (under-itself path) j l) }

  -- words at the parent
  pub parent-rises : (a c words : List ℕ) → less c a ≡ false → Rises path c (copy_here path a words)
  parent-rises a c words h = record { under = under-itself path; least = λ j l. at_most-at (moment_length j) a c h; fresh = refl }

  module _ (next : IsNext path bound bound' old new) where
    -- ---- words that a child was told

    new-rises : (k : CopyAt) → Rises path bound' k → Rises path new k
    new-rises k r = record { under = r.under; least = λ j l. subst (λ t. less t (take (moment_length j) k.clock) ≡ false) (sym (same-begun path bound' new j next.begins next.size l)) (r.least j l); fresh = r.fresh }

    pub to-child : (i : ℕ) (k : CopyAt) → Has i → Rises path bound' k → Move k (copy_here (path ++ i ∷ []) new k.words)
    to-child i k has r = record { words = refl; end = inl (sym r.fresh); clock = clocks } where
      after : CopyAt
      after = copy_here (path ++ i ∷ []) new k.words

      clocks : (j : ℕ) → j < length (path ++ i ∷ []) → Kept j k after ⊎ Told path old new Has j after
      clocks j l =
          let size : length (path ++ i ∷ []) ≡ length path + 1 = length-append path (i ∷ []) in
          elim (nat_lt j (length path)) as (λ b. nat_lt j (length path) ≡ b → Kept j k after ⊎ Told path old new Has j after) [
            | true ↦ λ is. inl (kept-at new k after (new-rises k r) refl (under-append path (i ∷ [])) j (ltb-true j (length path) is))
            | false ↦ λ other.
                let last : j ≡ length path = omega (arith, size, l, ltb-false j (length path) other) in
                inr (record { level = last; child = i; under = under-itself (path ++ i ∷ []); clock = ap (λ k. take (moment_length k) new) last ∙ next.whole; holds = has })
          ] refl

    -- ---- a child's copy

    -- at its old clock, as what stands at the parent may see it
    pub entry-rises : (i : ℕ) (words : List ℕ) → Rises path bound' (copy_here (path ++ i ∷ []) old words)
    entry-rises i words = record { under = under-append path (i ∷ []); least = least; fresh = refl } where
      least : (j : ℕ) → j < length path → less_at (moment_length j) bound' old ≡ false
      least j l = subst (λ t. less (take (moment_length j) bound') t ≡ false) (sym (same-begun path bound old j next.began next.sized l)) (at_most-at (moment_length j) bound bound' next.bound_rises)

module _ (x : ℕ) (path old : List ℕ) (s s' : Stamp) (Has : ℕ → Type 0) (rises : less (moment_at path s') (moment_at path s) ≡ false) where
  abbrev pub at : ℕ → Stamp → Spot
  at i t = record { above = path; number = i; present = t }

  -- a child that is left as it was
  pub inner-risen : (i : ℕ) (n : Node) → AllFrom (Moved path (moment_at path s) (moment_at path s') Has) (inner x (at i s) n) (inner x (at i s') n)
  inner-risen i (leaf_node v) = rw (entry_copies-are (path ++ i ∷ []) (moment_at path s) (leaf_entry x v), entry_copies-are (path ++ i ∷ []) (moment_at path s') (leaf_entry x v)) (here-risen path [] [] (moment_at path s) (moment_at path s') Has (path ++ i ∷ []) (moment_at path s) (moment_at path s') rises (held_words (leaf_entry x v)))
  inner-risen i (dir_node d ns) = AllFrom-same (Moved path (moment_at path s) (moment_at path s') Has) (Moved-same path (moment_at path s) (moment_at path s') Has) (inner x (at i s) (dir_node d ns))
