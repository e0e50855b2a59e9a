-- Moments of stamps: in the order of the stamps, and a moment of a bus begins with one of each bus above it.
use Rattle.std.proofs.Common.{◌≡◌, ℕ, zero, suc, ◌+◌, ◌*◌, ◌<◌, Bool, true, false, ◌&&◌, ◌||◌, nat_eq, nat_lt, ◌⊎◌, inl, inr, List, [], ◌∷◌, ◌++◌, length, take, refl, sym, ap, ◌∙◌, arith}
use Rattle.std.proofs.lemmas.Bool.{eq-eqb, le-ltb}
use Rattle.std.proofs.lemmas.List.{take_at, take-take, length-append}
use Rattle.order_lists.specs.DdmTypes.declared.keys.Stamp.{Stamp}
use Rattle.order_lists.specs.DdmTypes.Keys.{stamp_at, stamp_numbers}
use Rattle.order_lists.specs.TreeModel.State.Place.{Spot, spot_path}
use Rattle.tree_rules.specs.Order.Moments.{less, moment_of, moment_at, moment_length}
use Rattle.order_lists.proofs.Moments.{less-head, less-tail, least-parts}

-- of one bus: in the order of their stamps
pub moment-less : (a b path : List ℕ) → length a ≡ length path + 1 → length b ≡ length path + 1 → less (moment_of a path) (moment_of b path) ≡ less a b
moment-less [] b path h k = absurd (omega arith)
moment-less (s ∷ a) [] path h k = absurd (omega arith)
moment-less (s ∷ []) (t ∷ []) [] h k = refl
moment-less (s ∷ []) (t ∷ u ∷ b) [] h k = absurd (omega arith)
moment-less (s ∷ r ∷ a) (t ∷ b) [] h k = absurd (omega arith)
moment-less (s ∷ a) (t ∷ b) (c ∷ path) h k = go (moment-less a b path (omega arith) (omega arith)) where
  go : less (moment_of a path) (moment_of b path) ≡ less a b → less (s ∷ c ∷ moment_of a path) (t ∷ c ∷ moment_of b path) ≡ less (s ∷ a) (t ∷ b)
  go rest = rw rest (rw (eq-eqb c c refl) (ap (λ q. nat_lt s t || (nat_eq s t && q)) (below c (less a b)))) where
    below : (n : ℕ) (q : Bool) → (nat_lt n n || q) ≡ q
    below n q = rw (le-ltb n n (omega arith)) refl

-- its leading numbers are a moment of each bus above
pub moment-take : (j : ℕ) (stamp path : List ℕ) → take (2 * j + 1) (moment_of stamp path) ≡ moment_of (take (j + 1) stamp) (take j path)
moment-take j [] path = go (2 * j + 1) (j + 1) where
  go : (m n : ℕ) → take m [] ≡ moment_of (take n []) (take j path)
  go zero zero = refl
  go zero (suc n) = refl
  go (suc m) zero = refl
  go (suc m) (suc n) = refl
moment-take zero (s ∷ stamp) [] = refl
moment-take zero (s ∷ stamp) (c ∷ path) = refl
moment-take (suc j) (s ∷ stamp) [] =
    let e : 2 * suc j + 1 ≡ suc (suc (2 * j + 1)) = omega arith in
    let f : suc j + 1 ≡ suc (j + 1) = omega arith in
    rw (e, f) refl
moment-take (suc j) (s ∷ stamp) (c ∷ path) =
    let e : 2 * suc j + 1 ≡ suc (suc (2 * j + 1)) = omega arith in
    let f : suc j + 1 ≡ suc (j + 1) = omega arith in
    rw (e, f) (ap (λ l. s ∷ c ∷ l) (moment-take j stamp path))

-- a later number behind numbers that aren't greater
pub less-push : (a b : List ℕ) (m n : ℕ) → length a ≡ length b → less b a ≡ false → m < n → less (a ++ m ∷ []) (b ++ n ∷ []) ≡ true
less-push [] [] m n l h k = less-head m n [] [] k
less-push [] (t ∷ b) m n l h k = absurd (omega arith)
less-push (s ∷ a) [] m n l h k = absurd (omega arith)
less-push (s ∷ a) (t ∷ b) m n l h k = go (least-parts t s b a h) (less-push a b m n (omega arith)) where
  go : (s < t) ⊎ ((t ≡ s) × (less b a ≡ false)) → (less b a ≡ false → m < n → less (a ++ m ∷ []) (b ++ n ∷ []) ≡ true) → less (s ∷ (a ++ m ∷ [])) (t ∷ (b ++ n ∷ [])) ≡ true
  go (inl i) rest = less-head s t (a ++ m ∷ []) (b ++ n ∷ []) i
  go (inr i) rest = less-tail s t (a ++ m ∷ []) (b ++ n ∷ []) (sym i.0) (rest i.1 k)

-- ---- of records

stamp_list : Stamp → List ℕ
stamp_list t = t.s0 ∷ t.s1 ∷ t.s2 ∷ t.s3 ∷ []

-- the number of a level changes none before it
stamp_at-take : (l level n : ℕ) (t : Stamp) → l < level → level < 4 → take (l + 1) (stamp_list (stamp_at t level n)) ≡ take (l + 1) (stamp_list t)
unfolding stamp_list
stamp_at-take l zero n t h k = absurd (omega arith)
stamp_at-take zero (suc zero) n t h k = refl
stamp_at-take (suc l) (suc zero) n t h k = absurd (omega arith)
stamp_at-take zero (suc (suc zero)) n t h k = refl
stamp_at-take (suc zero) (suc (suc zero)) n t h k = refl
stamp_at-take (suc (suc l)) (suc (suc zero)) n t h k = absurd (omega arith)
stamp_at-take zero (suc (suc (suc zero))) n t h k = refl
stamp_at-take (suc zero) (suc (suc (suc zero))) n t h k = refl
stamp_at-take (suc (suc zero)) (suc (suc (suc zero))) n t h k = refl
stamp_at-take (suc (suc (suc l))) (suc (suc (suc zero))) n t h k = absurd (omega arith)
stamp_at-take l (suc (suc (suc (suc level)))) n t h k = absurd (omega arith)

-- a moment on a child's own bus begins with one on the bus above it
pub moment_at-above : (c : Spot) (t : Stamp) → take (moment_length (length c.above)) (moment_at (spot_path c) t) ≡ moment_at c.above t
unfolding stamp_list
moment_at-above c t =
    let e : length (spot_path c) ≡ length c.above + 1 = length-append c.above (c.number ∷ []) in
    moment-take (length c.above) (stamp_numbers (length (spot_path c)) t) (spot_path c) ∙ ap (λ p. moment_of (take (length c.above + 1) (stamp_numbers (length (spot_path c)) t)) p) (take_at c.above (c.number ∷ []) (length c.above) refl) ∙ ap (λ q. moment_of q c.above) (ap (λ k. take (length c.above + 1) (take (k + 1) (stamp_list t))) e ∙ take-take (length c.above + 1) (length c.above + 1 + 1) (stamp_list t) (omega arith))

-- the present stamp of a directory's bus goes on from its epoch
pub moment_at-stamp : (above : List ℕ) (level n : ℕ) (t : Stamp) → length above < level → level < 4 → moment_at above (stamp_at t level n) ≡ moment_at above t
unfolding stamp_list
moment_at-stamp above level n t h k = ap (λ q. moment_of q above) (stamp_at-take (length above) level n t h k)

pub moment_at-length : (above : List ℕ) (t : Stamp) → length above < 4 → length (moment_at above t) ≡ moment_length (length above)
unfolding stamp_list
moment_at-length above t h = go (stamp_list t) above (omega arith) where
  go : (ns path : List ℕ) → length path < length ns → length (moment_of (take (length path + 1) ns) path) ≡ 2 * length path + 1
  go [] path h = absurd (omega arith)
  go (s ∷ ns) [] h = refl
  go (s ∷ ns) (c ∷ path) h =
      let e : suc (length path) + 1 ≡ suc (length path + 1) = omega arith in
      rw e (let rest : length (moment_of (take (length path + 1) ns) path) ≡ 2 * length path + 1 = go ns path (omega arith) in omega (arith, rest))

-- stamps on one bus give moments of one length
pub same_length : (above : List ℕ) (a b : Stamp) → length above < 4 → length (moment_at above a) ≡ length (moment_at above b)
same_length above a b h = moment_at-length above a h ∙ sym (moment_at-length above b h)
