-- Leaves before and after a turn, pair by pair: at one path, with one number, and the key of an instruction that would complete
-- now doesn't fall.
use Rattle.std.proofs.Common.{◌≡◌, ℕ, ◌+◌, ◌<◌, ◌≤◌, true, false, ◌⊎◌, inl, inr, List, [], ◌∷◌, ◌++◌, length, take, refl, sym, ap, ◌∙◌, arith}
use Rattle.std.proofs.lemmas.Bool.{cases_lt}
use Rattle.std.proofs.lemmas.List.{take_at}
use Rattle.order_laws.specs.DdmTypes.declared.keys.Stamp.{Stamp}
use Rattle.order_laws.specs.TreeModel.State.Values.{LeafValue, DirValue, Nodes, no_nodes, more_nodes}
use Rattle.order_laws.specs.TreeModel.State.Directory.{stamp_of}
use Rattle.order_laws.specs.TreeModel.State.Place.{Spot, spot_in}
use Rattle.order_laws.specs.TreeRules.Order.Moments.{less, moment_at, spot_moment}
use Rattle.order_laws.specs.TreeRules.Order.Places.{LeafAt, leaf_path, leaf_now, leaves_in, placed_leaves, dirs_in, placed_dirs}
use Rattle.order_lists.proofs.Moments.{less-irreflexive, less-asymmetric, less_at-less, least-head, least-tail}
use Rattle.order_lists.proofs.Stamps.{same_length}

-- ---- a leaf

pub record LeafRisen (a b : LeafAt) : Type 0 where
  pub path : leaf_path b ≡ leaf_path a
  pub number : b.leaf.number ≡ a.leaf.number
  pub now : less (leaf_now b) (leaf_now a) ≡ false

pub LeafRisen-same : (a : LeafAt) → LeafRisen a a
LeafRisen-same a = record { path = refl; number = refl; now = less-irreflexive (leaf_now a) }

less-prefix : (m a b : List ℕ) → less b a ≡ false → less (m ++ b) (m ++ a) ≡ false
less-prefix [] a b h = h
less-prefix (n ∷ m) a b h = least-tail n n (m ++ b) (m ++ a) refl (less-prefix m a b h)

less-behind : (a b x y : List ℕ) → length a ≡ length b → less a b ≡ true → less (a ++ x) (b ++ y) ≡ true
less-behind a b x y l h = less_at-less (length a) (a ++ x) (b ++ y) (ap (λ t. less t (take (length a) (b ++ y))) (take_at a x (length a) refl) ∙ ap (less a) (take_at b y (length a) (sym l)) ∙ h)

-- its hart completes no instruction or one
pub hart-risen : (c : Spot) (v w : LeafValue) → w.number ≡ v.number → v.done ≤ w.done → LeafRisen (record { spot = c; leaf = v }) (record { spot = c; leaf = w })
hart-risen c v w number done = record { path = refl; number = number; now = less-prefix (spot_moment c) (c.number ∷ v.done ∷ []) (c.number ∷ w.done ∷ []) (least-tail c.number c.number (w.done ∷ []) (v.done ∷ []) refl (go (cases_lt v.done w.done))) } where
  go : (v.done < w.done) ⊎ (w.done ≤ v.done) → less (w.done ∷ []) (v.done ∷ []) ≡ false
  go (inl h) = least-head w.done v.done [] [] h
  go (inr h) = least-tail w.done v.done [] [] (omega (arith, h, done)) refl

-- the bus above it rises
pub bus-risen : (path : List ℕ) (i : ℕ) (old new : Stamp) (v w : LeafValue) → length path < 4 → less (moment_at path old) (moment_at path new) ≡ true → w.number ≡ v.number → LeafRisen (record { spot = record { above = path; number = i; present = old }; leaf = v }) (record { spot = record { above = path; number = i; present = new }; leaf = w })
bus-risen path i old new v w short rise number = record { path = refl; number = number; now = less-asymmetric (moment_at path old ++ i ∷ v.done ∷ []) (moment_at path new ++ i ∷ w.done ∷ []) (less-behind (moment_at path old) (moment_at path new) (i ∷ v.done ∷ []) (i ∷ w.done ∷ []) (same_length path old new short) rise) }

-- ---- below a directory whose bus has the same stamp

pub same-leaves : (path : List ℕ) (d e : DirValue) → stamp_of e ≡ stamp_of d → (i : ℕ) (ns : Nodes) → placed_leaves path e i ns ≡ placed_leaves path d i ns
same-leaves path d e same i no_nodes = refl
same-leaves path d e same i (more_nodes n ns) = ap (λ s. leaves_in (record { above = path; number = i; present = s }) n ++ placed_leaves path e (i + 1) ns) same ∙ ap (λ l. leaves_in (spot_in path d i) n ++ l) (same-leaves path d e same (i + 1) ns)

pub same-dirs : (path : List ℕ) (d e : DirValue) → stamp_of e ≡ stamp_of d → (i : ℕ) (ns : Nodes) → placed_dirs path e i ns ≡ placed_dirs path d i ns
same-dirs path d e same i no_nodes = refl
same-dirs path d e same i (more_nodes n ns) = ap (λ s. dirs_in (record { above = path; number = i; present = s }) n ++ placed_dirs path e (i + 1) ns) same ∙ ap (λ l. dirs_in (spot_in path d i) n ++ l) (same-dirs path d e same (i + 1) ns)
