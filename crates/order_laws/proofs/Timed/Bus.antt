-- A turn of a bus: the rules of time of its directory and of the directories below it, and the leaves below it pair by pair.
use Rattle.std.proofs.Common.{◌≡◌, ℕ, ◌+◌, ◌<◌, Bool, true, List, [], ◌∷◌, ◌++◌, length, refl, sym, ap, subst, ◌∙◌, arith}
use Rattle.std.specs.Prelude.{if◌then◌else◌}
use Rattle.std.specs.List.{AllByRecursion}
use Rattle.std.proofs.lemmas.Bool.{eq-eqb}
use Rattle.std.proofs.lemmas.List.{length-append}
use Rattle.order_laws.specs.DdmTypes.declared.keys.Stamp.{Stamp}
use Rattle.order_laws.specs.DdmTypes.Keys.{stamp_at}
use Rattle.order_laws.specs.TreeModel.State.Values.{DirValue, Node, Nodes, leaf_node, dir_node, no_nodes, more_nodes, nodes, children}
use Rattle.order_laws.specs.TreeModel.State.Directory.{stamp_of}
use Rattle.order_laws.specs.TreeModel.State.Place.{Spot, spot_path, spot_in}
use Rattle.order_laws.specs.TreeRules.Order.Moments.{less, moment_at}
use Rattle.order_laws.specs.TreeRules.Order.Time.{stamp_ends}
use Rattle.order_laws.specs.TreeRules.Order.Places.{leaves_in, placed_leaves, DirAt, dir_path, dirs_in, placed_dirs}
use Rattle.order_lists.proofs.Filters.{each-append, each-left, each-right}
use Rattle.order_laws.proofs.Timed.Rise.{rises-at_top, rises-at_child, ends-at}
use Rattle.order_laws.proofs.Timed.Told.{DirTold, Told, AllTold}
use Rattle.order_laws.proofs.Timed.Rows.{ParentTurned, DownTurned, down_stays, down_grows, down_taken}
use Rattle.order_laws.proofs.Timed.Kept.{DirTimes, told-times, own-times, own-epoch}
use Rattle.order_laws.specs.Pairs.{Pairs}
use Rattle.order_laws.proofs.Pairs.{pairs-append, pairs-itself}
use Rattle.order_laws.proofs.Timed.Leaves.{LeafRisen, LeafRisen-same, bus-risen, same-leaves, same-dirs}

-- what the shape and the rules of time say of a directory below the top
pub record IsDirTimed (strict : Bool) (c : DirAt) : Type 0 where
  pub level : c.dir.level ≡ length (dir_path c)
  pub deep : length (dir_path c) < 4
  pub times : DirTimes strict c.spot.above c.spot.present c.dir.epoch c.dir.down

-- ---- the present stamp of a bus

-- it rises, and has numbers for the levels down to its own alone
pub record BusRises (path : List ℕ) (d q : DirValue) : Type 0 where
  pub deep : length path < 4
  pub rise : less (moment_at path (stamp_of d)) (moment_at path (stamp_of q)) ≡ true
  pub ends : stamp_ends (length path + 1) (stamp_of q) ≡ true

pub stamp_of-ends : (path : List ℕ) (q : DirValue) → q.level ≡ length path → length path < 4 → stamp_ends (length path) q.epoch ≡ true → stamp_ends (length path + 1) (stamp_of q) ≡ true
stamp_of-ends path q level deep ends = subst (λ l. stamp_ends (length path + 1) (stamp_at q.epoch l q.count) ≡ true) (sym level) (ends-at (length path) q.count q.epoch deep ends)

-- the top takes over no stamp
pub top-epoch : (above : Stamp) (d q : DirValue) → d.level ≡ 0 → DownTurned above d q → q.epoch ≡ d.epoch
top-epoch above d q level (down_stays down epoch) = epoch
top-epoch above d q level (down_grows e down stamp kind epoch) = epoch
top-epoch above d q level (down_taken e rest front down epoch) = epoch ∙ ap (λ b. if b then d.epoch else e.stamp) (eq-eqb d.level 0 level)

pub top-rises : (above : Stamp) (d q : DirValue) → d.level ≡ 0 → stamp_ends 0 d.epoch ≡ true → ParentTurned above d q → BusRises [] d q
top-rises above d q level ends turned = record {
  deep = omega arith;
  rise = rises-at_top d q (record { before = level; after = turned.level ∙ level; deep = omega arith; count = turned.count });
  ends = stamp_of-ends [] q (turned.level ∙ level) (omega arith) (subst (λ e. stamp_ends 0 e ≡ true) (sym (top-epoch above d q level turned.down)) ends);
}

module _ (strict : Bool) where
  module _ (c : Spot) (d q : DirValue) (ends : stamp_ends (length c.above + 1) c.present ≡ true) (turned : ParentTurned c.present d q) (timed : IsDirTimed strict (record { spot = c; dir = d })) where
    pub child-timed : IsDirTimed strict (record { spot = c; dir = q })
    child-timed = record { level = turned.level ∙ timed.level; deep = timed.deep; times = own-times strict c d q timed.level ends turned.down timed.times }

    pub child-rises : BusRises (spot_path c) d q
    child-rises = record {
      deep = timed.deep;
      rise = rises-at_child c d q (record { before = timed.level; after = turned.level ∙ timed.level; deep = timed.deep; count = turned.count }) (own-epoch strict c d q timed.level turned.down timed.times);
      ends = stamp_of-ends (spot_path c) q (turned.level ∙ timed.level) timed.deep (subst (λ l. stamp_ends l q.epoch ≡ true) (sym (length-append c.above (c.number ∷ []))) child-timed.times.ends);
    }

  -- ---- its children

  told-stamp : (s : Stamp) (d e : DirValue) → DirTold s d e → stamp_of e ≡ stamp_of d
  told-stamp s d e told = rw (told.epoch, told.level, told.count) refl

  module _ (path : List ℕ) (d q : DirValue) (bus : BusRises path d q) where
    kid-dirs : (i : ℕ) (n k : Node) → Told (stamp_of q) n k → AllByRecursion (IsDirTimed strict) (dirs_in (spot_in path d i) n) → AllByRecursion (IsDirTimed strict) (dirs_in (spot_in path q i) k)
    kid-dirs i (leaf_node v) (leaf_node w) told h = tt
    kid-dirs i (leaf_node v) (dir_node e ms) told h = absurd told
    kid-dirs i (dir_node e ms) (leaf_node w) told h = absurd told
    kid-dirs i (dir_node e ms) (dir_node f ls) told h =
        (record { level = told.0.level ∙ h.0.level; deep = h.0.deep; times = told-times strict path (stamp_of d) (stamp_of q) e f bus.rise bus.ends told.0 h.0.times }, subst (λ l. AllByRecursion (IsDirTimed strict) (placed_dirs (path ++ i ∷ []) f 0 l)) (sym told.1) (subst (AllByRecursion (IsDirTimed strict)) (sym (same-dirs (path ++ i ∷ []) e f (told-stamp (stamp_of q) e f told.0) 0 ms)) h.1))

    pub kids-dirs : (i : ℕ) (ns : Nodes) (ks : List Node) → AllTold (stamp_of q) (children ns) ks → AllByRecursion (IsDirTimed strict) (placed_dirs path d i ns) → AllByRecursion (IsDirTimed strict) (placed_dirs path q i (nodes ks))
    kids-dirs i no_nodes [] told h = tt
    kids-dirs i no_nodes (k ∷ ks) told h = absurd told
    kids-dirs i (more_nodes n ns) [] told h = absurd told
    kids-dirs i (more_nodes n ns) (k ∷ ks) told h = each-append _ (dirs_in (spot_in path q i) k) _ (kid-dirs i n k told.0 (each-left _ (dirs_in (spot_in path d i) n) _ h)) (kids-dirs (i + 1) ns ks told.1 (each-right _ (dirs_in (spot_in path d i) n) _ h))

    kid-leaves : (i : ℕ) (n k : Node) → Told (stamp_of q) n k → Pairs LeafRisen (leaves_in (spot_in path d i) n) (leaves_in (spot_in path q i) k)
    kid-leaves i (leaf_node v) (leaf_node w) told = (bus-risen path i (stamp_of d) (stamp_of q) v w bus.deep bus.rise told.number, tt)
    kid-leaves i (leaf_node v) (dir_node e ms) told = absurd told
    kid-leaves i (dir_node e ms) (leaf_node w) told = absurd told
    kid-leaves i (dir_node e ms) (dir_node f ls) told = subst (λ l. Pairs LeafRisen (placed_leaves (path ++ i ∷ []) e 0 ms) (placed_leaves (path ++ i ∷ []) f 0 l)) (sym told.1) (subst (Pairs LeafRisen (placed_leaves (path ++ i ∷ []) e 0 ms)) (sym (same-leaves (path ++ i ∷ []) e f (told-stamp (stamp_of q) e f told.0) 0 ms)) (pairs-itself LeafRisen LeafRisen-same (placed_leaves (path ++ i ∷ []) e 0 ms)))

    pub kids-leaves : (i : ℕ) (ns : Nodes) (ks : List Node) → AllTold (stamp_of q) (children ns) ks → Pairs LeafRisen (placed_leaves path d i ns) (placed_leaves path q i (nodes ks))
    kids-leaves i no_nodes [] told = tt
    kids-leaves i no_nodes (k ∷ ks) told = absurd told
    kids-leaves i (more_nodes n ns) [] told = absurd told
    kids-leaves i (more_nodes n ns) (k ∷ ks) told = pairs-append LeafRisen (leaves_in (spot_in path d i) n) (leaves_in (spot_in path q i) k) _ _ (kid-leaves i n k told.0) (kids-leaves (i + 1) ns ks told.1)
