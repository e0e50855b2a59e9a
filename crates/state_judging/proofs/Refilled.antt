-- A tree with other leaves and directories at their numbers, which have the same numbers, levels and sizes: it has the same skeleton,
-- and what holds of the parts holds in it.
-- Letters: us are leaves, ds directories, n is how many items there are, v a leaf and d a directory of the tree before.
use Rattle.std.specs.Prelude.{◌≡◌, ℕ, suc, true, List, length, slice_index_or, refl}
use Rattle.std.specs.List.{list_all}
use Rattle.std.proofs.Common.{sym, ap, subst, ◌∙◌}
use Rattle.std.specs.Cmp.Derive.{both_true}
use Rattle.state_judging.specs.TreeModel.State.Shape.{skeleton, skeletons}
use Rattle.state_judging.specs.TreeModel.State.Values.{LeafValue, DownValue, DirValue, Node, Nodes, leaf_node, dir_node, no_nodes, more_nodes, children}
use Rattle.state_judging.specs.TreeRules.Bus.Own.{dir_holds}
use Rattle.state_judging.specs.TreeRules.Order.Time.{stamp_ends}
use Rattle.state_reading.specs.Machine.{refilled, refilled_among}
use Rattle.state_judging.specs.Read.{parts_hold, parts_hold_among}
use Rattle.state_judging.proofs.DirRead.{DirRead}
use Rattle.state_judging.proofs.EachBus.{AtDirs, AtDirsAmong}
use Rattle.state_judging.proofs.LeavesRead.{AtLeaves, AtLeavesAmong, WholeRead}

-- stamps have no number of a level that isn't there, by the level that the directory knows
abbrev pub Ends : DirValue → List Node → Type 0
Ends d ns = (stamp_ends d.level d.epoch ≡ true) × (list_all (λ (e : DownValue). stamp_ends d.level e.stamp) d.down ≡ true)

module _ (n : ℕ) (us : List LeafValue) (ds : List DirValue) where
  abbrev pub LeafStands : LeafValue → Type 0
  LeafStands v = WholeRead n v (slice_index_or us v.number v)

  abbrev pub DirStands : DirValue → List Node → Type 0
  DirStands d ns = DirRead n (length ns) d (slice_index_or ds d.bus d)

  -- ---- the skeleton

  mutual
    pub same-bones : (t : Node) → AtLeaves LeafStands t → AtDirs DirStands t → skeleton (refilled us ds t) ≡ skeleton t
    same-bones (leaf_node v) leaves dirs = rw (leaves.number, leaves.sizes) refl
    same-bones (dir_node d ns) leaves dirs = rw (dirs.0.bus, dirs.0.level, dirs.0.sizes, same-bones_among ns leaves dirs.1) refl

    pub same-bones_among : (ns : Nodes) → AtLeavesAmong LeafStands ns → AtDirsAmong DirStands ns → skeletons (refilled_among us ds ns) ≡ skeletons ns
    same-bones_among no_nodes leaves dirs = refl
    same-bones_among (more_nodes t ns) leaves dirs = rw (same-bones t leaves.0 dirs.0, same-bones_among ns leaves.1 dirs.1) refl

  -- ---- its parts

  length-refilled : (ns : Nodes) → length (children (refilled_among us ds ns)) ≡ length (children ns)
  length-refilled no_nodes = refl
  length-refilled (more_nodes t ns) = ap suc (length-refilled ns)

  mutual
    pub parts-refilled : (t : Node) → AtLeaves LeafStands t → AtDirs DirStands t → parts_hold n (refilled us ds t) ≡ true
    parts-refilled (leaf_node v) leaves dirs = both_true leaves.holds leaves.counted
    parts-refilled (dir_node d ns) leaves dirs =
        let own : dir_holds n (length (children (refilled_among us ds ns))) (slice_index_or ds d.bus d) ≡ true = ap (λ kids. dir_holds n kids (slice_index_or ds d.bus d)) (length-refilled ns) ∙ dirs.0.holds in
        both_true (both_true own dirs.0.counted) (parts-refilled_among ns leaves dirs.1)

    pub parts-refilled_among : (ns : Nodes) → AtLeavesAmong LeafStands ns → AtDirsAmong DirStands ns → parts_hold_among n (refilled_among us ds ns) ≡ true
    parts-refilled_among no_nodes leaves dirs = refl
    parts-refilled_among (more_nodes t ns) leaves dirs = both_true (parts-refilled t leaves.0 dirs.0) (parts-refilled_among ns leaves.1 dirs.1)

  -- ---- its stamps

  mutual
    pub ends-refilled : (t : Node) → AtDirs DirStands t → AtDirs Ends (refilled us ds t)
    ends-refilled (leaf_node v) dirs = tt
    ends-refilled (dir_node d ns) dirs = (here, ends-refilled_among ns dirs.1)
      where
        here : (stamp_ends (slice_index_or ds d.bus d).level (slice_index_or ds d.bus d).epoch ≡ true) × (list_all (λ (x : DownValue). stamp_ends (slice_index_or ds d.bus d).level x.stamp) (slice_index_or ds d.bus d).down ≡ true)
        here =
            let level = sym dirs.0.level in (
              subst (λ l. stamp_ends l (slice_index_or ds d.bus d).epoch ≡ true) level dirs.0.epoch,
              subst (λ l. list_all (λ (x : DownValue). stamp_ends l x.stamp) (slice_index_or ds d.bus d).down ≡ true) level dirs.0.stamps,
            )

    pub ends-refilled_among : (ns : Nodes) → AtDirsAmong DirStands ns → AtDirsAmong Ends (refilled_among us ds ns)
    ends-refilled_among no_nodes dirs = tt
    ends-refilled_among (more_nodes t ns) dirs = (ends-refilled t dirs.0, ends-refilled_among ns dirs.1)
