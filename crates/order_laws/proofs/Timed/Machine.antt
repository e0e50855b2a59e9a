-- A turn of a machine keeps the rules of time, where it completes no instruction, and the rule of commands.
use Rattle.std.proofs.Common.{◌≡◌, ℕ, ◌+◌, Bool, true, false, ◌||◌, nat_eq, List, [], ◌∷◌, length, refl, sym, ap, subst, ◌∙◌}
use Rattle.std.specs.List.{AllByRecursion, list_any}
use Rattle.std.proofs.lemmas.Bool.{eqb-true}
use Rattle.std.proofs.lemmas.List.{length-append}
use Rattle.order_laws.specs.DdmTypes.declared.turns.Turn.{Turn}
use Rattle.order_laws.specs.DdmTypes.declared.operations.Op.{Op}
use Rattle.order_laws.specs.TreeModel.State.Values.{DownValue, MachineValue, root_of}
use Rattle.order_laws.specs.TreeModel.State.Shape.{levels_of, depth_of, IsShaped}
use Rattle.order_laws.specs.TreeModel.State.Place.{at_top}
use Rattle.order_laws.specs.TreeModel.Turns.Tree.{has_node}
use Rattle.order_laws.specs.TreeModel.Turns.Machine.{named_by, turn_of}
use Rattle.order_laws.proofs.TreeModel.TurnChanges.{turn-changes_nothing, turn-changes_one_node}
use Rattle.order_laws.proofs.TreeModel.FrameKept.{turn-frame}
use Rattle.order_laws.specs.TreeRules.Statements.{Holds, each, each_pair}
use Rattle.order_laws.specs.TreeRules.Bus.Own.{IsTopOk, top_level, no_epoch}
use Rattle.order_laws.specs.TreeRules.Order.Ops.{op_key}
use Rattle.order_laws.specs.TreeRules.Order.Places.{LeafAt, leaf_now, leaves_at, DirAt, dir_path, dirs_at}
use Rattle.order_laws.specs.TreeRules.Order.Time as time
use Rattle.order_laws.specs.TreeRules.Order.Time.{is_leaf_of, stamp_ends}
use Rattle.order_laws.specs.TreeRules.Order.Core.{is_past_taken}
use Rattle.order_laws.specs.TreeRules.Order.Rules.{TimeRule, keys_differ, ops_of_leaves, keys_end, keys_have_paths, keys_are_past, taken_is_past, stamps_between, stamps_rise, stamps_end, epochs_end, time_rule, IsTimed}
use Rattle.order_laws.proofs.TreeRules.Statements.{each-facts, facts-each}
use Rattle.order_lists.proofs.Filters.{each-weaker, each-both}
use Rattle.order_lists.proofs.Moments.{less-least}
use Rattle.order_lists.proofs.Levels.{IsLevelled, all_levelled}
use Rattle.order_lists.proofs.Queues.{MayFollow, Rises, rises-from_rule}
use Rattle.order_lists.specs.Commands.{CommandsArePastTaken}
use Rattle.order_laws.specs.Timed.{TurnKeepsTime, TurnKeepsCommands}
use Rattle.order_laws.proofs.Timed.Kept.{EntryTimes}
use Rattle.order_laws.specs.Pairs.{Pairs}
use Rattle.order_laws.proofs.Pairs.{pairs-itself}
use Rattle.order_laws.proofs.Timed.Leaves.{LeafRisen, LeafRisen-same}
use Rattle.order_laws.proofs.Timed.Bus.{IsDirTimed}
use Rattle.order_laws.proofs.Timed.Tree.{KeepsTime, part-kept}

-- ---- from the rules to each directory

abbrev IsInRule : DirAt → Type 0
IsInRule c = Holds (time.takes_past c) × Holds (each (time.lies_between c) c.dir.down) × Holds (each_pair (time.may_stand_behind c) c.dir.down) × Holds (each (time.entry_ends c) c.dir.down) × Holds (time.epoch_ends c)

abbrev IsCommanded : Bool → DirAt → Type 0
IsCommanded strict c = strict ≡ true → Holds (each (is_past_taken c) c.dir.down)

child-length : (c : DirAt) → length (dir_path c) ≡ length c.spot.above + 1
child-length c = length-append c.spot.above (c.spot.number ∷ [])

timed_by : (strict : Bool) (c : DirAt) → IsLevelled c → IsInRule c → IsCommanded strict c → IsDirTimed strict c
timed_by strict c l r commands = record {
  level = l.level;
  deep = l.deep;
  times = record {
    taken = r.0;
    ends = subst (λ n. stamp_ends n c.dir.epoch ≡ true) (child-length c) r.4;
    entries = each-both _ _ _ (λ e b f. record { past = b.0; not_ahead = b.1; ends = subst (λ n. stamp_ends n e.stamp ≡ true) (child-length c) f }) c.dir.down (each-facts (time.lies_between c) c.dir.down r.1) (each-facts (time.entry_ends c) c.dir.down r.3);
    rises = rises-from_rule c c.dir.down r.2;
    past = λ s. each-facts (is_past_taken c) c.dir.down (commands s);
  };
}

rules-together : (m : MachineValue) → IsTimed m → AllByRecursion IsInRule (dirs_at m)
rules-together m timed =
    each-both _ _ IsInRule (λ c a b. (a, b.0, b.1, b.2, b.3)) (dirs_at m) (each-facts _ (dirs_at m) (timed.each taken_is_past))
    (each-both _ _ (λ c. Holds (each (time.lies_between c) c.dir.down) × Holds (each_pair (time.may_stand_behind c) c.dir.down) × Holds (each (time.entry_ends c) c.dir.down) × Holds (time.epoch_ends c)) (λ c a b. (a, b.0, b.1, b.2)) (dirs_at m) (each-facts _ (dirs_at m) (timed.each stamps_between))
    (each-both _ _ (λ c. Holds (each_pair (time.may_stand_behind c) c.dir.down) × Holds (each (time.entry_ends c) c.dir.down) × Holds (time.epoch_ends c)) (λ c a b. (a, b.0, b.1)) (dirs_at m) (each-facts _ (dirs_at m) (timed.each stamps_rise))
    (each-both _ _ (λ c. Holds (each (time.entry_ends c) c.dir.down) × Holds (time.epoch_ends c)) (λ c a b. (a, b)) (dirs_at m) (each-facts _ (dirs_at m) (timed.each stamps_end)) (each-facts _ (dirs_at m) (timed.each epochs_end)))))

all-timed : (strict : Bool) (m : MachineValue) → IsShaped m → IsTimed m → AllByRecursion (IsCommanded strict) (dirs_at m) → AllByRecursion (IsDirTimed strict) (dirs_at m)
all-timed strict m shaped timed commands =
    each-both _ _ _ (λ c l h. timed_by strict c l h.0 h.1) (dirs_at m) (all_levelled m shaped) (each-both _ _ (λ c. IsInRule c × IsCommanded strict c) (λ c a b. (a, b)) (dirs_at m) (rules-together m timed) commands)

-- ---- and back

rises-rule : (c : DirAt) (es : List DownValue) → Rises c.spot.above es → Holds (each_pair (time.may_stand_behind c) es)
rises-rule c [] h = tt
rises-rule c (e ∷ es) h = (facts-each (time.may_stand_behind c e) es (each-weaker _ _ (λ f (m : MayFollow c.spot.above e f). (m.falls_not, m.later)) es h.0), rises-rule c es h.1)

module _ (strict : Bool) (m : MachineValue) (h : AllByRecursion (IsDirTimed strict) (dirs_at m)) where
  back : (P : DirAt → Type 0) → ((c : DirAt) → IsDirTimed strict c → P c) → AllByRecursion P (dirs_at m)
  back P f = each-weaker (IsDirTimed strict) P f (dirs_at m) h

  pub takes_past-again : Holds (time_rule taken_is_past m)
  takes_past-again = facts-each time.takes_past (dirs_at m) (back _ (λ c t. t.times.taken))

  pub between-again : Holds (time_rule stamps_between m)
  between-again = facts-each (λ c. each (time.lies_between c) c.dir.down) (dirs_at m) (back _ (λ c t. facts-each (time.lies_between c) c.dir.down (each-weaker _ _ (λ e (i : EntryTimes c.spot.above c.spot.present c.dir.epoch e). (i.past, i.not_ahead)) c.dir.down t.times.entries)))

  pub rise-again : Holds (time_rule stamps_rise m)
  rise-again = facts-each (λ c. each_pair (time.may_stand_behind c) c.dir.down) (dirs_at m) (back _ (λ c t. rises-rule c c.dir.down t.times.rises))

  pub end-again : Holds (time_rule stamps_end m)
  end-again = facts-each (λ c. each (time.entry_ends c) c.dir.down) (dirs_at m) (back _ (λ c t. facts-each (time.entry_ends c) c.dir.down (each-weaker _ _ (λ e (i : EntryTimes c.spot.above c.spot.present c.dir.epoch e). subst (λ n. stamp_ends n e.stamp ≡ true) (sym (child-length c)) i.ends) c.dir.down t.times.entries)))

  pub epochs-again : Holds (time_rule epochs_end m)
  epochs-again = facts-each time.epoch_ends (dirs_at m) (back _ (λ c t. subst (λ n. stamp_ends n c.dir.epoch ≡ true) (sym (child-length c)) t.times.ends))

  pub commands-again : strict ≡ true → CommandsArePastTaken m
  commands-again s = facts-each (λ c. each (is_past_taken c) c.dir.down) (dirs_at m) (back _ (λ c t. facts-each (is_past_taken c) c.dir.down (t.times.past s)))

-- ---- the tree after the turn

record IsAfter (strict : Bool) (m next : MachineValue) : Type 0 where
  dirs : AllByRecursion (IsDirTimed strict) (dirs_at next)
  leaves : Pairs LeafRisen (leaves_at m) (leaves_at next)

kept_at_top : (strict : Bool) (m next : MachineValue) → KeepsTime strict at_top (root_of m) (root_of next) → IsAfter strict m next
unfolding dirs_at leaves_at
kept_at_top strict m next k = record { dirs = k.dirs; leaves = k.leaves }

at_top-dirs : (strict : Bool) (m : MachineValue) → AllByRecursion (IsDirTimed strict) (dirs_at m) → (next : MachineValue) → ((stamp_ends 0 m.top.epoch ≡ true) → m.top.level ≡ 0 → KeepsTime strict at_top (root_of m) (root_of next)) → IsTopOk m.top → IsAfter strict m next
at_top-dirs strict m h next kept top = kept_at_top strict m next (kept (top.each no_epoch) (eqb-true m.top.level 0 (top.each top_level)))

turn-after : (strict : Bool) (t : Turn) (m : MachineValue) → IsTopOk m.top → AllByRecursion (IsDirTimed strict) (dirs_at m) → IsAfter strict m (turn_of t m).machine
unfolding dirs_at
turn-after strict t m top h =
    elim (has_node (named_by t) (root_of m)) as (λ b. has_node (named_by t) (root_of m) ≡ b → IsAfter strict m (turn_of t m).machine) [
      | false ↦ λ absent. subst (λ o. IsAfter strict m o.machine) (sym (turn-changes_nothing t m absent)) (record { dirs = h; leaves = pairs-itself LeafRisen LeafRisen-same (leaves_at m) })
      | true ↦ λ there.
          let at = turn-changes_one_node t m there in
          at_top-dirs strict m h (turn_of t m).machine (λ ends level. part-kept strict t m (turn_of t m).answer at_top at.0 (root_of m) (root_of (turn_of t m).machine) at.1 (level, ends) h) top
    ] refl

-- ---- the keys of the operations, which stay

pairs-any : (h : ℕ) (xs ys : List LeafAt) → Pairs LeafRisen xs ys → list_any (λ a. nat_eq h a.leaf.number) ys ≡ list_any (λ a. nat_eq h a.leaf.number) xs
pairs-any h [] [] p = refl
pairs-any h [] (y ∷ ys) p = absurd p
pairs-any h (x ∷ xs) [] p = absurd p
pairs-any h (x ∷ xs) (y ∷ ys) p = ap (λ n. nat_eq h n || list_any (λ a. nat_eq h a.leaf.number) ys) p.0.number ∙ ap (λ b. nat_eq h x.leaf.number || b) (pairs-any h xs ys p.1)

pairs-each : (P : LeafAt → Type 0) → ((a b : LeafAt) → LeafRisen a b → P a → P b) → (xs ys : List LeafAt) → Pairs LeafRisen xs ys → AllByRecursion P xs → AllByRecursion P ys
pairs-each P f [] [] p h = tt
pairs-each P f [] (y ∷ ys) p h = absurd p
pairs-each P f (x ∷ xs) [] p h = absurd p
pairs-each P f (x ∷ xs) (y ∷ ys) p h = (f x y p.0 h.0, pairs-each P f xs ys p.1 h.1)

-- of one operation and one leaf
path-kept : (depth : ℕ) (o : Op) (a b : LeafAt) → LeafRisen a b → Holds (time.has_leaf_path depth o a) → Holds (time.has_leaf_path depth o b)
path-kept depth o a b r h at = rw r.path (h (subst (λ n. nat_eq o.hart n ≡ true) r.number at))

past-kept : (depth : ℕ) (o : Op) (a b : LeafAt) → LeafRisen a b → Holds (time.is_before_now depth o a) → Holds (time.is_before_now depth o b)
past-kept depth o a b r h at = less-least (op_key depth o) (leaf_now a) (leaf_now b) (h (subst (λ n. nat_eq o.hart n ≡ true) r.number at)) r.now

module _ (m next : MachineValue) (leaves : Pairs LeafRisen (leaves_at m) (leaves_at next)) (ops : next.ops ≡ m.ops) (depth : depth_of next ≡ depth_of m) (timed : IsTimed m) where
  differ-again : Holds (time_rule keys_differ next)
  differ-again = subst (λ l. Holds (each_pair time.keys_differ l)) (sym ops) (timed.each keys_differ)

  of_leaves-again : Holds (time_rule ops_of_leaves next)
  of_leaves-again = subst (λ l. Holds (each (time.has_leaf (leaves_at next)) l)) (sym ops) (facts-each (time.has_leaf (leaves_at next)) m.ops (each-weaker _ _ (λ o h. pairs-any o.hart (leaves_at m) (leaves_at next) leaves ∙ h) m.ops (each-facts (time.has_leaf (leaves_at m)) m.ops (timed.each ops_of_leaves))))

  ends-again : Holds (time_rule keys_end next)
  ends-again = subst (λ l. Holds (each (time.has_ending_key (depth_of next)) l)) (sym ops) (subst (λ n. Holds (each (time.has_ending_key n) m.ops)) (sym depth) (timed.each keys_end))

  paths-again : Holds (time_rule keys_have_paths next)
  paths-again =
      subst (λ l. Holds (each (λ o. each (time.has_leaf_path (depth_of next) o) (leaves_at next)) l)) (sym ops)
      (subst (λ n. Holds (each (λ o. each (time.has_leaf_path n o) (leaves_at next)) m.ops)) (sym depth)
      (facts-each (λ o. each (time.has_leaf_path (depth_of m) o) (leaves_at next)) m.ops
      (each-weaker _ _ (λ o h. facts-each (time.has_leaf_path (depth_of m) o) (leaves_at next) (pairs-each _ (path-kept (depth_of m) o) (leaves_at m) (leaves_at next) leaves (each-facts (time.has_leaf_path (depth_of m) o) (leaves_at m) h))) m.ops (each-facts (λ o. each (time.has_leaf_path (depth_of m) o) (leaves_at m)) m.ops (timed.each keys_have_paths)))))

  past-again : Holds (time_rule keys_are_past next)
  past-again =
      subst (λ l. Holds (each (λ o. each (time.is_before_now (depth_of next) o) (leaves_at next)) l)) (sym ops)
      (subst (λ n. Holds (each (λ o. each (time.is_before_now n o) (leaves_at next)) m.ops)) (sym depth)
      (facts-each (λ o. each (time.is_before_now (depth_of m) o) (leaves_at next)) m.ops
      (each-weaker _ _ (λ o h. facts-each (time.is_before_now (depth_of m) o) (leaves_at next) (pairs-each _ (past-kept (depth_of m) o) (leaves_at m) (leaves_at next) leaves (each-facts (time.is_before_now (depth_of m) o) (leaves_at m) h))) m.ops (each-facts (λ o. each (time.is_before_now (depth_of m) o) (leaves_at m)) m.ops (timed.each keys_are_past)))))

-- ---- the theorems

not_asked : (m : MachineValue) → AllByRecursion (IsCommanded false) (dirs_at m)
not_asked m = go (dirs_at m) where
  go : (ds : List DirAt) → AllByRecursion (IsCommanded false) ds
  go [] = tt
  go (d ∷ ds) = ((λ e. absurd (let no : ⊥ = cc in no)), go ds)

same-depth : (t : Turn) (m : MachineValue) → depth_of (turn_of t m).machine ≡ depth_of m
same-depth t m = ap (λ f. levels_of f.bones) (turn-frame t m)

pub turn-keeps_time : TurnKeepsTime
turn-keeps_time t m shaped top timed ops = record { each = rule } where
  next : MachineValue
  next = (turn_of t m).machine

  after : IsAfter false m next
  after = turn-after false t m top (all-timed false m shaped timed (not_asked m))

  rule : (r : TimeRule) → Holds (time_rule r next)
  rule keys_differ = differ-again m next after.leaves ops (same-depth t m) timed
  rule ops_of_leaves = of_leaves-again m next after.leaves ops (same-depth t m) timed
  rule keys_end = ends-again m next after.leaves ops (same-depth t m) timed
  rule keys_have_paths = paths-again m next after.leaves ops (same-depth t m) timed
  rule keys_are_past = past-again m next after.leaves ops (same-depth t m) timed
  rule taken_is_past = takes_past-again false next after.dirs
  rule stamps_between = between-again false next after.dirs
  rule stamps_rise = rise-again false next after.dirs
  rule stamps_end = end-again false next after.dirs
  rule epochs_end = epochs-again false next after.dirs

pub turn-keeps_commands : TurnKeepsCommands
turn-keeps_commands t m shaped top timed commands = commands-again true (turn_of t m).machine (turn-after true t m top (all-timed true m shaped timed (each-weaker _ _ (λ c h s. h) (dirs_at m) (each-facts (λ c. each (is_past_taken c) c.dir.down) (dirs_at m) commands)))).dirs refl
