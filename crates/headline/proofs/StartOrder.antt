-- The machine before its first turn is in order from its own flat machine: no operation, no time has passed, and each copy has
-- the flat machine's words.
use Rattle.std.proofs.Common.{◌≡◌, ℕ, zero, suc, ◌+◌, ◌-◌, ◌<◌, Bool, true, false, nat_eq, List, [], ◌∷◌, length, drop, Option, Some, None, Ok, Err, is_some, refl, sym, ap, subst, ◌∙◌, arith}
use Rattle.std.specs.Prelude.{slice_index_or, unwrap_or, nat_lt, if◌then◌else◌}
use Rattle.std.specs.List.{AllByRecursion}
use Rattle.std.proofs.lemmas.Bool.{eq-eqb, eqb-true, true≢false}
use Rattle.std.proofs.lemmas.List.FromFn.{get_or-map-range_with_len}
use Rattle.headline.specs.DdmTypes.declared.operations.Op.{Op}
use Rattle.headline.specs.DdmTypes.declared.keys.Stamp.{Stamp}
use Rattle.headline.specs.DdmTypes.declared.sizes.Start.{Start}
use Rattle.headline.specs.DdmTypes.Keys.{stamp_zero, stamp_at}
use Rattle.headline.specs.FlatModel.Hart.{HartValue, hart_start}
use Rattle.headline.specs.FlatModel.Flat.{FlatMachine, FlatHart, flat_hart_start, no_flat_hart, flat_start, flat_hart}
use Rattle.headline.specs.FlatModel.Legal.{words_after, legal_run}
use Rattle.headline.specs.TreeModel.State.Values.{DirValue, Node, Nodes, leaf_node, dir_node, no_nodes, more_nodes, MachineValue}
use Rattle.headline.specs.TreeModel.State.Directory.{stamp_of}
use Rattle.headline.specs.TreeModel.State.Place.{Spot, spot_path, spot_in}
use Rattle.headline.specs.TreeModel.State.Shape.{depth_of, IsShaped}
use Rattle.headline.specs.TreeModel.Start.Sources.{start_of_harts}
use Rattle.headline.specs.TreeModel.Start.Memory.{start_words}
use Rattle.headline.specs.TreeModel.Start.Machine.{StartRefusal, start_machine, flat_start_of, start_refusal, start_or, start_of}
use Rattle.headline.specs.TreeModel.Turns.Witness.{sorted_ops}
use Rattle.headline.specs.TreeRules.Statements.{Statement, Holds, each, each_pair, if_there}
use Rattle.headline.proofs.TreeRules.Statements.{facts-each}
use Rattle.headline.specs.TreeRules.Bus.Own.{are_zero}
use Rattle.headline.specs.TreeRules.Bus.Rules.{items_of_machine, IsMachineOk}
use Rattle.headline.specs.TreeRules.Order.Moments.{less, moment_at, is_under, parted, same_numbers}
use Rattle.headline.specs.TreeRules.Order.Places.{LeafAt, leaves_in, placed_leaves, leaves_at, DirAt, dir_path, taken_moment, dirs_in, placed_dirs, dirs_at}
use Rattle.headline.specs.TreeRules.Order.Copies.{CopyAt, copies_of}
use Rattle.headline.specs.TreeRules.Order.Claims.{ClaimAt, claims_of}
use Rattle.headline.specs.TreeRules.Order.Ops.{op_count, words_where, flat_now}
use Rattle.headline.specs.TreeRules.Order.Time as time
use Rattle.headline.specs.TreeRules.Order.Core as core
use Rattle.headline.specs.TreeRules.Order.Rules.{TimeRule, keys_differ, ops_of_leaves, keys_end, keys_have_paths, keys_are_past, taken_is_past, stamps_between, stamps_rise, stamps_end, epochs_end, time_rule, IsTimed, CoreRule, commands_past_taken, reservations_kept, legal, harts_follow, counts_follow, halts_follow, own_order, core_rule, CopyRule, words_right, claims_after_ops, claims_after_copies, clocks_know, copy_rule, IsCore}
use Rattle.headline.proofs.BusLaws.StartKept.{start-kept}
use Rattle.headline.proofs.OrderLists.Filters.{each-weaker, each-append}
use Rattle.headline.proofs.OrderLists.Moments.{less-irreflexive, same_numbers-itself}
use Rattle.order_laws.proofs.Hart.Halting.{is_flat}
use Rattle.order_laws.specs.EveryTurn.{IsOrderly}
use Rattle.headline.specs.Runs.{StartIsOrderly}
use Rattle.headline.proofs.StartFresh.{IsFreshLeaf, IsFreshDir, IsFresh, AreFresh, IsFreshMachine, start-fresh}
use Rattle.headline.proofs.StartCopies.{parted-under, IsStartCopy}
use Rattle.headline.proofs.StartPlace.{IsOnePlace, copies-start, machine-one_place}

-- ---- statements of no operation

none-each : {X Y : Type 0} (s : X → Y → Statement) (xs : List X) → Holds (each (λ x. each (s x) []) xs)
none-each s [] = tt
none-each s (x ∷ xs) = (tt, none-each s xs)

-- ---- stamps

either-same : (n : ℕ) (b : Bool) → (if b then n else n) ≡ n
either-same n true = refl
either-same n false = refl

present-zero : (level : ℕ) → stamp_at stamp_zero level 0 ≡ stamp_zero
present-zero level = λ j. record { s0 = either-same 0 (nat_eq level 0) j; s1 = either-same 0 (nat_eq level 1) j; s2 = either-same 0 (nat_eq level 2) j; s3 = either-same 0 (nat_lt level 3) j }

no_numbers : (n : ℕ) → are_zero (drop n []) ≡ true
no_numbers zero = refl
no_numbers (suc n) = refl

zero_ends : (level : ℕ) → time.stamp_ends level stamp_zero ≡ true
zero_ends zero = refl
zero_ends (suc zero) = refl
zero_ends (suc (suc zero)) = refl
zero_ends (suc (suc (suc zero))) = refl
zero_ends (suc (suc (suc (suc level)))) = no_numbers level

-- ---- leaves and directories with their places

record IsFreshAt (c : DirAt) : Type 0 where
  dir : IsFreshDir c.dir
  present : c.spot.present ≡ stamp_zero

fresh_stamp : (d : DirValue) → IsFreshDir d → stamp_of d ≡ stamp_zero
fresh_stamp d f = ap (λ e. stamp_at e d.level d.count) f.epoch ∙ ap (λ n. stamp_at stamp_zero d.level n) f.count ∙ present-zero d.level

module _ (start : Start) (words : List (List ℕ)) where
  mutual
    dirs-fresh : (c : Spot) (n : Node) → c.present ≡ stamp_zero → IsFresh start words n → AllByRecursion IsFreshAt (dirs_in c n)
    dirs-fresh c (leaf_node v) e f = tt
    dirs-fresh c (dir_node d ns) e f = (record { dir = f.0; present = e }, placed-fresh (spot_path c) d 0 ns f.0 f.1)

    placed-fresh : (path : List ℕ) (d : DirValue) (i : ℕ) (ns : Nodes) → IsFreshDir d → AreFresh start words ns → AllByRecursion IsFreshAt (placed_dirs path d i ns)
    placed-fresh path d i no_nodes g f = tt
    placed-fresh path d i (more_nodes n ns) g f = each-append IsFreshAt (dirs_in (spot_in path d i) n) (placed_dirs path d (i + 1) ns) (dirs-fresh (spot_in path d i) n (fresh_stamp d g) f.0) (placed-fresh path d (i + 1) ns g f.1)

  abbrev HasFreshLeaf : LeafAt → Type 0
  HasFreshLeaf a = IsFreshLeaf start words a.leaf

  mutual
    leaves-fresh : (c : Spot) (n : Node) → IsFresh start words n → AllByRecursion HasFreshLeaf (leaves_in c n)
    leaves-fresh c (leaf_node v) f = (f, tt)
    leaves-fresh c (dir_node d ns) f = leaves-among (spot_path c) d 0 ns f.1

    leaves-among : (path : List ℕ) (d : DirValue) (i : ℕ) (ns : Nodes) → AreFresh start words ns → AllByRecursion HasFreshLeaf (placed_leaves path d i ns)
    leaves-among path d i no_nodes f = tt
    leaves-among path d i (more_nodes n ns) f = each-append HasFreshLeaf (leaves_in (spot_in path d i) n) (placed_leaves path d (i + 1) ns) (leaves-fresh (spot_in path d i) n f.0) (leaves-among path d (i + 1) ns f.1)

  -- ---- a machine

  module _ (m : MachineValue) (f : IsFreshMachine start words m) where
    abbrev s : FlatMachine
    s = flat_start start words

    all_dirs : AllByRecursion IsFreshAt (dirs_at m)
    unfolding dirs_at
    all_dirs = placed-fresh [] m.top 0 m.kids f.top f.kids

    all_leaves : AllByRecursion HasFreshLeaf (leaves_at m)
    unfolding leaves_at
    all_leaves = leaves-among [] m.top 0 m.kids f.kids

    of_dirs : (rule : DirAt → Statement) → ((c : DirAt) → IsFreshAt c → Holds (rule c)) → Holds (each rule (dirs_at m))
    of_dirs rule h = facts-each rule (dirs_at m) (each-weaker IsFreshAt (λ c. Holds (rule c)) h (dirs_at m) all_dirs)

    of_leaves : (rule : LeafAt → Statement) → ((a : LeafAt) → HasFreshLeaf a → Holds (rule a)) → Holds (each rule (leaves_at m))
    of_leaves rule h = facts-each rule (leaves_at m) (each-weaker HasFreshLeaf (λ a. Holds (rule a)) h (leaves_at m) all_leaves)

    without_ops : (rule : List Op → Statement) → Holds (rule []) → Holds (rule m.ops)
    without_ops rule h = subst (λ ops. Holds (rule ops)) (sym f.ops) h

    -- ---- time

    start-timed : IsTimed m
    start-timed = record { each = rules } where
      rules : (r : TimeRule) → Holds (time_rule r m)
      rules keys_differ = without_ops (each_pair time.keys_differ) tt
      rules ops_of_leaves = without_ops (each (time.has_leaf (leaves_at m))) tt
      rules keys_end = without_ops (each (time.has_ending_key (depth_of m))) tt
      rules keys_have_paths = without_ops (each (λ o. each (time.has_leaf_path (depth_of m) o) (leaves_at m))) tt
      rules keys_are_past = without_ops (each (λ o. each (time.is_before_now (depth_of m) o) (leaves_at m))) tt
      rules taken_is_past = of_dirs time.takes_past (λ c g. ap (λ (p : Stamp). less (moment_at c.spot.above p) (taken_moment c)) g.present ∙ ap (λ (p : Stamp). less (moment_at c.spot.above stamp_zero) (moment_at c.spot.above p)) g.dir.epoch ∙ less-irreflexive (moment_at c.spot.above stamp_zero))
      rules stamps_between = of_dirs (λ c. each (time.lies_between c) c.dir.down) (λ c g. subst (λ q. Holds (each (time.lies_between c) q)) (sym g.dir.down) tt)
      rules stamps_rise = of_dirs (λ c. each_pair (time.may_stand_behind c) c.dir.down) (λ c g. subst (λ q. Holds (each_pair (time.may_stand_behind c) q)) (sym g.dir.down) tt)
      rules stamps_end = of_dirs (λ c. each (time.entry_ends c) c.dir.down) (λ c g. subst (λ q. Holds (each (time.entry_ends c) q)) (sym g.dir.down) tt)
      rules epochs_end = of_dirs time.epoch_ends (λ c g. ap (time.stamp_ends (length (dir_path c))) g.dir.epoch ∙ zero_ends (length (dir_path c)))

    -- ---- the flat machine

    no_run : legal_run m.code m.items s (sorted_ops m.ops) ≡ Some s
    unfolding legal_run sorted_ops
    no_run = ap (λ ops. legal_run m.code m.items s (sorted_ops ops)) f.ops

    flat-is : flat_now s m ≡ s
    flat-is = ap (λ o. unwrap_or o s) no_run

    flat_hart-is : (n : ℕ) → n < start.harts → flat_hart s n ≡ flat_hart_start start n
    unfolding flat_start
    flat_hart-is n l = get_or-map-range_with_len (flat_hart_start start) 0 start.harts n n no_flat_hart l (omega arith)

    starts : (a : LeafAt) → HasFreshLeaf a → (flat_hart (flat_now s m) a.leaf.number).hart ≡ record a.leaf.hart { halt = None }
    unfolding hart_start
    starts a g =
        ap (λ (z : FlatMachine). (flat_hart z a.leaf.number).hart) flat-is ∙ ap (λ (h : FlatHart). h.hart) (flat_hart-is a.leaf.number g.number) ∙ sym (ap (λ (h : HartValue). let k : HartValue = record h { halt = None } in k) g.hart)

    no_halt : (a : LeafAt) → HasFreshLeaf a → a.leaf.hart.halt ≡ None
    unfolding hart_start
    no_halt a g = ap (λ (h : HartValue). h.halt) g.hart

    no_words : (x : ℕ) → words_where s m.items m.ops x core.any_op ≡ slice_index_or words x []
    unfolding words_after sorted_ops flat_start
    no_words x = ap (λ ops. words_where s m.items ops x core.any_op) f.ops

    -- ---- the core

    module _ (x : ℕ) (below : x < items_of_machine m) where
      right : (k : CopyAt) → IsStartCopy start words (items_of_machine m) x below k → Holds (core.has_right_words s (depth_of m) m.items m.ops x k)
      right k h = ap (λ ws. same_numbers ws (core.words_until s (depth_of m) m.items m.ops x k.end)) (h.1 ∙ sym (no_words x)) ∙ ap (λ e. same_numbers (words_where s m.items m.ops x core.any_op) (core.words_until s (depth_of m) m.items m.ops x e)) h.0 ∙ same_numbers-itself (words_where s m.items m.ops x core.any_op)

      -- a claim is over each copy, so none is beside it
      beside_none : (t : ClaimAt) (k : CopyAt) (place : List ℕ) → is_under t.child place ≡ true → 0 < length t.child → k.place ≡ place → core.parts_at_claim t k.place ≡ false
      beside_none t k place u l at = ap (core.parts_at_claim t) at ∙ go (nat_eq (parted t.child place) (core.claim_level t)) refl where
        go : (b : Bool) → nat_eq (parted t.child place) (core.claim_level t) ≡ b → core.parts_at_claim t place ≡ false
        go true e = let p : parted t.child place ≡ length t.child = parted-under t.child place u in let q : parted t.child place ≡ length t.child - 1 = eqb-true _ _ e in absurd (omega (arith, p, q, l))
        go false e = rw e refl

      after_copies : (o : IsOnePlace start words (items_of_machine m) x below [] (copies_of x m) (claims_of x m)) → Holds (each (λ t. each (core.claim_is_after_copy t) (copies_of x m)) (claims_of x m))
      after_copies o = facts-each (λ t. each (core.claim_is_after_copy t) (copies_of x m)) (claims_of x m) (each-weaker _ _ (λ t over. facts-each (core.claim_is_after_copy t) (copies_of x m) (each-weaker _ _ (λ k at e. absurd (true≢false (sym e ∙ beside_none t k o.place over.0 over.1 at))) (copies_of x m) o.copies)) (claims_of x m) o.claims)

    start-core : IsMachineOk m → IsCore s m
    start-core ok = record { each = rules; copies = of_copies } where
      rules : (r : CoreRule) → Holds (core_rule r s m)
      rules commands_past_taken = of_dirs (λ c. each (core.is_past_taken c) c.dir.down) (λ c g. subst (λ q. Holds (each (core.is_past_taken c) q)) (sym g.dir.down) tt)
      rules reservations_kept = of_leaves (core.keeps_reservation s (depth_of m) m.items m.ops) (λ a g. subst (λ o. Holds (if_there (core.keeps_reserved s (depth_of m) m.items m.ops a) o)) (sym g.reservation) tt)
      rules legal = ap (λ o. is_some o) no_run
      rules harts_follow = of_leaves (core.has_flat_hart (flat_now s m)) (λ a g. is_flat a.leaf.hart (flat_hart (flat_now s m) a.leaf.number).hart (starts a g))
      rules counts_follow = of_leaves (core.has_counted m.ops) (λ a g. eq-eqb a.leaf.done (op_count a.leaf.number m.ops) (g.done ∙ sym (ap (op_count a.leaf.number) f.ops)))
      rules halts_follow = of_leaves (core.halts_as_flat m.code m.items (flat_now s m)) (λ a g. subst (λ o. Holds (if_there (core.halts_next m.code m.items (flat_now s m) a.leaf.number) o)) (sym (no_halt a g)) tt)
      rules own_order = without_ops (each_pair core.is_in_own_order) tt

      of_copies : (x : ℕ) → x < items_of_machine m → (r : CopyRule) → Holds (copy_rule r s m x)
      of_copies x below words_right = facts-each (core.has_right_words s (depth_of m) m.items m.ops x) (copies_of x m) (each-weaker _ _ (λ k h. right x below k h) (copies_of x m) (copies-start start words (items_of_machine m) x below m f ok refl))
      of_copies x below claims_after_ops = without_ops (λ ops. each (λ t. each (core.claim_is_after_op (depth_of m) m.items x t) ops) (claims_of x m)) (none-each (core.claim_is_after_op (depth_of m) m.items x) (claims_of x m))
      of_copies x below claims_after_copies = after_copies x below (machine-one_place start words (items_of_machine m) x below m f ok refl)
      of_copies x below clocks_know = without_ops (λ ops. each (λ k. each (core.knows_change (depth_of m) m.items x k) ops) (copies_of x m)) (none-each (core.knows_change (depth_of m) m.items x) (copies_of x m))

-- ---- of a tree and an image

pub start-orderly : StartIsOrderly
unfolding start_of
start-orderly t i m tree built = go (start_refusal t i) refl where
  made : start_refusal t i ≡ None → start_machine t i ≡ m
  made none = let e : Ok (start_machine t i) ≡ Ok m = sym (ap (λ o. start_or o t i) none) ∙ built in cc

  kept : IsShaped m × IsMachineOk m
  kept = start-kept t i m tree built

  go : (o : Option StartRefusal) → start_refusal t i ≡ o → IsOrderly (flat_start_of t i) m
  go None none =
      let f : IsFreshMachine (start_of_harts t i) (start_words t i) m = subst (IsFreshMachine (start_of_harts t i) (start_words t i)) (made none) (start-fresh t i) in
      record { shaped = kept.0; buses = kept.1; timed = start-timed (start_of_harts t i) (start_words t i) m f; core = start-core (start_of_harts t i) (start_words t i) m f kept.1 }
  go (Some r) some = let e : Err r ≡ Ok m = sym (ap (λ o. start_or o t i) some) ∙ built in absurd (let wrong : ⊥ = cc in wrong)
