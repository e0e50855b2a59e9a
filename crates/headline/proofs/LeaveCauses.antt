-- A copy that can't leave: the cause that the turn names is a fact of the machine before it.
-- Letters: p is the parent of the bus that takes its turn, ns are its children, x is an item, c and k are child numbers.
use Rattle.std.proofs.Common.{◌≡◌, ℕ, ◌+◌, ◌<◌, ◌≤◌, Bool, true, false, not, ◌&&◌, ◌||◌, nat_eq, ◌⊎◌, inl, inr, List, [], ◌∷◌, length, Option, Some, None, refl, sym, subst, ◌∙◌, arith}
use Rattle.std.specs.Prelude.{if◌then◌else◌}
use Rattle.std.proofs.lemmas.Bool.{true≢false, eqb-false, cases_lt, lt-ltb}
use Rattle.headline.specs.DdmTypes.declared.answers.TxKind.{TxKind}
use Rattle.headline.specs.DdmTypes.declared.answers.TxKind.TheVariants.{InjectTx, OutTx}
use Rattle.headline.specs.DdmTypes.declared.answers.PendingWhy.{PendingWhy}
use Rattle.headline.specs.DdmTypes.declared.answers.BusyCause.{BusyCause}
use Rattle.headline.specs.DdmTypes.declared.sizes.Hold.{Hold}
use Rattle.headline.specs.DdmTypes.declared.turns.Turn.{Turn}
use Rattle.headline.specs.DdmTypes.declared.keys.Stamp.{Stamp}
use Rattle.headline.specs.TreeModel.State.Lists.{first_some, find_from, all_from}
use Rattle.headline.specs.TreeModel.State.States.{is_shared}
use Rattle.headline.specs.TreeModel.State.Values.{DirValue, Node, Nodes, leaf_node, dir_node, children, MachineValue, root_of}
use Rattle.headline.specs.TreeModel.State.Blank.{no_node}
use Rattle.headline.specs.TreeModel.State.Directory.{is_top, dir_hold, is_parked, parking_full, pending}
use Rattle.headline.specs.TreeModel.State.Child.{child_hold, child_room, pending_below}
use Rattle.headline.specs.TreeModel.State.Shape.{IsShaped}
use Rattle.headline.specs.TreeModel.Turns.Grant.{Judged, nothing_there, refused, granted, is_pending}
use Rattle.headline.specs.TreeModel.Turns.Children.{child_at, other_waits, room_after, room_before}
use Rattle.headline.specs.TreeModel.Turns.Leave.{leave_parked, leave_taker, parked_unless_full, leave_inject, leave_shared, other_copy, leave_by_hold, leave_unless_pending}
use Rattle.headline.specs.TreeModel.Turns.Bus.{leave_turn}
use Rattle.headline.specs.TreeRules.Bus.Rules.{IsMachineOk}
use Rattle.headline.specs.TreeRules.Witness.{pends_by, none_has_room, leaves_nowhere, cause_holds}
use Rattle.headline.proofs.Standing.{StandsIn}
use Rattle.headline.proofs.Numbered.{told-dir}
use Rattle.headline.proofs.FullLists.{full-is, pends, past-end, within}
use Rattle.headline.proofs.Causes.{at_there, IsCaused, own-pending}

module _ (m : MachineValue) (shaped : IsShaped m) (ok : IsMachineOk m) where
  abbrev There : Node → Type 0
  There n = StandsIn n (root_of m)

  module _ (t : Turn) (p : DirValue) (nodes : Nodes) (there : There (dir_node p nodes)) where
    abbrev kids : List Node
    kids = children nodes

    abbrev Caused : Judged → Type 0
    Caused j = IsCaused m shaped ok t p nodes there j

    -- by a turn that names this bus and this child
    module _ (c : ℕ) (named : (x : ℕ) → leaves_nowhere t x m ≡ none_has_room p.bus c x m) where
      below-caused : (x : ℕ) (n : Node) → n ≡ child_at c kids → (w : ℕ × PendingWhy) → pending_below x n ≡ Some w → Caused (is_pending w.0 x w.1)
      below-caused x (leaf_node v) is w h = absurd (let wrong : ⊥ = cc in wrong)
      below-caused x (dir_node d ks) is w h = by_why (pending x d) refl h where
        inside : (k : ℕ) → dir_node d ks ≡ child_at k kids → There (dir_node d ks)
        inside k i = go (cases_lt k (length kids)) where
          go : (k < length kids) ⊎ (length kids ≤ k) → There (dir_node d ks)
          go (inl l) = subst (λ u. There u) (sym i) (at_there m shaped ok t p nodes there k l)
          go (inr l) = absurd (let no : dir_node d ks ≡ no_node = i ∙ past-end kids k l in let wrong : ⊥ = cc in wrong)

        by_why : (o : Option PendingWhy) → pending x d ≡ o → pending_below x (dir_node d ks) ≡ Some w → Caused (is_pending w.0 x w.1)
        by_why None e k = absurd (let none : None ≡ Some w = rw e at k in let wrong : ⊥ = cc in wrong)
        by_why (Some why) e k =
            let some : Some (d.bus, why) ≡ Some w = rw e at k in
            let same : (d.bus, why) ≡ w = cc in
            subst (λ (u : ℕ × PendingWhy). Caused (is_pending u.0 x u.1)) same (told-dir m shaped d ks (inside c is) (λ e ks. pends_by why x e) ∙ pends x d why e)

      -- no other child has room where none takes the copy
      none-room : (x i : ℕ) (rest_kids : List Node) → find_from (room_after c x) i rest_kids ≡ None → find_from (room_before true c x) i rest_kids ≡ None → all_from (λ j n. nat_eq j c || not (child_room x n)) i rest_kids ≡ true
      none-room x i [] h k = refl
      none-room x i (n ∷ rest_kids) h k = by_after (room_after c x i n) refl (room_before true c x i n) refl h k (none-room x (i + 1) rest_kids) where
        passes : (b : Bool) → child_room x n ≡ b → room_after c x i n ≡ false → room_before true c x i n ≡ false → (nat_eq i c || not (child_room x n)) ≡ true
        passes false e f g = by_same (nat_eq i c) where
          by_same : (s : Bool) → (s || not (child_room x n)) ≡ true
          by_same true = refl
          by_same false = rw e refl
        passes true e f g = by_same (nat_eq i c) refl where
          later : c < i → room_after c x i n ≡ true
          later l = rw (lt-ltb c i l) e

          sooner : i < c → room_before true c x i n ≡ true
          sooner l = rw (lt-ltb i c l) e

          by_same : (s : Bool) → nat_eq i c ≡ s → (nat_eq i c || not (child_room x n)) ≡ true
          by_same true s = rw s refl
          by_same false s = by_less (cases_lt i c) where
            by_less : (i < c) ⊎ (c ≤ i) → (nat_eq i c || not (child_room x n)) ≡ true
            by_less (inl l) = absurd (true≢false (sym (sooner l) ∙ g))
            by_less (inr l) = absurd (true≢false (sym (later (let off : i ≡ c → ⊥ = eqb-false i c s in omega (arith, l, off))) ∙ f))

        by_after : (a : Bool) → room_after c x i n ≡ a → (b : Bool) → room_before true c x i n ≡ b → find_from (room_after c x) i (n ∷ rest_kids) ≡ None → find_from (room_before true c x) i (n ∷ rest_kids) ≡ None
            → (find_from (room_after c x) (i + 1) rest_kids ≡ None → find_from (room_before true c x) (i + 1) rest_kids ≡ None → all_from (λ j n. nat_eq j c || not (child_room x n)) (i + 1) rest_kids ≡ true)
            → ((nat_eq i c || not (child_room x n)) && all_from (λ j n. nat_eq j c || not (child_room x n)) (i + 1) rest_kids) ≡ true
        by_after true e b g h k rest = absurd (let some : Some i ≡ None = rw e at h in let wrong : ⊥ = cc in wrong)
        by_after false e true g h k rest = absurd (let some : Some i ≡ None = rw g at k in let wrong : ⊥ = cc in wrong)
        by_after false e false g h k rest =
            let h2 : find_from (room_after c x) (i + 1) rest_kids ≡ None = rw e at h in
            let k2 : find_from (room_before true c x) (i + 1) rest_kids ≡ None = rw g at k in
            rw (passes (child_room x n) refl e g) (rest h2 k2)

      nobody : (x : ℕ) → is_top p ≡ true → leave_taker c x p kids ≡ None → cause_holds t m (BusyCause.NoRoom x) ≡ true
      nobody x top none = go (find_from (other_waits c x) 0 kids) (find_from (room_after c x) 0 kids) refl (find_from (room_before (is_top p) c x) 0 kids) refl none where
        go : (a b : Option ℕ) → find_from (room_after c x) 0 kids ≡ b → (o : Option ℕ) → find_from (room_before (is_top p) c x) 0 kids ≡ o → first_some a (first_some b o) ≡ None → cause_holds t m (BusyCause.NoRoom x) ≡ true
        go (Some k) b e o f h = absurd (let wrong : ⊥ = cc in wrong)
        go None (Some k) e o f h = absurd (let wrong : ⊥ = cc in wrong)
        go None None e (Some k) f h = absurd (let wrong : ⊥ = cc in wrong)
        go None None e None f h =
            let before : find_from (room_before true c x) 0 kids ≡ None = subst (λ b. find_from (room_before b c x) 0 kids ≡ None) top f in
            named x ∙ told-dir m shaped p nodes there (λ d ks. all_from (λ i n. nat_eq i c || not (child_room x n)) 0 ks) ∙ none-room x 0 kids e before

      parked-caused : (x : ℕ) (kind : TxKind) → Caused (parked_unless_full c x p kids kind)
      parked-caused x kind = by_parked (is_parked x p) where
        full : parking_full p ≡ true → cause_holds t m (BusyCause.ParkingFull p.bus) ≡ true
        full h = told-dir m shaped p nodes there (λ d ks. nat_eq (length d.parked + d.reserved) d.sizes.parking_room) ∙ full-is (length p.parked + p.reserved) p.sizes.parking_room (within m shaped ok p nodes there).parked h

        by_full : (b : Bool) → parking_full p ≡ b → Caused (if b then refused (BusyCause.ParkingFull p.bus) else granted (leave_parked c x p kids kind))
        by_full true e = full e
        by_full false e = tt

        by_parked : (b : Bool) → Caused (if b then nothing_there else (if parking_full p then refused (BusyCause.ParkingFull p.bus) else granted (leave_parked c x p kids kind)))
        by_parked true = tt
        by_parked false = by_full (parking_full p) refl

      inject_leave-caused : (x : ℕ) (o : Option ℕ) → leave_taker c x p kids ≡ o → Caused (leave_inject c x p kids o)
      inject_leave-caused x (Some k) e = tt
      inject_leave-caused x None e = by_top (is_top p) refl where
        by_top : (b : Bool) → is_top p ≡ b → Caused (if b then refused (BusyCause.NoRoom x) else parked_unless_full c x p kids InjectTx)
        by_top true top = nobody x top e
        by_top false top = parked-caused x InjectTx

      shared-caused : (x : ℕ) (other shared : Bool) → Caused (leave_shared c x p kids other shared)
      shared-caused x true shared = tt
      shared-caused x false true = parked-caused x OutTx
      shared-caused x false false = inject_leave-caused x (leave_taker c x p kids) refl

      hold-caused : (x : ℕ) (h : Hold) → Caused (leave_by_hold c x p kids h)
      hold-caused x Hold.Invalid = inject_leave-caused x (leave_taker c x p kids) refl
      hold-caused x Hold.Shared = shared-caused x (other_copy c x p kids) (is_shared (dir_hold x p))
      hold-caused x Hold.Exclusive = inject_leave-caused x (leave_taker c x p kids) refl

      leaving-caused : (x : ℕ) (why : Option PendingWhy) → pending x p ≡ why → (w : Option (ℕ × PendingWhy)) → pending_below x (child_at c kids) ≡ w → Caused (leave_unless_pending c x p kids why w)
      leaving-caused x (Some why) e w f = own-pending m shaped ok t p nodes there x why (pends x p why e)
      leaving-caused x None e (Some w) f = below-caused x (child_at c kids) refl w f
      leaving-caused x None e None f = hold-caused x (child_hold x (child_at c kids))

      pub leave-caused : (above : Stamp) (o : Option ℕ) → Caused (leave_turn above p kids c o)
      leave-caused above None = tt
      leave-caused above (Some x) = leaving-caused x (pending x p) refl (pending_below x (child_at c kids)) refl
