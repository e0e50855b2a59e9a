-- Each claim is still after the ends of the copies beside it, after every turn of a bus.
-- Letters: c is a claim before, c' one after, k a copy before, k' the one that comes from it.
use Rattle.std.proofs.Common.{◌≡◌, ℕ, suc, ◌+◌, ◌-◌, ◌<◌, ◌≤◌, true, false, List, [], ◌∷◌, ◌++◌, length, take, Option, Some, None, IfSome, refl, sym, ap, subst, ◌∙◌, ◌⊎◌, inl, inr, arith}
use Rattle.std.specs.Prelude.{nat_eq, nat_lt, nat_le}
use Rattle.std.specs.List.{AllByRecursion}
use Rattle.std.proofs.lemmas.Bool.{and_parts, and_from, eqb-true, eq-eqb, leb-true, le-leb, ltb-true, lt-ltb, true≢false, false≢true}
use Rattle.std.proofs.lemmas.List.{length-append, take_all}
use Rattle.order_laws.specs.DdmTypes.declared.turns.Turn.{Turn}
use Rattle.order_laws.specs.DdmTypes.ItemTable.{item_count}
use Rattle.order_laws.specs.FlatModel.Flat.{FlatMachine}
use Rattle.order_laws.specs.TreeModel.State.Values.{Node, children, MachineValue, root_of}
use Rattle.order_laws.specs.TreeModel.State.States.{is_held}
use Rattle.order_laws.specs.TreeModel.State.Child.{child_hold}
use Rattle.order_laws.specs.TreeModel.State.Directory.{stamp_of}
use Rattle.order_laws.specs.TreeModel.State.Place.{spot_in}
use Rattle.order_laws.specs.TreeModel.State.Shape.{Frame, IsShaped, skeleton}
use Rattle.order_laws.specs.TreeModel.Turns.Children.{child_at}
use Rattle.order_laws.proofs.TreeModel.FrameKept.{turn-frame}
use Rattle.order_laws.specs.TreeRules.Statements.{Holds, each, there_and}
use Rattle.order_laws.specs.TreeRules.Bus.Rules.{IsBusOk, IsMachineOk, items_of_machine}
use Rattle.order_laws.specs.TreeRules.Order.Claims.{ClaimAt, claims_of}
use Rattle.order_laws.specs.TreeRules.Order.Copies.{CopyAt, copies_of, erases_in}
use Rattle.order_laws.specs.TreeRules.Order.Core.{claim_level, parts_at_claim, claim_is_after_end, claim_is_after_copy}
use Rattle.order_laws.specs.TreeRules.Order.Moments.{less, less_at, parted, is_under, moment_length, GoesOn}
use Rattle.order_laws.specs.TreeRules.Order.Places.{dirs_at}
use Rattle.order_laws.specs.TreeRules.Order.Rules.{IsTimed, IsCore, claims_after_copies, commands_past_taken}
use Rattle.order_laws.proofs.TreeRules.Statements.{each-facts, facts-each}
use Rattle.bus_laws.proofs.TreeKept.{turn-keeps_rules}
use Rattle.order_lists.proofs.Filters.{each-both}
use Rattle.order_lists.proofs.Holders.{erases_go_on}
use Rattle.order_lists.proofs.Moments.{least-less, GoesOn-refl, GoesOn-at, GoesOn-less}
use Rattle.order_lists.proofs.Paths.{under-append, under_child, one_child}
use Rattle.order_lists.proofs.Queues.{IsOrdered}
use Rattle.order_lists.proofs.Stamps.{moment_at-length}
use Rattle.order_lists.proofs.State.{all_ordered}
use Rattle.order_laws.specs.Grant.{after_bus, ClaimsAfterCopies, BusTurnKeepsClaims}
use Rattle.order_laws.specs.Moves.Carries.{old_moment, new_moment, HoldsAfter, MovedBy}
use Rattle.order_laws.specs.Moves.ClaimsMoved.{ClaimKept, ClaimNew, ClaimFrom}
use Rattle.order_laws.specs.Moves.CopiesMoved.{IsBusTurn, TurnMoves}
use Rattle.order_laws.specs.Moves.Moved.{In, From, Told, Ended}
use Rattle.order_laws.proofs.Grant.ClaimsCopiesEnds.{EndsIn, EndsUnder, EndsByChild, copies-end}
use Rattle.order_laws.proofs.Grant.ClaimsCopiesHeld.{OfChild, IsOfChild, none-beside, claims-of_children}
use Rattle.order_laws.proofs.Grant.ClaimsCopiesNode.{ok-below, dirs-at, dirs-of_child, many-below}
use Rattle.order_laws.proofs.Grant.ClaimsCopiesPaths.{IsBeside, parted-child, parted-under, parted-agree}
use Rattle.order_laws.proofs.Moves.CopiesMoved.{turn-moves, claims-of-same, copies-same}
use Rattle.order_laws.proofs.Moves.Sources.{each-in}
use Rattle.order_laws.proofs.Moves.TurnFrame.{items-same}

-- what the rule asks where the two paths part at the claim's bus
abbrev EndsBefore : ClaimAt → CopyAt → Type 0
EndsBefore c k = Holds (there_and (claim_is_after_end c) k.end)

module _ (c : ClaimAt) (place : List ℕ) (parts : parts_at_claim c place ≡ true) where
  parts-at : parted c.child place ≡ claim_level c
  parts-at = eqb-true (parted c.child place) (claim_level c) (and_parts (nat_eq (parted c.child place) (claim_level c)) _ parts).0

  parts-deep : claim_level c < length place
  parts-deep = ltb-true (claim_level c) (length place) (and_parts (nat_eq (parted c.child place) (claim_level c)) _ parts).1

-- the same place up to the claim's bus
parts-same : (c c' : ClaimAt) (place place' : List ℕ) → c'.child ≡ c.child → claim_level c' < length place → take (claim_level c' + 1) place' ≡ take (claim_level c' + 1) place → parts_at_claim c' place' ≡ true → parts_at_claim c place ≡ true
parts-same c c' place place' child deep same parts =
    let level : claim_level c' ≡ claim_level c = ap (λ p. length p - 1) child in
    let one : claim_level c' + 1 ≡ suc (claim_level c') = omega arith in
    let taken : take (suc (claim_level c')) place' ≡ take (suc (claim_level c')) place = subst (λ n. take n place' ≡ take n place) one same in
    let at : parted c'.child place ≡ claim_level c' = parted-agree c'.child place' place (claim_level c') taken (parts-at c' place' parts) in
    let here : parted c.child place ≡ claim_level c = subst (λ p. parted p place ≡ claim_level c') child at ∙ level in
    and_from (nat_eq (parted c.child place) (claim_level c)) (nat_lt (claim_level c) (length place)) (eq-eqb (parted c.child place) (claim_level c) here) (lt-ltb (claim_level c) (length place) (omega (arith, deep, level)))

-- a later claim, and an end that is no later
ends-still : (c c' : ClaimAt) (k : CopyAt) (o : Option (List ℕ)) → ClaimKept c c' → EndsBefore c k → (o ≡ k.end) ⊎ ((e : List ℕ) × (o ≡ Some e) × IfSome k.end (GoesOn e)) → Holds (there_and (claim_is_after_end c') o)
ends-still c c' k o kept was new = go k.end refl was where
  level : claim_level c ≡ claim_level c'
  level = ap (λ p. length p - 1) (sym kept.child)

  later : (e f : List ℕ) → Holds (claim_is_after_end c e) → GoesOn f e → Holds (claim_is_after_end c' f)
  later e f h on =
      let far : ℕ = moment_length (claim_level c') in
      let long : far ≤ length e = leb-true far (length e) (subst (λ l. nat_le (moment_length l) (length e) ≡ true) level h.0) in
      let before : less_at far e c.moment ≡ true = subst (λ l. less_at (moment_length l) e c.moment ≡ true) level h.1 in
      (le-leb far (length f) (omega (arith, long, on.longer)), GoesOn-less far f e c.moment c'.moment on long before kept.moment)

  go : (end : Option (List ℕ)) → k.end ≡ end → Holds (there_and (claim_is_after_end c) end) → Holds (there_and (claim_is_after_end c') o)
  go None is h = absurd (false≢true h)
  go (Some e) is h = elim new as (λ _. Holds (there_and (claim_is_after_end c') o)) [
    | inl same ↦ subst (λ u. Holds (there_and (claim_is_after_end c') u)) (sym (same ∙ is)) (later e e h (GoesOn-refl e))
    | inr f ↦ subst (λ u. Holds (there_and (claim_is_after_end c') u)) (sym f.1) (later e f.0 h (subst (λ u. IfSome u (GoesOn f.0)) is f.2))
  ]

-- an end before a claim of a bus with this many above it
ends-at : (c : ClaimAt) (k : CopyAt) (e : List ℕ) (l : ℕ) → claim_level c ≡ l → k.end ≡ Some e → moment_length l ≤ length e → less_at (moment_length l) e c.moment ≡ true → EndsBefore c k
ends-at c k e l level is long before =
    let sized : nat_le (moment_length (claim_level c)) (length e) ≡ true = subst (λ n. nat_le (moment_length n) (length e) ≡ true) (sym level) (le-leb (moment_length l) (length e) long) in
    let after : less_at (moment_length (claim_level c)) e c.moment ≡ true = subst (λ n. less_at (moment_length n) e c.moment ≡ true) (sym level) before in
    subst (λ o. Holds (there_and (claim_is_after_end c) o)) (sym is) (sized, after)

module _ (x : ℕ) (m m' : MachineValue) (ok : IsMachineOk m') (low : x < items_of_machine m') (bones : skeleton (root_of m') ≡ skeleton (root_of m)) (ordered : AllByRecursion IsOrdered (dirs_at m)) (t : TurnMoves x m m') where
  abbrev far : ℕ
  far = moment_length (length t.bus.path)

  abbrev kids : List Node
  kids = children t.bus.kids_after

  abbrev Ends : CopyAt → Type 0
  Ends = EndsByChild x t.bus.path t.bus.dir_after t.bus.kids_after

  abbrev Child : ClaimAt → Type 0
  Child = OfChild x t.bus.path t.bus.dir_after t.bus.kids_after

  abbrev OnBus : ClaimAt → Type 0
  OnBus = IsOfChild x t.bus.path t.bus.dir_after t.bus.kids_after

  many : length kids ≡ length (children t.bus.kids)
  many = many-below t.bus.dir t.bus.kids t.bus.dir_after t.bus.kids_after t.bus.path (root_of m) (root_of m') bones t.before t.after

  bus-ok : IsBusOk (items_of_machine m') t.bus.dir_after kids
  bus-ok = (ok-below (items_of_machine m') t.bus.dir_after t.bus.kids_after t.bus.path (root_of m') t.after ok.tree).0

  -- the child of the bus that a copy beside a claim is under doesn't hold the item
  record BesideClaim (c' : ClaimAt) (k' : CopyAt) : Type 0 where
    pub claimed : Child c'
    pub beside : IsBeside t.bus.path claimed.number k'.place
    pub ends : EndsUnder x t.bus.path t.bus.dir_after t.bus.kids_after beside.number k'
    pub absent : is_held (child_hold x (child_at beside.number kids)) ≡ false

  beside-claim : (c' : ClaimAt) (k' : CopyAt) → OnBus c' → Ends k' → claim_level c' ≡ length t.bus.path → is_under t.bus.path c'.child ≡ true → parts_at_claim c' k'.place ≡ true → BesideClaim c' k'
  beside-claim c' k' on_bus ends level over parts = record { claimed = c; beside = b; ends = e; absent = none-beside (items_of_machine m') x t.bus.dir_after kids bus-ok low c.number b.number c.within c.exclusive e.within b.other } where
    c : Child c'
    c = on_bus over level

    b : IsBeside t.bus.path c.number k'.place
    b = parted-child t.bus.path k'.place c.number (subst (λ p. parted p k'.place ≡ length t.bus.path) c.child (parts-at c' k'.place parts ∙ level)) (let deep : claim_level c' < length k'.place = parts-deep c' k'.place parts in omega (arith, deep, level))

    e : EndsUnder x t.bus.path t.bus.dir_after t.bus.kids_after b.number k'
    e = ends b.number b.under

  -- ---- a claim of the new moment

  new-size : length (new_moment t.bus) ≡ far
  new-size = moment_at-length t.bus.path (stamp_of t.bus.dir_after) t.deep

  old-size : length (old_moment t.bus) ≡ far
  old-size = moment_at-length t.bus.path (stamp_of t.bus.dir) t.deep

  -- an erase inside a child goes on from the bus's old moment, where a child holds the item Exclusive
  erase-old : (c' : ClaimAt) → Child c' → (i : ℕ) → i < length kids → (e : List ℕ) → In e (erases_in x (spot_in t.bus.path t.bus.dir_after i) (child_at i kids)) → GoesOn e (old_moment t.bus)
  erase-old c' c i l e there =
      elim (t.erases i within e there) as (λ _. GoesOn e (old_moment t.bus)) [
        | inl was ↦ each-in (λ f. GoesOn f (old_moment t.bus)) e (erases_in x (spot_in t.bus.path t.bus.dir i) (child_at i (children t.bus.kids))) (erases_go_on x (spot_in t.bus.path t.bus.dir i) (child_at i (children t.bus.kids)) (dirs-of_child IsOrdered t.bus.path t.bus.dir i t.bus.kids within (dirs-at IsOrdered m t.bus.dir t.bus.kids t.bus.path t.before ordered))) was
        | inr new ↦ absurd (true≢false (sym c.exclusive ∙ new.1 c.number (let inside : c.number < length kids = c.within in let same : length kids ≡ length (children t.bus.kids) = many in omega (arith, inside, same))))
      ] where
        within : i < length (children t.bus.kids)
        within = let same : length kids ≡ length (children t.bus.kids) = many in omega (arith, l, same)

  new-claim : (c' : ClaimAt) (k' : CopyAt) → ClaimNew t.bus.path (new_moment t.bus) c' → OnBus c' → Ends k' → Holds (claim_is_after_copy c' k')
  new-claim c' k' fresh on_bus ends parts =
      let one : length (t.bus.path ++ fresh.number ∷ []) ≡ length t.bus.path + 1 = length-append t.bus.path (fresh.number ∷ []) in
      let size : length c'.child ≡ length t.bus.path + 1 = ap length fresh.child ∙ one in
      let level : claim_level c' ≡ length t.bus.path = omega (arith, size) in
      let over : is_under t.bus.path c'.child ≡ true = subst (λ p. is_under t.bus.path p ≡ true) (sym fresh.child) (under-append t.bus.path (fresh.number ∷ [])) in
      let b : BesideClaim c' k' = beside-claim c' k' on_bus ends level over parts in
      let e : EndsIn (erases_in x (spot_in t.bus.path t.bus.dir_after b.beside.number) (child_at b.beside.number kids)) k' = b.ends.end b.absent in
      let on : GoesOn e.end (old_moment t.bus) = erase-old c' b.claimed b.beside.number b.ends.within e.end e.there in
      let old : length (old_moment t.bus) ≡ far = old-size in
      let new : length (new_moment t.bus) ≡ far = new-size in
      let first : less_at far (old_moment t.bus) e.end ≡ false = GoesOn-at far e.end (old_moment t.bus) on (omega (arith, old)) in
      let before : less_at far e.end (new_moment t.bus) ≡ true = least-less (take far e.end) (take far (old_moment t.bus)) (take far (new_moment t.bus)) first t.rises in
      let whole : take far (new_moment t.bus) ≡ take far c'.moment = take_all far (new_moment t.bus) (omega (arith, new)) ∙ sym fresh.moment in
      let after : less_at far e.end c'.moment ≡ true = subst (λ u. less (take far e.end) u ≡ true) whole before in
      let longer : length (old_moment t.bus) ≤ length e.end = on.longer in
      ends-at c' k' e.end (length t.bus.path) level e.is (omega (arith, longer, old)) after

  -- ---- a claim that was before

  -- a copy that another child of the claim's bus was told would be held there
  not-told : (c' : ClaimAt) (k' : CopyAt) → OnBus c' → Ends k' → parts_at_claim c' k'.place ≡ true → Told t.bus.path (old_moment t.bus) (new_moment t.bus) (HoldsAfter x t.bus) (claim_level c') k' → ⊥
  not-told c' k' on_bus ends parts told =
      let at : parted c'.child k'.place ≡ claim_level c' = parts-at c' k'.place parts in
      let level : claim_level c' ≡ length t.bus.path = told.level in
      let over : is_under t.bus.path c'.child ≡ true = parted-under t.bus.path c'.child k'.place (under_child t.bus.path k'.place told.child told.under) (omega (arith, at, level)) in
      let b : BesideClaim c' k' = beside-claim c' k' on_bus ends level over parts in
      let same : told.child ≡ b.beside.number = one_child t.bus.path k'.place told.child b.beside.number told.under b.beside.under in
      true≢false (sym told.holds.0 ∙ (ap (λ i. is_held (child_hold x (child_at i kids))) same ∙ b.absent))

  old-claim : (c c' : ClaimAt) (k k' : CopyAt) → ClaimKept c c' → OnBus c' → MovedBy x t.bus k k' → Ends k' → Holds (claim_is_after_copy c k) → Holds (claim_is_after_copy c' k')
  old-claim c c' k k' kept on_bus moved ends rule parts =
      elim (moved.clock (claim_level c') (parts-deep c' k'.place parts)) as (λ _. EndsBefore c' k') [
        | inl same ↦ ends-still c c' k k'.end kept (rule (parts-same c c' k.place k'.place kept.child same.deep same.same parts)) (end moved.end)
        | inr told ↦ absurd (not-told c' k' on_bus ends parts told)
      ] where
        end : (k'.end ≡ k.end) ⊎ Ended t.bus.path (old_moment t.bus) (new_moment t.bus) (HoldsAfter x t.bus) k k' → (k'.end ≡ k.end) ⊎ ((e : List ℕ) × (k'.end ≡ Some e) × IfSome k.end (GoesOn e))
        end (inl same) = inl same
        end (inr ended) = inr (new_moment t.bus, ended.is, ended.later)

  -- ---- all claims and all copies

  module _ (within : x < items_of_machine m) (was : AllByRecursion (λ c. Holds (each (claim_is_after_copy c) (copies_of x m))) (claims_of x m)) where
    one : (c' : ClaimAt) → ClaimFrom t.bus.path (new_moment t.bus) (claims_of x m) c' → OnBus c' → (k' : CopyAt) → From (MovedBy x t.bus) (copies_of x m) k' → Ends k' → Holds (claim_is_after_copy c' k')
    one c' (inr fresh) on_bus k' from ends = new-claim c' k' fresh on_bus ends
    one c' (inl kept) on_bus k' from ends =
        let rules : AllByRecursion (λ k. Holds (claim_is_after_copy kept.source k)) (copies_of x m) = each-facts (claim_is_after_copy kept.source) (copies_of x m) (each-in (λ c. Holds (each (claim_is_after_copy c) (copies_of x m))) kept.source (claims_of x m) was kept.there) in
        old-claim kept.source c' from.source k' kept.kept on_bus from.related ends (each-in (λ k. Holds (claim_is_after_copy kept.source k)) from.source (copies_of x m) rules from.there)

    pub claims-after : Holds (each (λ c. each (claim_is_after_copy c) (copies_of x m')) (claims_of x m'))
    claims-after = facts-each (λ c. each (claim_is_after_copy c) (copies_of x m')) (claims_of x m') (each-both (ClaimFrom t.bus.path (new_moment t.bus) (claims_of x m)) OnBus (λ c. Holds (each (claim_is_after_copy c) (copies_of x m'))) (λ c from on_bus. facts-each (claim_is_after_copy c) (copies_of x m') (each-both (From (MovedBy x t.bus) (copies_of x m)) Ends (λ k. Holds (claim_is_after_copy c k)) (one c from on_bus) (copies_of x m') t.copies ends)) (claims_of x m') (t.claims within) on-bus) where
      ends : AllByRecursion Ends (copies_of x m')
      ends = copies-end x m' t.bus.path t.bus.dir_after t.bus.kids_after ok low t.after

      on-bus : AllByRecursion OnBus (claims_of x m')
      on-bus = claims-of_children x m' t.bus.path t.bus.dir_after t.bus.kids_after t.after

-- ---- the rule

-- after every turn of a bus, where the rules of each bus hold then
pub claims_after_copies-kept : (s : FlatMachine) (m : MachineValue) (t : Turn) → IsShaped m → IsMachineOk m → IsTimed m → IsMachineOk (after_bus t m) → IsBusTurn t → IsCore s m → ClaimsAfterCopies s m t
claims_after_copies-kept s m t shaped ok timed after bus core x low =
    let next : MachineValue = after_bus t m in
    let rule : Holds (each (λ c. each (claim_is_after_copy c) (copies_of x m)) (claims_of x m)) = core.copies x low claims_after_copies in
    elim (turn-moves m shaped ok timed (core.each commands_past_taken) t bus x) as (λ _. Holds (each (λ c. each (claim_is_after_copy c) (copies_of x next)) (claims_of x next))) [
      | inl same ↦ subst (λ ks. Holds (each (λ c. each (claim_is_after_copy c) ks) (claims_of x next))) (sym (copies-same x m next same)) (subst (λ cs. Holds (each (λ c. each (claim_is_after_copy c) (copies_of x m)) cs)) (sym (claims-of-same x m next same)) rule)
      | inr moves ↦ claims-after x m next after (subst (λ i. x < item_count i) (sym (items-same t m)) low) (ap (λ (f : Frame). f.bones) (turn-frame t m)) (all_ordered m shaped timed (core.each commands_past_taken)) moves low (each-facts (λ c. each (claim_is_after_copy c) (copies_of x m)) (claims_of x m) rule)
    ]

pub bus_turn-keeps_claims : BusTurnKeepsClaims
bus_turn-keeps_claims s m t shaped ok timed bus core = claims_after_copies-kept s m t shaped ok timed (turn-keeps_rules t m ok) bus core
