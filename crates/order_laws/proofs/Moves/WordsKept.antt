-- Each copy still has the right words, after every turn of a bus.
-- Letters: k is a copy before, k' the one that comes from it, o an operation.
use Rattle.std.proofs.Common.{◌≡◌, ℕ, ◌<◌, ◌≤◌, Bool, true, false, List, [], ◌∷◌, length, take, Option, Some, None, IfSome, refl, sym, subst, ◌∙◌, ◌⊎◌, inl, inr, arith}
use Rattle.std.specs.List.{AllByRecursion}
use Rattle.std.proofs.lemmas.Bool.{cases_lt}
use Rattle.order_laws.specs.DdmTypes.declared.operations.Op.{Op}
use Rattle.order_laws.specs.DdmTypes.declared.turns.Turn.{Turn}
use Rattle.order_laws.specs.FlatModel.Legal.{changes_item}
use Rattle.order_laws.specs.FlatModel.Flat.{FlatMachine}
use Rattle.order_laws.specs.TreeModel.State.Values.{MachineValue}
use Rattle.order_laws.specs.TreeModel.State.Directory.{stamp_of}
use Rattle.order_laws.specs.TreeModel.State.Shape.{IsShaped, depth_of}
use Rattle.order_laws.specs.TreeModel.Turns.Machine.{turn_of}
use Rattle.order_laws.specs.TreeRules.Statements.{Holds, is_so, each, there_and}
use Rattle.order_laws.specs.TreeRules.Bus.Rules.{IsMachineOk, items_of_machine}
use Rattle.order_laws.specs.TreeRules.Order.Moments.{less_at, before, past, parted, is_under, moment_length, same_numbers, GoesOn}
use Rattle.order_laws.specs.TreeRules.Order.Copies.{CopyAt, copies_of}
use Rattle.order_laws.specs.TreeRules.Order.Core.{ended_before, knows_change, has_right_words, words_until}
use Rattle.order_laws.specs.TreeRules.Order.Ops.{op_key, op_path}
use Rattle.order_laws.specs.TreeRules.Order.Rules.{IsTimed, IsCore, copy_rule, words_right, clocks_know, commands_past_taken}
use Rattle.order_laws.proofs.TreeRules.Statements.{each-facts, facts-each}
use Rattle.order_laws.proofs.Moves.Below.{AreCommandsPast, SortsByEnd, HasWordsOfChanges, words_of_copies}
use Rattle.order_lists.proofs.Filters.{each-both}
use Rattle.order_lists.proofs.Moments.{less-least, least-less, less_at-more, at_most_at-fewer, before_is, past-not_before, same_numbers-itself, less-asymmetric, GoesOn-past, GoesOn-at}
use Rattle.order_lists.proofs.Paths.{under-trans, under-parted}
use Rattle.order_lists.proofs.Stamps.{moment_at-length}
use Rattle.order_laws.specs.Moves.Moved.{Ended, AllFrom}
use Rattle.order_laws.specs.Moves.Carries.{old_moment, new_moment, HoldsAfter, MovedBy}
use Rattle.order_laws.specs.Moves.CopiesMoved.{IsBusTurn, TurnMoves}
use Rattle.order_laws.proofs.Moves.ClockKept.{IsBeforeOld, ops-before}
use Rattle.order_laws.proofs.Moves.CopiesMoved.{turn-moves, copies-same}
use Rattle.order_laws.proofs.Moves.Sources.{each-in}
use Rattle.order_laws.proofs.Moves.TurnFrame.{ops-same, items-same, depth-same}

module _ (x : ℕ) (m m' : MachineValue) (t : TurnMoves x m m') where
  abbrev far : ℕ
  far = moment_length (length t.bus.path)

  abbrev new : List ℕ
  new = new_moment t.bus

  abbrev key : Op → List ℕ
  key o = op_key (depth_of m) o

  abbrev path : Op → List ℕ
  path o = op_path (depth_of m) o

  new-size : length new ≡ far
  new-size = moment_at-length t.bus.path (stamp_of t.bus.dir_after) t.deep

  old-size : length (old_moment t.bus) ≡ far
  old-size = moment_at-length t.bus.path (stamp_of t.bus.dir) t.deep

  -- less than the new moment in fewer numbers
  before-new : (n : ℕ) (k : List ℕ) → n ≤ far → less_at n k new ≡ true → before k new ≡ true
  before-new n k l h = before_is k new ∙ less_at-more n (length new) k new (let size : length new ≡ far = new-size in omega (arith, size, l)) h

  -- an operation under the bus
  under-before : (o : Op) → less_at far (old_moment t.bus) (key o) ≡ false → before (key o) new ≡ true
  under-before o h = before-new far (key o) (omega arith) (least-less (take far (key o)) (take far (old_moment t.bus)) (take far new) h t.rises)

  -- one that the copy knows, on a bus above
  known-before : (o : Op) (k : CopyAt) (j : ℕ) → j ≤ length t.bus.path → GoesOn k.clock (old_moment t.bus) → less_at (moment_length j) (key o) k.clock ≡ true → before (key o) new ≡ true
  known-before o k j l clock known =
      let fits : moment_length j ≤ far = omega (arith, l) in
      let size : length (old_moment t.bus) ≡ far = old-size in
      let first : less_at (moment_length j) (old_moment t.bus) k.clock ≡ false = GoesOn-at (moment_length j) k.clock (old_moment t.bus) clock (omega (arith, size, fits)) in
      let second : less_at (moment_length j) new (old_moment t.bus) ≡ false = at_most_at-fewer (moment_length j) far (old_moment t.bus) new fits (less-asymmetric (take far (old_moment t.bus)) (take far new) t.rises) in
      before-new (moment_length j) (key o) fits (less-least (take (moment_length j) (key o)) (take (moment_length j) (old_moment t.bus)) (take (moment_length j) new) (less-least (take (moment_length j) (key o)) (take (moment_length j) k.clock) (take (moment_length j) (old_moment t.bus)) known first) second)

  module _ (k k' : CopyAt) (ended : Ended t.bus.path (old_moment t.bus) new (HoldsAfter x t.bus) k k') where
    -- what the copy doesn't know comes after the new moment, and what it knows before it
    after-new : (o : Op) → Holds (ended_before k (key o)) → before (key o) new ≡ false
    after-new o h = by k.end refl where
      by : (e : Option (List ℕ)) → k.end ≡ e → before (key o) new ≡ false
      by None is =
          let wrong : false ≡ true = subst (λ u. Holds (there_and (λ e. is_so (past e (key o))) u)) is h in
          cc
      by (Some e) is =
          let was : past e (key o) ≡ true = subst (λ u. Holds (there_and (λ e. is_so (past e (key o))) u)) is h in
          let on : GoesOn new e = subst (λ u. IfSome u (GoesOn new)) is ended.later in
          past-not_before (key o) new (GoesOn-past new e (key o) on was)

    sorts : (o : Op) → IsBeforeOld (depth_of m) t.bus o → Holds (knows_change (depth_of m) m.items x k o) → changes_item m.items x o.effect ≡ true → SortsByEnd (depth_of m) (λ p. before (key p) new) k o
    sorts o old knows changes = (after-new o, λ not_ended. by not_ended (is_under t.bus.path (path o)) refl) where
      by : (Holds (ended_before k (key o)) → ⊥) → (b : Bool) → is_under t.bus.path (path o) ≡ b → before (key o) new ≡ true
      by not_ended true is = under-before o (old is)
      by not_ended false is = at (is_under k.place (path o)) refl where
        at : (b : Bool) → is_under k.place (path o) ≡ b → before (key o) new ≡ true
        at true under = absurd (let wrong : false ≡ true = sym is ∙ under-trans t.bus.path k.place (path o) ended.from under in cc)
        at false apart =
            elim (knows changes apart) as (λ _. before (key o) new ≡ true) [
              | inl known ↦ known-before o k (parted k.place (path o)) (short (cases_lt (length t.bus.path) (parted k.place (path o)))) ended.clock known
              | inr gone ↦ absurd (not_ended gone)
            ] where
              short : (length t.bus.path < parted k.place (path o)) ⊎ (parted k.place (path o) ≤ length t.bus.path) → parted k.place (path o) ≤ length t.bus.path
              short (inr l) = l
              short (inl l) = absurd (let wrong : false ≡ true = sym is ∙ under-parted t.bus.path k.place (path o) ended.from (omega (arith, l)) in cc)

  module _ (s : FlatMachine) (timed : IsTimed m) where
    abbrev Right : CopyAt → Type 0
    Right k = Holds (has_right_words s (depth_of m) m.items m.ops x k)

    abbrev KnowsAll : CopyAt → Type 0
    KnowsAll k = Holds (each (knows_change (depth_of m) m.items x k) m.ops)

    right-moved : (k k' : CopyAt) → MovedBy x t.bus k k' → Right k → KnowsAll k → HasWordsOfChanges s (depth_of m) m.items m.ops x k → Right k'
    right-moved k k' moved right knows words = by moved.end where
      by : (k'.end ≡ k.end) ⊎ Ended t.bus.path (old_moment t.bus) new (HoldsAfter x t.bus) k k' → Right k'
      by (inl same) = subst (λ e. same_numbers k'.words (words_until s (depth_of m) m.items m.ops x e) ≡ true) (sym same) (subst (λ w. same_numbers w (words_until s (depth_of m) m.items m.ops x k.end) ≡ true) (sym moved.words) right)
      by (inr ended) =
          let sorted : AllByRecursion (λ o. changes_item m.items x o.effect ≡ true → SortsByEnd (depth_of m) (λ p. before (key p) new) k o) m.ops = (each-both (IsBeforeOld (depth_of m) t.bus) (λ o. Holds (knows_change (depth_of m) m.items x k o)) _ (λ o a b. sorts k k' ended o a b) m.ops (ops-before x m m' timed t) (each-facts (knows_change (depth_of m) m.items x k) m.ops knows)) in
          let is : k.words ≡ words_until s (depth_of m) m.items m.ops x (Some new) = words (λ p. before (key p) new) sorted in
          let now : k'.words ≡ words_until s (depth_of m) m.items m.ops x (Some new) = moved.words ∙ is in
          subst (λ e. same_numbers k'.words (words_until s (depth_of m) m.items m.ops x e) ≡ true) (sym ended.is) (subst (λ w. same_numbers k'.words w ≡ true) now (same_numbers-itself k'.words))

    all-right : (ks ks' : List CopyAt) → AllFrom (MovedBy x t.bus) ks ks' → AllByRecursion Right ks → AllByRecursion KnowsAll ks → AllByRecursion (HasWordsOfChanges s (depth_of m) m.items m.ops x) ks → AllByRecursion Right ks'
    all-right ks [] from right knows words = tt
    all-right ks (k' ∷ ks') from right knows words =
        let k : CopyAt = from.0.source in
        (right-moved k k' from.0.related (each-in Right k ks right from.0.there) (each-in KnowsAll k ks knows from.0.there) (each-in (HasWordsOfChanges s (depth_of m) m.items m.ops x) k ks words from.0.there), all-right ks ks' from.1 right knows words)

-- each copy has the right words after every turn of a bus
pub words-kept : (s : FlatMachine) (m : MachineValue) → IsShaped m → IsMachineOk m → IsTimed m → IsCore s m → (t : Turn) → IsBusTurn t → (x : ℕ) → x < items_of_machine m → Holds (copy_rule words_right s (turn_of t m).machine x)
words-kept s m shaped ok timed core t bus x low =
    let next : MachineValue = (turn_of t m).machine in
    let past : AreCommandsPast m = core.each commands_past_taken in
    let same : Holds (each (has_right_words s (depth_of m) m.items m.ops x) (copies_of x next)) → Holds (copy_rule words_right s next x) = λ g. subst (λ d. Holds (each (has_right_words s d next.items next.ops x) (copies_of x next))) (sym (depth-same t m)) (subst (λ i. Holds (each (has_right_words s (depth_of m) i next.ops x) (copies_of x next))) (sym (items-same t m)) (subst (λ os. Holds (each (has_right_words s (depth_of m) m.items os x) (copies_of x next))) (sym (ops-same t m bus)) g)) in
    same (elim (turn-moves m shaped ok timed past t bus x) as (λ _. Holds (each (has_right_words s (depth_of m) m.items m.ops x) (copies_of x next))) [
      | inl at ↦ subst (λ ks. Holds (each (has_right_words s (depth_of m) m.items m.ops x) ks)) (sym (copies-same x m next at)) (core.copies x low words_right)
      | inr c ↦ facts-each (has_right_words s (depth_of m) m.items m.ops x) (copies_of x next) (all-right x m next c s timed (copies_of x m) (copies_of x next) c.copies (each-facts (has_right_words s (depth_of m) m.items m.ops x) (copies_of x m) (core.copies x low words_right)) (each-facts (λ k. each (knows_change (depth_of m) m.items x k) m.ops) (copies_of x m) (core.copies x low clocks_know)) (words_of_copies s m shaped timed core x low))
    ])
