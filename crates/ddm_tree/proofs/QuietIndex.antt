-- What is known of the turns of one bus, where the code puts it anew: one place, or all of them.
-- Letters: e is what is known under a number, i a place of it, r and s are rows of it, c and d places of a row, v and w what is known of a turn, n a node, t
-- a turn, busy whether it is counted as a busy one, A the turns that are learned.
use Rattle.std.specs.Prelude.{is_none, is_some, nat_lt, option_map, replicate, slice_get, slice_index_or, slice_set, if◌then◌else◌, ⊤}
use Rattle.std.proofs.lemmas.Bool.{lt-ltb, ltb-true}
use Rattle.std.proofs.Common.{◌≡◌, ◌≢◌, ◌<◌, ◌≤◌, ◌+◌, ◌*◌, ◌⊎◌, ℕ, zero, suc, inl, inr, Bool, true, false, not, [], ◌∷◌, Option, Some, None, refl, sym, ap, subst, ◌∙◌, arith}
use Rattle.std.proofs.lemmas.Option.{none-some, same_Some}
use native.Mathlib.Decide.{ℕ_discrete}
use Rattle.ddm_tree.specs.TreeModel.declared.BusTurn.{BusTurn}
use Rattle.ddm_tree.specs.TreeModel.State.Child.{child_request, child_reply, child_leaving}
use Rattle.ddm_tree.specs.TreeModel.State.Lists.{first_of}
use Rattle.ddm_tree.specs.TreeModel.State.Values.{DirValue, Node, Nodes, dir_node, children}
use Rattle.ddm_tree.specs.TreeModel.Turns.Children.{child_at}
use Rattle.ddm_tree.specs.declared.quiet.Known.{Known}
use Rattle.ddm_tree.specs.Quiet.{AreLearned, Entry, IsLearned, IsQuietOf, IsRight, OfChild, OfNamed, busy_at, busy_if, busy_of, column_of, known_there, quiet_if, row_of}
use Rattle.ddm_tree.proofs.KeysRising.{set-other}
use Rattle.ddm_tree.proofs.QuietNear.{below-next}
use Rattle.ddm_tree.proofs.QuietSteps.{no-choice}

-- ---- a place that is read by its index

pub known-index : (e : Entry) (i : ℕ) → slice_index_or e i Known.Nothing ≡ known_there (slice_get e i)
known-index [] i = refl
known-index (v ∷ e) zero = refl
known-index (v ∷ e) (suc i) = known-index e i

-- what is known there
abbrev pub there_in : ℕ → Entry → Option Bool
there_in i e = busy_if (known_there (slice_get e i))

pub busy-few : (r c : ℕ) (e : Entry) → c < 16 → busy_at r c e ≡ there_in (r * 16 + c) e
busy-few r c e few =
    let is : nat_lt c 16 ≡ true = lt-ltb c 16 few in
    rw is refl

-- nothing is known of a place past the row, and nothing where nothing is there
none-by : (r c : ℕ) (e : Entry) → (c < 16 → there_in (r * 16 + c) e ≡ None) → (b : Bool) → nat_lt c 16 ≡ b → (if b then there_in (r * 16 + c) e else None) ≡ None
none-by r c e none true is = none (ltb-true c 16 is)
none-by r c e none false is = refl

pub busy-none : (r c : ℕ) (e : Entry) → (c < 16 → there_in (r * 16 + c) e ≡ None) → busy_at r c e ≡ None
busy-none r c e none = none-by r c e none (nat_lt c 16) refl

same-by : (r c : ℕ) (e f : Entry) → (c < 16 → slice_get f (r * 16 + c) ≡ slice_get e (r * 16 + c)) → (b : Bool) → nat_lt c 16 ≡ b → (if b then there_in (r * 16 + c) f else None) ≡ (if b then there_in (r * 16 + c) e else None)
same-by r c e f same true is = ap (λ o. busy_if (known_there o)) (same (ltb-true c 16 is))
same-by r c e f same false is = refl

busy-same : (r c : ℕ) (e f : Entry) → (c < 16 → slice_get f (r * 16 + c) ≡ slice_get e (r * 16 + c)) → busy_at r c f ≡ busy_at r c e
busy-same r c e f same = same-by r c e f same (nat_lt c 16) refl

-- ---- one place

in-entry : (e : Entry) (i : ℕ) (v : Known) (busy : Bool) → there_in i (slice_set e i v) ≡ Some busy → busy_if v ≡ Some busy
in-entry [] i v busy is = absurd (none-some busy is)
in-entry (w ∷ e) zero v busy is = is
in-entry (w ∷ e) (suc i) v busy is = in-entry e i v busy is

-- an entry with one place put anew
abbrev pub with_known : ℕ → ℕ → Known → Entry → Entry
with_known r c v e = slice_set e (r * 16 + c) v

-- what is known there now is what was put
here-by : (e : Entry) (r c : ℕ) (v : Known) (busy b : Bool) → (if b then there_in (r * 16 + c) (with_known r c v e) else None) ≡ Some busy → busy_if v ≡ Some busy
here-by e r c v busy true is = in-entry e (r * 16 + c) v busy is
here-by e r c v busy false is = absurd (none-some busy is)

pub known-here : (e : Entry) (r c : ℕ) (v : Known) (busy : Bool) → busy_at r c (with_known r c v e) ≡ Some busy → busy_if v ≡ Some busy
known-here e r c v busy is = here-by e r c v busy (nat_lt c 16) is

-- of other places and rows the same is known
place-other : (e : Entry) (r c d : ℕ) (v : Known) → d ≢ c → busy_at r d (with_known r c v e) ≡ busy_at r d e
place-other e r c d v other = busy-same r d e (with_known r c v e) (λ few. set-other e (r * 16 + c) (r * 16 + d) v (λ is. other (omega (arith, is))))

pub row-other : (e : Entry) (r c s d : ℕ) (v : Known) → c < 16 → s ≢ r → busy_at s d (with_known r c v e) ≡ busy_at s d e
row-other e r c s d v inside other = busy-same s d e (with_known r c v e) (λ few. set-other e (r * 16 + c) (s * 16 + d) v (λ is. other (omega (arith, is, few, inside))))

quiet-known : (b busy : Bool) → busy_if (quiet_if b) ≡ Some busy → (busy ≡ false) × (b ≡ true)
quiet-known false busy is = absurd (none-some busy is)
quiet-known true busy is = (sym (same_Some false busy is), refl)

-- what was put there is so
put-right : (e : Entry) (r c : ℕ) (v : Known) (b busy : Bool) → v ≡ quiet_if b → busy_at r c (with_known r c v e) ≡ Some busy → (busy ≡ false) × (b ≡ true)
put-right e r c v b busy put known = quiet-known b busy (ap busy_if (sym put) ∙ known-here e r c v busy known)

-- a test of the code for nothing
pub none-is : {T : Type 0} (o : Option T) (b : Bool) → is_some o ≡ not b → b ≡ is_none o
none-is None true e = refl
none-is None false e = cc
none-is (Some x) true e = cc
none-is (Some x) false e = refl

pub none-mapped : {T U : Type 0} (f : T → U) (o : Option T) → is_none (option_map f o) ≡ is_none o
none-mapped f None = refl
none-mapped f (Some x) = refl

-- ---- what comes down

pub down-put : (d : DirValue) (ns : Nodes) (e : Entry) (v : Known) → v ≡ quiet_if (is_none (first_of d.down)) → AreLearned (λ t. t ≡ BusTurn.Down) (dir_node d ns) e (with_known 1 0 v e)
down-put d ns e v put = record { each = each; hart = row-other e 1 0 0 0 v (omega arith) (λ is. cc) }
  where
    each : (t : BusTurn) → IsLearned (t ≡ BusTurn.Down) t (dir_node d ns) e (with_known 1 0 v e)
    each BusTurn.Down = inr (λ busy known. put-right e 1 0 v (is_none (first_of d.down)) busy put known)
    each (BusTurn.Request c) = inl (row-other e 1 0 2 c v (omega arith) (λ is. cc), λ is. cc)
    each (BusTurn.Reply c) = inl (row-other e 1 0 3 c v (omega arith) (λ is. cc), λ is. cc)
    each (BusTurn.Leave c choice) = inl (row-other e 1 0 4 c v (omega arith) (λ is. cc), λ is. cc)

-- ---- what a child shows

module _ (d : DirValue) (ns : Nodes) (place : ℕ) (few : place < 16) (m : Node) (is : child_at place (children ns) ≡ m) (e : Entry) (v w u : Known) (asks : v ≡ quiet_if (is_none (child_request m))) (answers : w ≡ quiet_if (is_none (child_reply m))) (goes : u ≡ quiet_if (is_none (child_leaving 0 m))) where
  abbrev first : Entry
  first = with_known 2 place v e

  abbrev second : Entry
  second = with_known 3 place w first

  abbrev third : Entry
  third = with_known 4 place u second

  request-put : (c : ℕ) → Dec (c ≡ place) → IsLearned (c ≡ place) (BusTurn.Request c) (dir_node d ns) e third
  request-put c (yes same) = inr (λ busy known.
      let here : busy_at 2 place first ≡ Some busy = sym (row-other second 4 place 2 place u few (λ is. cc) ∙ row-other first 3 place 2 place w few (λ is. cc)) ∙ subst (λ k. busy_at 2 k third ≡ Some busy) same known in
      let found = put-right e 2 place v (is_none (child_request m)) busy asks here in
      (found.0, ap (λ k. is_none (child_request (child_at k (children ns)))) same ∙ ap (λ n. is_none (child_request n)) is ∙ found.1))
  request-put c (no other) = inl (row-other second 4 place 2 c u few (λ is. cc) ∙ row-other first 3 place 2 c w few (λ is. cc) ∙ place-other e 2 place c v other, other)

  reply-put : (c : ℕ) → Dec (c ≡ place) → IsLearned (c ≡ place) (BusTurn.Reply c) (dir_node d ns) e third
  reply-put c (yes same) = inr (λ busy known.
      let here : busy_at 3 place second ≡ Some busy = sym (row-other second 4 place 3 place u few (λ is. cc)) ∙ subst (λ k. busy_at 3 k third ≡ Some busy) same known in
      let found = put-right first 3 place w (is_none (child_reply m)) busy answers here in
      (found.0, ap (λ k. is_none (child_reply (child_at k (children ns)))) same ∙ ap (λ n. is_none (child_reply n)) is ∙ found.1))
  reply-put c (no other) = inl (row-other second 4 place 3 c u few (λ is. cc) ∙ place-other first 3 place c w other ∙ row-other e 2 place 3 c v few (λ is. cc), other)

  leave-put : (c choice : ℕ) → Dec (c ≡ place) → IsLearned (c ≡ place) (BusTurn.Leave c choice) (dir_node d ns) e third
  leave-put c choice (yes same) = inr (λ busy known.
      let here : busy_at 4 place third ≡ Some busy = subst (λ k. busy_at 4 k third ≡ Some busy) same known in
      let found = put-right second 4 place u (is_none (child_leaving 0 m)) busy goes here in
      (found.0, ap (λ k. is_none (child_leaving choice (child_at k (children ns)))) same ∙ ap (λ n. is_none (child_leaving choice n)) is ∙ no-choice m found.1 choice))
  leave-put c choice (no other) = inl (place-other second 4 place c u other ∙ row-other first 3 place 4 c w few (λ is. cc) ∙ row-other e 2 place 4 c v few (λ is. cc), other)

  pub child-put : AreLearned (OfChild place) (dir_node d ns) e third
  child-put = record { each = each; hart = row-other second 4 place 0 0 u few (λ is. cc) ∙ row-other first 3 place 0 0 w few (λ is. cc) ∙ row-other e 2 place 0 0 v few (λ is. cc) }
    where
      each : (t : BusTurn) → IsLearned (OfChild place t) t (dir_node d ns) e third
      each BusTurn.Down = inl (row-other second 4 place 1 0 u few (λ is. cc) ∙ row-other first 3 place 1 0 w few (λ is. cc) ∙ row-other e 2 place 1 0 v few (λ is. cc), λ of. of)
      each (BusTurn.Request c) = request-put c (ℕ_discrete c place)
      each (BusTurn.Reply c) = reply-put c (ℕ_discrete c place)
      each (BusTurn.Leave c choice) = leave-put c choice (ℕ_discrete c place)

-- ---- one after the other

pub quiet-learned : {A : BusTurn → Type 0} {e f : Entry} (n : Node) → IsQuietOf e n → AreLearned A n e f → IsQuietOf f n
quiet-learned {A} {e} {f} n quiet learned = record { each = λ t. by t (learned.each t) }
  where
    by : (t : BusTurn) → IsLearned (A t) t n e f → IsRight t f n
    by t (inl same) = λ busy known. quiet.each t busy (sym same.0 ∙ known)
    by t (inr right) = right

pub are-then : {A B : BusTurn → Type 0} {e f g : Entry} (n : Node) → AreLearned A n e f → AreLearned B n f g → AreLearned (λ t. A t ⊎ B t) n e g
are-then {A} {B} {e} {f} {g} n first second = record { each = λ t. by t (first.each t) (second.each t); hart = second.hart ∙ first.hart }
  where
    neither : (t : BusTurn) → (A t → ⊥) → (B t → ⊥) → A t ⊎ B t → ⊥
    neither t one other (inl a) = one a
    neither t one other (inr b) = other b

    by : (t : BusTurn) → IsLearned (A t) t n e f → IsLearned (B t) t n f g → IsLearned (A t ⊎ B t) t n e g
    by t one (inr right) = inr right
    by t (inr right) (inl same) = inr (λ busy known. right busy (sym same.0 ∙ known))
    by t (inl one) (inl same) = inl (same.0 ∙ one.0, neither t one.1 same.1)

pub are-fewer : {A B : BusTurn → Type 0} {e f : Entry} (n : Node) → ((t : BusTurn) → B t → A t) → AreLearned A n e f → AreLearned B n e f
are-fewer {A} {B} {e} {f} n fewer learned = record { each = λ t. by t (learned.each t); hart = learned.hart }
  where
    by : (t : BusTurn) → IsLearned (A t) t n e f → IsLearned (B t) t n e f
    by t (inl same) = inl (same.0, λ b. same.1 (fewer t b))
    by t (inr right) = inr right

pub are-none : (n : Node) (e : Entry) → AreLearned (OfNamed None) n e e
are-none n e = record { each = λ t. inl (refl, λ of. none-some of.0 of.1); hart = refl }

pub all-learned : {e f : Entry} (n : Node) → IsQuietOf f n → busy_at 0 0 f ≡ busy_at 0 0 e → AreLearned (λ t. ⊤) n e f
all-learned n quiet hart = record { each = λ t. inr (quiet.each t); hart = hart }

pub quiet-of-all : {e f : Entry} (n : Node) → AreLearned (λ t. ⊤) n e f → IsQuietOf f n
quiet-of-all {e} {f} n learned = record { each = λ t. by t (learned.each t) }
  where
    by : (t : BusTurn) → IsLearned ⊤ t n e f → IsRight t f n
    by t (inl same) = absurd (same.1 tt)
    by t (inr right) = right

-- where nothing is known, it is right
pub right-blank : (t : BusTurn) (n : Node) (e : Entry) → busy_of t e ≡ None → IsRight t e n
right-blank t n e none = λ busy known. absurd (none-some busy (sym none ∙ known))

pub right-none : (t : BusTurn) (n : Node) → IsRight t [] n
right-none t n = right-blank t n [] (busy-none (row_of t) (column_of t) [] (λ few. refl))

-- ---- all places of a bus

-- nothing is known of the places behind the hart's row, as far as this one
abbrev pub IsForgotten : ℕ → Entry → Type 0
IsForgotten count e = (i : ℕ) → 16 ≤ i → i < count → there_in i e ≡ None

nothing-put : (e : Entry) (i : ℕ) → there_in i (slice_set e i Known.Nothing) ≡ None
nothing-put [] i = refl
nothing-put (v ∷ e) zero = refl
nothing-put (v ∷ e) (suc i) = nothing-put e i

module _ (count : ℕ) (e : Entry) (none : IsForgotten count e) where
  more-at : (i : ℕ) → 16 ≤ i → i < count + 1 → Dec (i ≡ count) → there_in i (slice_set e count Known.Nothing) ≡ None
  more-at i from below (yes is) = subst (λ j. there_in j (slice_set e count Known.Nothing) ≡ None) (sym is) (nothing-put e count)
  more-at i from below (no other) = ap (λ o. busy_if (known_there o)) (set-other e count i Known.Nothing other) ∙ none i from (below-next count i other below)

  pub forgotten-more : IsForgotten (count + 1) (slice_set e count Known.Nothing)
  forgotten-more = λ i from below. more-at i from below (ℕ_discrete i count)

module _ (e : Entry) (none : IsForgotten 80 e) where
  none-row : (r c : ℕ) → 1 ≤ r → r < 5 → busy_at r c e ≡ None
  none-row r c from below = busy-none r c e (λ few. none (r * 16 + c) (omega (arith, from)) (omega (arith, below, few)))

  none-of : (t : BusTurn) → busy_of t e ≡ None
  none-of BusTurn.Down = none-row 1 0 (omega arith) (omega arith)
  none-of (BusTurn.Request c) = none-row 2 c (omega arith) (omega arith)
  none-of (BusTurn.Reply c) = none-row 3 c (omega arith) (omega arith)
  none-of (BusTurn.Leave c choice) = none-row 4 c (omega arith) (omega arith)

  pub bus-forgotten : (n : Node) (before : Entry) → slice_get e 0 ≡ slice_get before 0 → AreLearned (λ t. ⊤) n before e
  bus-forgotten n before same = record { each = λ t. inr (right-blank t n e (none-of t)); hart = ap (λ o. busy_if (known_there o)) same }

-- ---- nothing is known

nothing-there : (count i : ℕ) → there_in i (replicate count Known.Nothing) ≡ None
nothing-there zero i = refl
nothing-there (suc count) zero = refl
nothing-there (suc count) (suc i) = nothing-there count i

pub blank-entry : (count r c : ℕ) → busy_at r c (replicate count Known.Nothing) ≡ None
blank-entry count r c = busy-none r c (replicate count Known.Nothing) (λ few. nothing-there count (r * 16 + c))

pub empty-entry : (r c : ℕ) → busy_at r c [] ≡ None
empty-entry r c = busy-none r c [] (λ few. refl)
