-- A hart's step put before steps of other harts: they stay steps with the same effects, where none of them is on the item that it stores to.
use Rattle.std.proofs.Common.{◌≡◌, ◌≢◌, ℕ, zero, suc, ◌<◌, Bool, true, false, ◌&&◌, nat_eq, nat_lt, ◌⊎◌, inl, inr, List, [], ◌∷◌, length, slice_index_or, slice_set, Option, Some, None, Ok, Err, refl, sym, ap, subst, ◌∙◌, arith}
use Rattle.std.proofs.lemmas.Bool.{eqb-true, eqb-false, ltb-true, ltb-false}
use Rattle.std.proofs.lemmas.Option.{none-some, same_Some, option_and_then_some}
use Rattle.std.specs.List.{AllByRecursion}
use Rattle.std.proofs.Math.ListN.{get_or-eq_default}
use Rattle.std.specs.Prelude.{Result, option_and_then, is_some, if◌then◌else◌}
use Rattle.ddm_types.specs.declared.operations.HaltCause.{HaltCause}
use Rattle.ddm_types.specs.declared.operations.Effect.{Effect}
use Rattle.ddm_types.specs.declared.operations.Op.{Op}
use Rattle.ddm_types.specs.CodeMap.{CodeWord}
use Rattle.ddm_types.specs.ItemTable.{ItemTable}
use Rattle.flat_model.specs.declared.Ask.{Ask}
use Rattle.flat_model.specs.declared.Ask.TheVariants.{Plain, Put, NeedsShared, NeedsExclusive, Conditional, Halt}
use Rattle.flat_model.specs.Hart.{HartValue, Finished, ask_of, finish_of}
use Rattle.flat_model.specs.Flat.{FlatHart, FlatMachine, FlatStepped, Stored, Change, flat_hart, item_words, has_reserved, leaving, storing_to, conditional, change_by, unless_halted, hart_step, no_flat_hart, with_stored, with_change, stepped, flat_step}
use Rattle.flat_model.specs.Legal.{is_of, changed_item, effect_item, on_item, is_change, is_sc_ok, HasWholeWords, legal_step, legal_run}
use Rattle.flat_model.proofs.Runs.{legal_step_is, legal_step_of}
use Rattle.flat_model.proofs.Items.{FollowsAsk, step_follows}
use Rattle.flat_model.proofs.Steps.{same_change, finish_failing, step_leaves}
use Rattle.flat_model.proofs.Frames.{freed, other_hart, own_hart, other_words, same_counts}

-- an effect that isn't on the item, if there is one
abbrev pub NotOn : ItemTable → Option ℕ → Effect → Type 0
NotOn items x effect = (y : ℕ) → x ≡ Some y → effect_item items effect ≢ Some y

-- two reservations of a hart: the same, or the first is of the item and the second is none
abbrev pub SameReserved : Option ℕ → Option ℕ → Option ℕ → Type 0
SameReserved x ra rb = (ra ≡ rb) ⊎ ((ra ≡ x) × (rb ≡ None))

-- an answer that is like this change
pub record AnswersLike (x : Option ℕ) (r : Result Change HaltCause) (c : Change) : Type 0 where
  pub change : Change
  pub answer : r ≡ Ok change
  pub effect : change.effect ≡ c.effect
  pub hart : change.after.hart ≡ c.after.hart
  pub reserved : SameReserved x c.after.reserved change.after.reserved
  pub stored : change.stored ≡ c.stored

-- an answer by its change
answered_like : (x : Option ℕ) (d c : Change) → d.effect ≡ c.effect → d.after.hart ≡ c.after.hart → SameReserved x c.after.reserved d.after.reserved → d.stored ≡ c.stored → AnswersLike x (Ok d) c
answered_like x d c effect hart reserved stored = record { change = d; answer = refl; effect = effect; hart = hart; reserved = reserved; stored = stored }

abbrev FailsAlike : Ask → (List ℕ → Bool → Finished) → Type 0
FailsAlike ask finish = (y : ℕ) → ask ≡ Conditional y → (ws ws' : List ℕ) → ((finish ws false).effect ≡ (finish ws' false).effect) × ((finish ws false).hart ≡ (finish ws' false).hart)

shared_elsewhere : (items : ItemTable) (x : Option ℕ) (y : ℕ) (lr : Bool) (c : Change) → FollowsAsk items (NeedsShared y lr) c → NotOn items x c.effect → Some y ≢ x
shared_elsewhere items x y lr c (e, inl i) off at = off y (sym at) i
shared_elsewhere items x y lr c (e, inr i) off at = grind arith

exclusive_elsewhere : (items : ItemTable) (x : Option ℕ) (y : ℕ) (c : Change) → FollowsAsk items (NeedsExclusive y) c → NotOn items x c.effect → Some y ≢ x
exclusive_elsewhere items x y c (e, inl i) off at = off y (sym at) i
exclusive_elsewhere items x y c (e, inr i) off at = grind arith

stored_elsewhere : (items : ItemTable) (x : Option ℕ) (y : ℕ) (c : Change) (s : Stored) → c.stored ≡ Some s → FollowsAsk items (Conditional y) c → NotOn items x c.effect → Some y ≢ x
stored_elsewhere items x y c s k (e, inl i) off at = off y (sym at) i
stored_elsewhere items x y c s k (e, inr i) off at = grind arith

same_reserved_if : (x : Option ℕ) (y : ℕ) (lr : Bool) (ra rb : Option ℕ) → SameReserved x ra rb → SameReserved x (if lr then Some y else ra) (if lr then Some y else rb)
same_reserved_if x y true ra rb same = inl refl
same_reserved_if x y false ra rb same = same

has_alike : (x : Option ℕ) (y : ℕ) (ra rb : Option ℕ) → SameReserved x ra rb → Some y ≢ x → has_reserved ra y ≡ true → has_reserved rb y ≡ true
has_alike x y ra rb (inl e) off h = rw e at h
has_alike x y None rb (inr e) off h = grind arith
has_alike x y (Some z) rb (inr e) off h = absurd (off (ap Some (sym (eqb-true z y h)) ∙ e.0))

hasnt_alike : (x : Option ℕ) (y : ℕ) (ra rb : Option ℕ) → SameReserved x ra rb → has_reserved ra y ≡ false → has_reserved rb y ≡ false
hasnt_alike x y ra rb (inl e) h = rw e at h
hasnt_alike x y ra rb (inr e) h = rw e.1 refl

conditional_alike : (items : ItemTable) (x : Option ℕ) (y : ℕ) (finish : List ℕ → Bool → Finished) (wa wb : ℕ → List ℕ) (a b : Bool) → (a ≡ true → Some y ≢ x → b ≡ true) → (a ≡ false → b ≡ false) → ((z : ℕ) → Some z ≢ x → wa z ≡ wb z) → FailsAlike (Conditional y) finish → (c : Change) → conditional a y (finish (wa y)) ≡ c → FollowsAsk items (Conditional y) c → NotOn items x c.effect → AnswersLike x (Ok (conditional b y (finish (wb y)))) c
conditional_alike items x y finish wa wb true b holds lapses words fails c e f off =
    let away : Some y ≢ x = stored_elsewhere items x y c (record { item = y; words = (finish (wa y) true).words }) (sym (ap (λ (k : Change). k.stored) e)) f off in
    let P : Change → Type 0 = AnswersLike x (Ok (conditional b y (finish (wb y)))) in
    subst P e (rw (holds refl away) (rw (words y away) (answered_like x (storing_to y (finish (wb y) true) None) _ refl refl (inl refl) refl)))
conditional_alike items x y finish wa wb false b holds lapses words fails c e f off =
    let P : Change → Type 0 = AnswersLike x (Ok (conditional b y (finish (wb y)))) in
    let same = fails y refl (wb y) (wa y) in
    subst P e (rw (lapses refl) (answered_like x (leaving (finish (wb y) false) None) _ same.0 same.1 (inl refl) refl))

change_alike : (items : ItemTable) (x : Option ℕ) (ask : Ask) (ra rb : Option ℕ) (finish : List ℕ → Bool → Finished) (wa wb : ℕ → List ℕ) (sc_ok : Bool) → SameReserved x ra rb → ((z : ℕ) → Some z ≢ x → wa z ≡ wb z) → FailsAlike ask finish → (c : Change) → change_by ask ra finish wa sc_ok ≡ Ok c → FollowsAsk items ask c → NotOn items x c.effect → AnswersLike x (change_by ask rb finish wb sc_ok) c
change_alike items x Plain ra rb finish wa wb sc_ok same words fails c e f off =
    let P : Change → Type 0 = AnswersLike x (change_by Plain rb finish wb sc_ok) in
    subst P (same_change (leaving (finish [] false) ra) c e) (answered_like x (leaving (finish [] false) rb) _ refl refl same refl)
change_alike items x (Put byte) ra rb finish wa wb sc_ok same words fails c e f off =
    let P : Change → Type 0 = AnswersLike x (change_by (Put byte) rb finish wb sc_ok) in
    subst P (same_change (leaving (finish [] false) ra) c e) (answered_like x (leaving (finish [] false) rb) _ refl refl same refl)
change_alike items x (NeedsShared y lr) ra rb finish wa wb sc_ok same words fails c e f off =
    let P : Change → Type 0 = AnswersLike x (change_by (NeedsShared y lr) rb finish wb sc_ok) in
    subst P (same_change (leaving (finish (wa y) false) (if lr then Some y else ra)) c e) (rw (words y (shared_elsewhere items x y lr c f off)) (answered_like x (leaving (finish (wb y) false) (if lr then Some y else rb)) _ refl refl (same_reserved_if x y lr ra rb same) refl))
change_alike items x (NeedsExclusive y) ra rb finish wa wb sc_ok same words fails c e f off =
    let P : Change → Type 0 = AnswersLike x (change_by (NeedsExclusive y) rb finish wb sc_ok) in
    subst P (same_change (storing_to y (finish (wa y) false) ra) c e) (rw (words y (exclusive_elsewhere items x y c f off)) (answered_like x (storing_to y (finish (wb y) false) rb) _ refl refl same refl))
change_alike items x (Conditional y) ra rb finish wa wb sc_ok same words fails c e f off =
    conditional_alike items x y finish wa wb (sc_ok && has_reserved ra y) (sc_ok && has_reserved rb y) (holds sc_ok) (lapses sc_ok) words fails c (same_change (conditional (sc_ok && has_reserved ra y) y (finish (wa y))) c e) f off where
      holds : (sc : Bool) → (sc && has_reserved ra y) ≡ true → Some y ≢ x → (sc && has_reserved rb y) ≡ true
      holds true h away = has_alike x y ra rb same away h
      holds false h away = h

      lapses : (sc : Bool) → (sc && has_reserved ra y) ≡ false → (sc && has_reserved rb y) ≡ false
      lapses true h = hasnt_alike x y ra rb same h
      lapses false h = refl
change_alike items x (Halt cause) ra rb finish wa wb sc_ok same words fails c e f off = grind arith

-- the step of a hart, where its reservation and the words of that item may differ
pub step_alike : (code : List CodeWord) (items : ItemTable) (x : Option ℕ) (h : HartValue) (ra rb : Option ℕ) (wa wb : ℕ → List ℕ) (sc_ok : Bool) → HasWholeWords items → SameReserved x ra rb → ((z : ℕ) → Some z ≢ x → wa z ≡ wb z) → (c : Change) → hart_step code items (record { hart = h; reserved = ra }) wa sc_ok ≡ Ok c → NotOn items x c.effect → AnswersLike x (hart_step code items (record { hart = h; reserved = rb }) wb sc_ok) c
unfolding hart_step
step_alike code items x h ra rb wa wb sc_ok whole same words c e off = go h.halt e where
  go : (halt : Option HaltCause) → unless_halted halt (change_by (ask_of code items h) ra (finish_of code items h) wa sc_ok) ≡ Ok c → AnswersLike x (unless_halted halt (change_by (ask_of code items h) rb (finish_of code items h) wb sc_ok)) c
  go None k = change_alike items x (ask_of code items h) ra rb (finish_of code items h) wa wb sc_ok same words (finish_failing code items h) c k (step_follows code items (record { hart = h; reserved = ra }) wa sc_ok c whole e) off
  go (Some cause) k = grind arith

-- ---- machines

-- Two machines that are the same but for a hart h and the words of an item x; where the second has no reservation of x, the first may have one.
pub record Alike (h : ℕ) (x : Option ℕ) (a b : FlatMachine) : Type 0 where
  pub hart : (g : ℕ) → g ≢ h → (flat_hart a g).hart ≡ (flat_hart b g).hart
  pub reserved : (g : ℕ) → g ≢ h → SameReserved x (flat_hart a g).reserved (flat_hart b g).reserved
  pub words : (y : ℕ) → Some y ≢ x → item_words a y ≡ item_words b y
  pub hart_count : length a.harts ≡ length b.harts
  pub word_count : length a.words ≡ length b.words

abbrev pub stored_item : Option Stored → Option ℕ
stored_item None = None
stored_item (Some s) = Some s.item

freed_hart : (stored : Option Stored) (g : FlatHart) → (freed stored g).hart ≡ g.hart
freed_hart None g = refl
freed_hart (Some s) g = refl

freed_reserved : (stored : Option Stored) (r : Option ℕ) (h : HartValue) → SameReserved (stored_item stored) r (freed stored (record { hart = h; reserved = r })).reserved
freed_reserved None r h = inl refl
freed_reserved (Some s) None h = inl refl
freed_reserved (Some s) (Some y) h = go (nat_eq y s.item) refl where
  go : (b : Bool) → nat_eq y s.item ≡ b → SameReserved (Some s.item) (Some y) (if b then None else Some y)
  go true e = inr (ap Some (eqb-true y s.item e), refl)
  go false e = inl refl

stored_other : (stored : Option Stored) (y : ℕ) → Some y ≢ stored_item stored → (s : Stored) → stored ≡ Some s → y ≢ s.item
stored_other stored y other s e at = other (ap Some at ∙ sym (ap stored_item e))

-- a step of a hart leaves a machine like the one before it
pub change_leaves_alike : (m : FlatMachine) (h : ℕ) (c : Change) → Alike h (stored_item c.stored) m (with_change m h c)
change_leaves_alike m h c = record {
  hart = λ g other. sym (ap (λ (k : FlatHart). k.hart) (other_hart m h c g other) ∙ freed_hart c.stored (flat_hart m g));
  reserved = λ g other. rw (other_hart m h c g other) (freed_reserved c.stored (flat_hart m g).reserved (flat_hart m g).hart);
  words = λ y other. sym (other_words m h c y (stored_other c.stored y other));
  hart_count = sym (same_counts m h c).0;
  word_count = sym (same_counts m h c).1;
}

-- ---- the same step of two machines that are alike

freed_alike : (x : Option ℕ) (stored : Option Stored) (ga gb : FlatHart) → ((s : Stored) → stored ≡ Some s → Some s.item ≢ x) → SameReserved x ga.reserved gb.reserved → SameReserved x (freed stored ga).reserved (freed stored gb).reserved
freed_alike x None ga gb away same = same
freed_alike x (Some s) ga gb away (inl e) = inl (ap (λ r. if has_reserved r s.item then None else r) e)
freed_alike x (Some s) ga gb away (inr e) = inr (kept ga.reserved e.0, rw e.1 refl) where
  at : (y : ℕ) (b : Bool) → nat_eq y s.item ≡ b → Some y ≡ x → (if b then None else Some y) ≡ x
  at y true k i = absurd (away s refl (ap Some (sym (eqb-true y s.item k)) ∙ i))
  at y false k i = i

  kept : (r : Option ℕ) → r ≡ x → (if has_reserved r s.item then None else r) ≡ x
  kept None i = i
  kept (Some y) i = at y (nat_eq y s.item) refl i

set_alike : {X : Type 0} (xs ys : List X) (i y : ℕ) (v d : X) → length xs ≡ length ys → slice_index_or xs y d ≡ slice_index_or ys y d → slice_index_or (slice_set xs i v) y d ≡ slice_index_or (slice_set ys i v) y d
set_alike [] [] i y v d l e = refl
set_alike [] (b ∷ ys) i y v d l e = grind arith
set_alike (a ∷ xs) [] i y v d l e = grind arith
set_alike (a ∷ xs) (b ∷ ys) zero zero v d l e = refl
set_alike (a ∷ xs) (b ∷ ys) zero (suc y) v d l e = e
set_alike (a ∷ xs) (b ∷ ys) (suc i) zero v d l e = e
set_alike (a ∷ xs) (b ∷ ys) (suc i) (suc y) v d l e = set_alike xs ys i y v d (omega arith) e

stored_words_alike : (a b : FlatMachine) (stored : Option Stored) (y : ℕ) → length a.words ≡ length b.words → item_words a y ≡ item_words b y → item_words (with_stored a stored) y ≡ item_words (with_stored b stored) y
stored_words_alike a b None y l e = e
stored_words_alike a b (Some s) y l e = set_alike a.words b.words s.item y s.words [] l e

changes_alike : (h : ℕ) (x : Option ℕ) (a b : FlatMachine) (g : ℕ) (c d : Change) → Alike h x a b → g < length a.harts → d.after.hart ≡ c.after.hart → SameReserved x c.after.reserved d.after.reserved → d.stored ≡ c.stored → ((s : Stored) → c.stored ≡ Some s → Some s.item ≢ x) → Alike h x (with_change a g c) (with_change b g d)
changes_alike h x a b g c d like below same_hart same_reserved same_stored away = record {
  hart = hart;
  reserved = reserved;
  words = λ y off. stored_words_alike a b c.stored y like.word_count (like.words y off) ∙ ap (λ s. item_words (with_stored b s) y) (sym same_stored);
  hart_count = (same_counts a g c).0 ∙ like.hart_count ∙ sym (same_counts b g d).0;
  word_count = (same_counts a g c).1 ∙ like.word_count ∙ sym (same_counts b g d).1;
} where
  below_b : g < length b.harts
  below_b = rw like.hart_count at below

  own_a : flat_hart (with_change a g c) g ≡ c.after
  own_a = own_hart a g c below

  own_b : flat_hart (with_change b g d) g ≡ d.after
  own_b = own_hart b g d below_b

  hart_of : FlatHart → HartValue
  hart_of k = k.hart

  reserved_of : FlatHart → Option ℕ
  reserved_of k = k.reserved

  hart : (k : ℕ) → k ≢ h → (flat_hart (with_change a g c) k).hart ≡ (flat_hart (with_change b g d) k).hart
  hart k off = go (nat_eq k g) refl where
    go : (t : Bool) → nat_eq k g ≡ t → (flat_hart (with_change a g c) k).hart ≡ (flat_hart (with_change b g d) k).hart
    go true e = rw (eqb-true k g e) (rw own_a (rw own_b (sym same_hart)))
    go false e = rw (other_hart a g c k (eqb-false k g e)) (rw (other_hart b g d k (eqb-false k g e)) (freed_hart c.stored (flat_hart a k) ∙ like.hart k off ∙ sym (freed_hart d.stored (flat_hart b k))))

  reserved : (k : ℕ) → k ≢ h → SameReserved x (flat_hart (with_change a g c) k).reserved (flat_hart (with_change b g d) k).reserved
  reserved k off = go (nat_eq k g) refl where
    go : (t : Bool) → nat_eq k g ≡ t → SameReserved x (flat_hart (with_change a g c) k).reserved (flat_hart (with_change b g d) k).reserved
    go true e = rw (eqb-true k g e) (rw own_a (rw own_b same_reserved))
    go false e = rw (other_hart a g c k (eqb-false k g e)) (rw (other_hart b g d k (eqb-false k g e)) (rw same_stored (freed_alike x c.stored (flat_hart a k) (flat_hart b k) away (like.reserved k off))))

-- a hart that steps is one of the machine's
pub in_range : (code : List CodeWord) (items : ItemTable) (m : FlatMachine) (g : ℕ) (words : ℕ → List ℕ) (sc_ok : Bool) (c : Change) → hart_step code items (flat_hart m g) words sc_ok ≡ Ok c → g < length m.harts
unfolding hart_step
in_range code items m g words sc_ok c e = go (nat_lt g (length m.harts)) refl where
  go : (t : Bool) → nat_lt g (length m.harts) ≡ t → g < length m.harts
  go true k = ltb-true g (length m.harts) k
  go false k = absurd (halted (rw (get_or-eq_default m.harts no_flat_hart (ltb-false g (length m.harts) k)) at e)) where
    halted : hart_step code items no_flat_hart words sc_ok ≡ Ok c → ⊥
    halted e = grind arith

-- what stands behind a completed step: what its hart does, which has this effect and leaves this machine
pub record StepChange (code : List CodeWord) (items : ItemTable) (m n : FlatMachine) (g : ℕ) (sc_ok : Bool) (effect : Effect) : Type 0 where
  pub change : Change
  pub step : hart_step code items (flat_hart m g) (item_words m) sc_ok ≡ Ok change
  pub made : change.effect ≡ effect
  pub after : with_change m g change ≡ n

pub change_of : (code : List CodeWord) (items : ItemTable) (m n : FlatMachine) (g : ℕ) (sc_ok : Bool) (effect : Effect) → flat_step code items m g sc_ok ≡ Ok (effect, n) → StepChange code items m n g sc_ok effect
unfolding flat_step
change_of code items m n g sc_ok effect e = go (hart_step code items (flat_hart m g) (item_words m) sc_ok) refl e where
  go : (r : Result Change HaltCause) → hart_step code items (flat_hart m g) (item_words m) sc_ok ≡ r → stepped m g r ≡ Ok (effect, n) → StepChange code items m n g sc_ok effect
  go (Ok c) k e = record { change = c; step = k; made = grind arith; after = grind arith }
  go (Err cause) k e = grind arith

-- and behind a legal record
pub record_change : (code : List CodeWord) (items : ItemTable) (m n : FlatMachine) (op : Op) → legal_step code items m op ≡ Some n → StepChange code items m n op.hart (is_sc_ok op.effect) op.effect
record_change code items m n op e = change_of code items m n op.hart (is_sc_ok op.effect) op.effect (legal_step_is code items m n op e).1

pub flat_step_is : (code : List CodeWord) (items : ItemTable) (m : FlatMachine) (g : ℕ) (sc_ok : Bool) (c : Change) → hart_step code items (flat_hart m g) (item_words m) sc_ok ≡ Ok c → flat_step code items m g sc_ok ≡ Ok (c.effect, with_change m g c)
unfolding flat_step
flat_step_is code items m g sc_ok c e = ap (stepped m g) e

-- a step that is on another item stores to another item
pub stored_away : (code : List CodeWord) (items : ItemTable) (x : Option ℕ) (g : FlatHart) (words : ℕ → List ℕ) (sc_ok : Bool) (c : Change) → HasWholeWords items → hart_step code items g words sc_ok ≡ Ok c → NotOn items x c.effect → (s : Stored) → c.stored ≡ Some s → Some s.item ≢ x
stored_away code items x g words sc_ok c whole e off s k at = go (step_follows code items g words sc_ok c whole e) where
  go : FollowsAsk items (ask_of code items g.hart) c → ⊥
  go (f, inl i) = off s.item (sym at) (i ∙ (step_leaves code items g words sc_ok c e).1 s k)
  go (f, inr i) = grind arith

-- A machine that is like z but for hart h and item x, of which it has what b has.
pub record IsJoined (h : ℕ) (x : Option ℕ) (z b m : FlatMachine) : Type 0 where
  pub alike : Alike h x z m
  pub hart : (flat_hart m h).hart ≡ (flat_hart b h).hart
  pub words : (y : ℕ) → x ≡ Some y → item_words m y ≡ item_words b y

-- the step of another hart that isn't on the item is a step of both machines, with the same effect, and leaves them alike
pub flat_step_alike : (code : List CodeWord) (items : ItemTable) (h : ℕ) (x : Option ℕ) (a b : FlatMachine) (g : ℕ) (sc_ok : Bool) (effect : Effect) (a2 : FlatMachine) → HasWholeWords items → Alike h x a b → g ≢ h → flat_step code items a g sc_ok ≡ Ok (effect, a2) → NotOn items x effect → (b2 : FlatMachine) × (flat_step code items b g sc_ok ≡ Ok (effect, b2)) × IsJoined h x a2 b b2
flat_step_alike code items h x a b g sc_ok effect a2 whole like other e off = (with_change b g d, step_d, record { alike = like_d; hart = hart_d; words = words_d }) where
  s : StepChange code items a a2 g sc_ok effect
  s = change_of code items a a2 g sc_ok effect e

  off_s : NotOn items x s.change.effect
  off_s y i k = off y i (ap (effect_item items) (sym s.made) ∙ k)

  away : (to : Stored) → s.change.stored ≡ Some to → Some to.item ≢ x
  away to k = stored_away code items x (flat_hart a g) (item_words a) sc_ok s.change whole s.step off_s to k

  with_hart_b : HartValue → Type 0
  with_hart_b k = AnswersLike x (hart_step code items (record { hart = k; reserved = (flat_hart b g).reserved }) (item_words b) sc_ok) s.change

  like_b : AnswersLike x (hart_step code items (flat_hart b g) (item_words b) sc_ok) s.change
  like_b = subst with_hart_b (like.hart g other) (step_alike code items x (flat_hart a g).hart (flat_hart a g).reserved (flat_hart b g).reserved (item_words a) (item_words b) sc_ok whole (like.reserved g other) like.words s.change s.step off_s)

  d : Change
  d = like_b.change

  step_d : flat_step code items b g sc_ok ≡ Ok (effect, with_change b g d)
  step_d =
      let answers : Effect → FlatStepped = λ k. Ok (k, with_change b g d) in
      flat_step_is code items b g sc_ok d like_b.answer ∙ ap answers (like_b.effect ∙ s.made)

  like_d : Alike h x a2 (with_change b g d)
  like_d = subst (λ m. Alike h x m (with_change b g d)) s.after (changes_alike h x a b g s.change d like (in_range code items a g (item_words a) sc_ok s.change s.step) like_b.hart like_b.reserved like_b.stored away)

  hart_d : (flat_hart (with_change b g d) h).hart ≡ (flat_hart b h).hart
  hart_d = ap (λ (k : FlatHart). k.hart) (other_hart b g d h (λ i. other (sym i))) ∙ freed_hart d.stored (flat_hart b h)

  words_d : (y : ℕ) → x ≡ Some y → item_words (with_change b g d) y ≡ item_words b y
  words_d y i = other_words b g d y (λ to k at. away to (sym like_b.stored ∙ k) (ap Some (sym at) ∙ sym i))

-- ---- lists

-- a record of another hart, and not on the item
pub record IsElsewhere (items : ItemTable) (h : ℕ) (x : Option ℕ) (op : Op) : Type 0 where
  pub hart : is_of h op ≡ false
  pub item : NotOn items x op.effect

-- no record is of this hart, and none is on the item
abbrev pub Elsewhere : ItemTable → ℕ → Option ℕ → List Op → Type 0
Elsewhere items h x ops = AllByRecursion (IsElsewhere items h x) ops

-- what the test says of an item
pub not_on : (items : ItemTable) (x : Option ℕ) (effect : Effect) → ((y : ℕ) → x ≡ Some y → on_item items y effect ≡ false) → NotOn items x effect
unfolding on_item
not_on items x effect off y at e = absurd (go (rw e at (off y at))) where
  go : nat_eq y y ≡ false → ⊥
  go h = eqb-false y y h refl

-- what a legal list's first record leaves, from where the others are legal
pub record LegalFirst (code : List CodeWord) (items : ItemTable) (a : FlatMachine) (op : Op) (ops : List Op) (z : FlatMachine) : Type 0 where
  pub next : FlatMachine
  pub step : legal_step code items a op ≡ Some next
  pub rest : legal_run code items next ops ≡ Some z

pub legal_first : (code : List CodeWord) (items : ItemTable) (a : FlatMachine) (op : Op) (ops : List Op) (z : FlatMachine) → legal_run code items a (op ∷ ops) ≡ Some z → LegalFirst code items a op ops z
unfolding legal_run
legal_first code items a op ops z e = option_and_then_some (λ n. legal_run code items n ops) (legal_step code items a op) z e (λ n step rest. record { next = n; step = step; rest = rest })

pub legal_more : (code : List CodeWord) (items : ItemTable) (b n : FlatMachine) (op : Op) (ops : List Op) → legal_step code items b op ≡ Some n → legal_run code items b (op ∷ ops) ≡ legal_run code items n ops
unfolding legal_run
legal_more code items b n op ops e = ap (option_and_then (λ m. legal_run code items m ops)) e

-- A list that is legal from `start`, and ends in a machine that is like z but for hart h and item x, of which it has what b has.
pub record EndsAlike (code : List CodeWord) (items : ItemTable) (h : ℕ) (x : Option ℕ) (z b start : FlatMachine) (ops : List Op) : Type 0 where
  pub end : FlatMachine
  pub legal : legal_run code items start ops ≡ Some end
  pub joined : IsJoined h x z b end

-- a legal list is legal, and with the same effects, from a machine that is alike, if none of it is of that hart or on that item
pub runs_alike : (code : List CodeWord) (items : ItemTable) (h : ℕ) (x : Option ℕ) (a b : FlatMachine) (ops : List Op) (z : FlatMachine) → HasWholeWords items → Alike h x a b → Elsewhere items h x ops → legal_run code items a ops ≡ Some z → EndsAlike code items h x z b b ops
unfolding legal_run
runs_alike code items h x a b [] z whole like off e = record { end = b; legal = refl; joined = record { alike = subst (λ m. Alike h x m b) (same_Some a z e) like; hart = refl; words = λ y at. refl } }
runs_alike code items h x a b (op ∷ ops) z whole like off e = go (legal_first code items a op ops z e) (λ n b2 like2 run. runs_alike code items h x n b2 ops z whole like2 off.1 run) where
  other : op.hart ≢ h
  other = eqb-false op.hart h off.0.hart

  go : LegalFirst code items a op ops z → ((n b2 : FlatMachine) → Alike h x n b2 → legal_run code items n ops ≡ Some z → EndsAlike code items h x z b2 b2 ops) → EndsAlike code items h x z b b (op ∷ ops)
  go f rest = stepped_b (flat_step_alike code items h x a b op.hart (is_sc_ok op.effect) op.effect f.next whole like other (legal_step_is code items a f.next op f.step).1 off.0.item) where
    stepped_b : ((b2 : FlatMachine) × (flat_step code items b op.hart (is_sc_ok op.effect) ≡ Ok (op.effect, b2)) × IsJoined h x f.next b b2) → EndsAlike code items h x z b b (op ∷ ops)
    stepped_b (b2, step_b, joined) = with_first (rest f.next b2 joined.alike f.rest) where
      legal_b : legal_step code items b op ≡ Some b2
      legal_b = legal_step_of code items b b2 op (ap (λ (k : HartValue). k.pc) (sym (like.hart op.hart other)) ∙ (legal_step_is code items a f.next op f.step).0) step_b

      with_first : EndsAlike code items h x z b2 b2 ops → EndsAlike code items h x z b b (op ∷ ops)
      with_first r = record {
        end = r.end;
        legal = legal_more code items b b2 op ops legal_b ∙ r.legal;
        joined = record { alike = r.joined.alike; hart = r.joined.hart ∙ joined.hart; words = λ y at. r.joined.words y at ∙ joined.words y at };
      }

pub changed_is : (code : List CodeWord) (items : ItemTable) (g : FlatHart) (words : ℕ → List ℕ) (sc_ok : Bool) (c : Change) → HasWholeWords items → hart_step code items g words sc_ok ≡ Ok c → changed_item items c.effect ≡ stored_item c.stored
changed_is code items g words sc_ok c whole e = go (step_follows code items g words sc_ok c whole e) where
  by_stored : (o : Option Stored) → is_change c.effect ≡ is_some o → ((s : Stored) → o ≡ Some s → effect_item items c.effect ≡ Some s.item) → changed_item items c.effect ≡ stored_item o
  by_stored None i k = rw i refl
  by_stored (Some s) i k = rw i (k s refl)

  go : FollowsAsk items (ask_of code items g.hart) c → changed_item items c.effect ≡ stored_item c.stored
  go (f, inl i) = by_stored c.stored f (λ s k. i ∙ (step_leaves code items g words sc_ok c e).1 s k)
  go (f, inr i) = by_stored c.stored f (λ s k. absurd (none-some s (sym i.3 ∙ k)))

-- Insertion: a legal record stands before a legal list of other harts' records, none of them on the item that it changes.
-- The list stays legal. At its end the record's hart is as it was after the record, and so are the words of the item that
-- it changed; all else is as it was without the record, but for other harts' reservations of that item.
pub insert : (code : List CodeWord) (items : ItemTable) (a a2 : FlatMachine) (o : Op) (ops : List Op) (z : FlatMachine) → HasWholeWords items → legal_step code items a o ≡ Some a2 → Elsewhere items o.hart (changed_item items o.effect) ops → legal_run code items a ops ≡ Some z → EndsAlike code items o.hart (changed_item items o.effect) z a2 a (o ∷ ops)
insert code items a a2 o ops z whole step off run = go (runs_alike code items o.hart (changed_item items o.effect) a a2 ops z whole like off run) where
  s : StepChange code items a a2 o.hart (is_sc_ok o.effect) o.effect
  s = record_change code items a a2 o step

  item_is : changed_item items o.effect ≡ stored_item s.change.stored
  item_is = ap (changed_item items) (sym s.made) ∙ changed_is code items (flat_hart a o.hart) (item_words a) (is_sc_ok o.effect) s.change whole s.step

  like : Alike o.hart (changed_item items o.effect) a a2
  like = subst (λ m. Alike o.hart (changed_item items o.effect) a m) s.after (subst (λ x. Alike o.hart x a (with_change a o.hart s.change)) (sym item_is) (change_leaves_alike a o.hart s.change))

  go : EndsAlike code items o.hart (changed_item items o.effect) z a2 a2 ops → EndsAlike code items o.hart (changed_item items o.effect) z a2 a (o ∷ ops)
  go r = record { end = r.end; legal = legal_more code items a a2 o ops step ∙ r.legal; joined = r.joined }
