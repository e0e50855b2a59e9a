-- What completes at a leaf is a legal step of a flat machine whose hart, words and reservation are the leaf's.
use Rattle.std.proofs.Common.{◌≡◌, ℕ, Bool, true, false, ◌&&◌, nat_eq, is_some, List, Option, Some, None, Ok, Err, Result, refl, sym, ap, ap₂, ◌∙◌}
use Rattle.std.proofs.lemmas.Bool.{true≢false, eq-eqb}
use Rattle.order_laws.specs.DdmTypes.declared.operations.Effect.{Effect}
use Rattle.order_laws.specs.DdmTypes.declared.operations.HaltCause.{HaltCause}
use Rattle.order_laws.specs.DdmTypes.declared.operations.Op.{Op}
use Rattle.order_laws.specs.DdmTypes.declared.sizes.LeafState.{LeafState}
use Rattle.order_laws.specs.DdmTypes.declared.keys.Key.{Key}
use Rattle.order_laws.specs.DdmTypes.ItemTable.{ItemTable}
use Rattle.order_laws.specs.DdmTypes.CodeMap.{CodeWord}
use Rattle.order_laws.specs.FlatModel.declared.Ask.{Ask}
use Rattle.order_laws.specs.FlatModel.declared.Ask.TheVariants.{Plain, Put, NeedsShared, NeedsExclusive, Conditional, Halt}
use Rattle.order_laws.specs.FlatModel.Hart.{HartValue, Finished, ask_of, finish_of}
use Rattle.order_laws.specs.FlatModel.Flat.{FlatHart, FlatMachine, Change, flat_hart, item_words, has_reserved, leaving, storing_to, conditional, change_by, unless_halted, asked_item, hart_step, flat_step, with_change}
use Rattle.order_laws.specs.FlatModel.Legal.{is_sc_ok, legal_step}
use Rattle.order_laws.proofs.FlatModel.Runs.{legal_step_of}
use Rattle.order_laws.proofs.FlatModel.Steps.{Unreserved, unreserved, same_change, finish_failing}
use Rattle.order_laws.proofs.FlatModel.Frames.{own_hart}
use Rattle.order_laws.proofs.FlatModel.Insert.{in_range, flat_step_is}
use Rattle.order_laws.proofs.FlatModel.Completing.{Completes, change_completes}
use Rattle.order_laws.specs.TreeModel.State.Values.{LeafValue}
use Rattle.order_laws.specs.TreeModel.State.Leaf.{LeafEntry, leaf_entry, entry_words}
use Rattle.order_laws.specs.TreeModel.Turns.HartTurn.{no_need, need_to_read, need_to_write, need_in_state, need_of, words_here, change_here}
use Rattle.order_laws.proofs.Hart.Retiring.{Retires}

-- the leaf's hart, with its reservation
abbrev pub own_flat : LeafValue → FlatHart
own_flat v = record { hart = v.hart; reserved = v.reservation }

-- ---- the entry that an instruction is done on

pub record HasFor (P : LeafState → Type 0) (x : ℕ) (v : LeafValue) : Type 0 where
  pub entry : LeafEntry
  pub at : leaf_entry x v ≡ Some entry
  pub state : P entry.state

abbrev pub IsExclusiveState : LeafState → Type 0
IsExclusiveState s = s ≡ LeafState.Exclusive

abbrev pub AnyState : LeafState → Type 0
AnyState s = Unit {0}

read_at_hand : (x : ℕ) (v : LeafValue) → need_to_read x (leaf_entry x v) ≡ no_need → HasFor AnyState x v
read_at_hand x v h = go (leaf_entry x v) refl h where
  go : (o : Option LeafEntry) → leaf_entry x v ≡ o → need_to_read x o ≡ no_need → HasFor AnyState x v
  go None k i = absurd (let wrong : ⊥ = cc in wrong)
  go (Some e) k i = record { entry = e; at = k; state = tt }

write_at_hand : (x : ℕ) (v : LeafValue) → need_to_write x (leaf_entry x v) ≡ no_need → HasFor IsExclusiveState x v
write_at_hand x v h = go (leaf_entry x v) refl h where
  by_state : (e : LeafEntry) (s : LeafState) → e.state ≡ s → need_in_state x e.words s ≡ no_need → e.state ≡ LeafState.Exclusive
  by_state e LeafState.Exclusive k i = k
  by_state e LeafState.Shared k i = absurd (let wrong : ⊥ = cc in wrong)
  by_state e LeafState.Waiting k i = absurd (let wrong : ⊥ = cc in wrong)
  by_state e LeafState.Reading k i = absurd (let wrong : ⊥ = cc in wrong)
  by_state e LeafState.ReadingWaiting k i = absurd (let wrong : ⊥ = cc in wrong)

  go : (o : Option LeafEntry) → leaf_entry x v ≡ o → need_to_write x o ≡ no_need → HasFor IsExclusiveState x v
  go None k i = absurd (let wrong : ⊥ = cc in wrong)
  go (Some e) k i = record { entry = e; at = k; state = by_state e e.state refl i }

-- by what is asked for; a failing SC has no need of its item
pub shared_entry : (x : ℕ) (lr : Bool) (v : LeafValue) (ask : Ask) → ask ≡ NeedsShared x lr → need_of ask v ≡ no_need → HasFor AnyState x v
shared_entry x lr v ask is h = read_at_hand x v (ap (λ a. need_of a v) (sym is) ∙ h)

pub written_entry : (x : ℕ) (v : LeafValue) (ask : Ask) → ask ≡ NeedsExclusive x → need_of ask v ≡ no_need → HasFor IsExclusiveState x v
written_entry x v ask is h = write_at_hand x v (ap (λ a. need_of a v) (sym is) ∙ h)

pub conditional_entry : (x : ℕ) (v : LeafValue) (ask : Ask) → ask ≡ Conditional x → has_reserved v.reservation x ≡ true → need_of ask v ≡ no_need → HasFor IsExclusiveState x v
conditional_entry x v ask is has h = write_at_hand x v (here has (ap (λ a. need_of a v) (sym is) ∙ h)) where
  here : has_reserved v.reservation x ≡ true → need_of (Conditional x) v ≡ no_need → need_to_write x (leaf_entry x v) ≡ no_need
  here i k = rw i at k

-- ---- the step

module _ (code : List CodeWord) (items : ItemTable) where
  -- the words that a flat machine's step reads are those of the leaf's entry
  abbrev pub HasWordsFor : LeafValue → (ℕ → List ℕ) → Type 0
  HasWordsFor v words = (x : ℕ) (e : LeafEntry) → asked_item (ask_of code items v.hart) ≡ Some x → leaf_entry x v ≡ Some e → words x ≡ e.words

  -- what the leaf has reserved is reserved
  abbrev pub HasReserved : LeafValue → Option ℕ → Type 0
  HasReserved v r = (x : ℕ) → has_reserved v.reservation x ≡ true → has_reserved r x ≡ true

  -- the leaf's turn as a step of its own hart, reservation and words, in which an SC may store
  pub own_step : (now : Key) (v : LeafValue) (op : Op) (w : LeafValue) (r : Retires code items now v op w) → hart_step code items (own_flat v) (words_here v) true ≡ Ok r.change
  unfolding hart_step change_here
  own_step now v op w r = ap (λ h. unless_halted h (change_by (ask_of code items v.hart) v.reservation (finish_of code items v.hart) (words_here v) true)) r.at_hand.running ∙ r.made

  -- another step with the change's effect, hart and stored words
  pub record IsLike (c : Change) (made : Result Change HaltCause) : Type 0 where
    pub change : Change
    pub is_made : made ≡ Ok change
    pub effect : change.effect ≡ c.effect
    pub hart : change.after.hart ≡ c.after.hart

  abbrev effect_in : Effect → Unreserved → Effect
  effect_in other (Ok p) = p.0
  effect_in other (Err cause) = other

  abbrev hart_in : HartValue → Unreserved → HartValue
  hart_in other (Ok p) = p.1
  hart_in other (Err cause) = other

  like : (c : Change) (made : Result Change HaltCause) → unreserved made ≡ unreserved (Ok c) → IsLike c made
  like c (Err cause) e = absurd (let wrong : ⊥ = cc in wrong)
  like c (Ok d) e =
      record { change = d; is_made = refl; effect = ap (effect_in c.effect) e; hart = ap (hart_in c.after.hart) e }

  module _ (now : Key) (v : LeafValue) (op : Op) (w : LeafValue) (r : Retires code items now v op w) where
    abbrev finish : List ℕ → Bool → Finished
    finish = finish_of code items v.hart

    abbrev makes : Ask → Option ℕ → (ℕ → List ℕ) → Bool → Result Change HaltCause
    makes ask reserved words ok = change_by ask reserved finish words ok

    made : makes (ask_of code items v.hart) v.reservation (words_here v) true ≡ Ok r.change
    unfolding change_here
    made = r.made

    says : Completes (own_flat v) r.change (makes (ask_of code items v.hart) v.reservation (words_here v) (is_sc_ok r.change.effect))
    says = change_completes code items (own_flat v) (words_here v) true (ask_of code items v.hart) r.change refl made

    -- a hart that completes goes on
    pub goes_on : r.change.after.hart.halt ≡ None
    goes_on = says.halt ∙ r.at_hand.running

    -- an SC without its reservation fails
    fails : (x : ℕ) → ask_of code items v.hart ≡ Conditional x → has_reserved v.reservation x ≡ false → is_sc_ok r.change.effect ≡ false
    fails x asked hasnt = go (is_sc_ok r.change.effect) refl where
      at_ask : makes (Conditional x) v.reservation (words_here v) true ≡ Ok r.change
      at_ask = ap (λ a. makes a v.reservation (words_here v) true) (sym asked) ∙ made

      failing : makes (Conditional x) (Some x) (words_here v) false ≡ Ok r.change
      failing = rw hasnt at at_ask

      again : makes (Conditional x) (Some x) (words_here v) (is_sc_ok r.change.effect) ≡ Ok r.change
      again = (change_completes code items (record { hart = v.hart; reserved = Some x }) (words_here v) false (Conditional x) r.change asked failing).same

      go : (ok : Bool) → is_sc_ok r.change.effect ≡ ok → is_sc_ok r.change.effect ≡ false
      go false i = i
      go true i =
          let stored : makes (Conditional x) (Some x) (words_here v) true ≡ Ok r.change = rw i at again in
          let here : conditional (nat_eq x x) x (finish (words_here v x)) ≡ r.change = same_change _ r.change stored in
          let did : conditional true x (finish (words_here v x)) ≡ r.change = rw (eq-eqb x x refl) at here in
          let didnt : conditional false x (finish (words_here v x)) ≡ r.change = same_change _ r.change failing in
          absurd (true≢false (ap (λ (c : Change). is_some c.stored) (did ∙ sym didnt)))

    words_at : (words : ℕ → List ℕ) (x : ℕ) (e : LeafEntry) → words x ≡ e.words → leaf_entry x v ≡ Some e → words x ≡ words_here v x
    words_at words x e same at = same ∙ sym (ap entry_words at)

    module _ (q : Option ℕ) (words : ℕ → List ℕ) (same : HasWordsFor v words) (kept : HasReserved v q) where
      abbrev ok : Bool
      ok = is_sc_ok r.change.effect

      alike : (ask : Ask) → ask_of code items v.hart ≡ ask → unreserved (makes ask q words ok) ≡ unreserved (makes ask v.reservation (words_here v) ok)
      alike Plain asked = refl
      alike (Put byte) asked = refl
      alike (NeedsShared x lr) asked =
          let h : HasFor AnyState x v = shared_entry x lr v (ask_of code items v.hart) asked r.at_hand.met in
          ap (λ ws. unreserved (Ok (leaving (finish ws false) None))) (words_at words x h.entry (same x h.entry (ap asked_item asked) h.at) h.at)
      alike (NeedsExclusive x) asked =
          let h : HasFor IsExclusiveState x v = written_entry x v (ask_of code items v.hart) asked r.at_hand.met in
          ap (λ ws. unreserved (Ok (storing_to x (finish ws false) None))) (words_at words x h.entry (same x h.entry (ap asked_item asked) h.at) h.at)
      alike (Conditional x) asked = go (has_reserved v.reservation x) refl where
        go : (t : Bool) → has_reserved v.reservation x ≡ t → unreserved (makes (Conditional x) q words ok) ≡ unreserved (makes (Conditional x) v.reservation (words_here v) ok)
        go true i =
            let h : HasFor IsExclusiveState x v = conditional_entry x v (ask_of code items v.hart) asked i r.at_hand.met in
            rw (i, kept x i) (ap (λ ws. unreserved (Ok (conditional (ok && true) x (finish ws)))) (words_at words x h.entry (same x h.entry (ap asked_item asked) h.at) h.at))
        go false i =
            let f = finish_failing code items v.hart x asked (words x) (words_here v x) in
            rw (fails x asked i) (ap₂ (λ e h. let c : Unreserved = Ok (e, h, None) in c) f.0 f.1)
      alike (Halt cause) asked = refl

      -- with the flat machine's words and reservation it is the same step
      pub like_step : (g : FlatHart) → g.hart ≡ v.hart → g.reserved ≡ q → IsLike r.change (hart_step code items g words ok)
      unfolding hart_step
      like_step g hart reserved = like r.change (hart_step code items g words ok) (ap unreserved is ∙ alike (ask_of code items v.hart) refl ∙ ap unreserved says.same) where
        is : hart_step code items g words ok ≡ makes (ask_of code items v.hart) q words ok
        is = ap (λ (u : HartValue). unless_halted u.halt (change_by (ask_of code items u) g.reserved (finish_of code items u) words ok)) hart ∙ ap (λ p. unless_halted v.hart.halt (makes (ask_of code items v.hart) p words ok)) reserved ∙ ap (λ o. unless_halted o (makes (ask_of code items v.hart) q words ok)) r.at_hand.running

    -- the step of the flat machine: its operation is legal there, and leaves the leaf's hart
    pub legal_of : (a : FlatMachine) → (flat_hart a op.hart).hart ≡ v.hart → HasWordsFor v (item_words a) → HasReserved v (flat_hart a op.hart).reserved → (b : FlatMachine) × (legal_step code items a op ≡ Some b) × ((flat_hart b op.hart).hart ≡ w.hart)
    legal_of a hart same kept = go (like_step (flat_hart a op.hart).reserved (item_words a) same kept (flat_hart a op.hart) hart refl) where
      effect : op.effect ≡ r.change.effect
      effect = ap (λ (o : Op). o.effect) r.op_is

      go : IsLike r.change (hart_step code items (flat_hart a op.hart) (item_words a) (is_sc_ok r.change.effect)) → (b : FlatMachine) × (legal_step code items a op ≡ Some b) × ((flat_hart b op.hart).hart ≡ w.hart)
      go c =
          let said : hart_step code items (flat_hart a op.hart) (item_words a) (is_sc_ok op.effect) ≡ Ok c.change = ap (λ e. hart_step code items (flat_hart a op.hart) (item_words a) (is_sc_ok e)) effect ∙ c.is_made in
          let pc : (flat_hart a op.hart).hart.pc ≡ op.pc = ap (λ (u : HartValue). u.pc) hart ∙ sym (ap (λ (o : Op). o.pc) r.op_is) in
          let step : flat_step code items a op.hart (is_sc_ok op.effect) ≡ Ok (op.effect, with_change a op.hart c.change) = flat_step_is code items a op.hart (is_sc_ok op.effect) c.change said ∙ ap (λ e. Ok (e, with_change a op.hart c.change)) (c.effect ∙ sym effect) in
          (with_change a op.hart c.change, legal_step_of code items a (with_change a op.hart c.change) op pc step, ap (λ (u : FlatHart). u.hart) (own_hart a op.hart c.change (in_range code items a op.hart (item_words a) (is_sc_ok op.effect) c.change said)) ∙ c.hart ∙ sym (ap (λ (u : LeafValue). u.hart) r.leaf_is))
