-- A reservation of a hart was made by its last LR, and nothing behind that LR has ended it.
-- Letters: o is an operation, h a hart, r a reservation, x an item.
use Rattle.std.proofs.Common.{◌≡◌, ℕ, Bool, true, false, ◌&&◌, nat_eq, ◌⊎◌, inl, inr, List, [], ◌∷◌, ◌++◌, Option, Some, None, Result, Ok, refl, sym, ap, subst, ◌∙◌}
use Rattle.std.specs.Prelude.{⊤, is_some, option_and_then, if◌then◌else◌}
use Rattle.std.specs.List.{AllByRecursion}
use Rattle.std.proofs.lemmas.Bool.{eqb-true, eqb-false, ne_eqb, true≢false}
use Rattle.lr_sc_laws.specs.DdmTypes.declared.operations.Effect.{Effect}
use Rattle.lr_sc_laws.specs.DdmTypes.declared.operations.Effect.TheVariants.{Plain, Put, Load, Store, Lr, ScOk, ScFail, Amo}
use Rattle.lr_sc_laws.specs.DdmTypes.declared.operations.HaltCause.{HaltCause}
use Rattle.lr_sc_laws.specs.DdmTypes.declared.operations.Op.{Op}
use Rattle.lr_sc_laws.specs.DdmTypes.declared.sizes.Start.{Start}
use Rattle.lr_sc_laws.specs.DdmTypes.CodeMap.{CodeWord}
use Rattle.lr_sc_laws.specs.DdmTypes.ItemTable.{ItemTable, item_at}
use Rattle.lr_sc_laws.specs.FlatModel.Hart.{HartValue, Action, Halts, Computes, Puts, Loads, Stores, Reserves, StoresIfReserved, Changes, action_of, ask_by, ask_of, finish_by, finish_of}
use Rattle.lr_sc_laws.specs.FlatModel.Flat.{FlatHart, FlatMachine, Change, flat_start, flat_hart, item_words, has_reserved, conditional, change_by, unless_halted, hart_step}
use Rattle.lr_sc_laws.specs.FlatModel.Legal.{is_of, is_change, effect_item, on_item, changes_item, changed_item, reserved_by_own, reserved_by_other, reserved_by, reservation, is_sc_ok, HasWholeWords, legal_step, legal_run, Legal}
use Rattle.lr_sc_laws.proofs.FlatModel.Actions.{IsActionOf, action_is}
use Rattle.lr_sc_laws.proofs.FlatModel.Insert.{record_change}
use Rattle.lr_sc_laws.proofs.FlatModel.Items.{item_at_word}
use Rattle.lr_sc_laws.proofs.FlatModel.Reserving.{reservation_is}
use Rattle.lr_sc_laws.proofs.FlatModel.Runs.{legal_run_append}
use Rattle.lr_sc_laws.proofs.FlatModel.Steps.{same_change}
use Rattle.lr_sc_laws.specs.Between.{is_lr_or_sc, IsNoOwnPair, IsNoOtherStore, HasItsLr, LegalScsHaveTheirLr}

reserved-is : (r : Option ℕ) (x : ℕ) → has_reserved r x ≡ true → r ≡ Some x
reserved-is None x h = absurd (true≢false (sym h))
reserved-is (Some y) x h = ap (λ z. Some z) (eqb-true y x h)

-- ---- an SC that stores has its item reserved

-- what an effect says of the reservation that was there
abbrev HadReserved : ItemTable → Option ℕ → Effect → Type 0
HadReserved items r Plain = ⊤
HadReserved items r (Put byte) = ⊤
HadReserved items r (Load address word) = ⊤
HadReserved items r (Store address was word) = ⊤
HadReserved items r (Lr address word) = ⊤
HadReserved items r (ScOk address was word) = (x : ℕ) × (item_at items address ≡ Some x) × (r ≡ Some x)
HadReserved items r (ScFail address) = ⊤
HadReserved items r (Amo address was word) = ⊤

module _ (items : ItemTable) (whole : HasWholeWords items) (h : HartValue) (r : Option ℕ) (sc_ok : Bool) where
  had : (known c : Change) → HadReserved items r known.effect → (let o : Result Change HaltCause = Ok known in o ≡ Ok c) → HadReserved items r c.effect
  had known c s e = subst (λ (k : Change). HadReserved items r k.effect) (same_change known c e) s

  by_action : (act : Action) → IsActionOf items h act → (words : ℕ → List ℕ) (c : Change) → change_by (ask_by act) r (finish_by act h) words sc_ok ≡ Ok c → HadReserved items r c.effect
  by_action (Halts cause) is words c e = absurd (let wrong : ⊥ = cc in wrong)
  by_action (Computes after) is words c e = had _ c tt e
  by_action (Puts byte after) is words c e = had _ c tt e
  by_action (Loads op rd a) is words c e = had _ c tt e
  by_action (Stores op v a) is words c e = had _ c tt e
  by_action (Reserves rd a) is words c e = had _ c tt e
  by_action (StoresIfReserved rd v a) is words c e = by_reserved (has_reserved r a.item) refl sc_ok e where
    by_reserved : (b : Bool) → has_reserved r a.item ≡ b → (k : Bool) → (let o : Result Change HaltCause = Ok (conditional (k && b) a.item (finish_by (StoresIfReserved rd v a) h (words a.item))) in o ≡ Ok c) → HadReserved items r c.effect
    by_reserved true has true e = had _ c (a.item, item_at_word items a.address whole ∙ is.item, reserved-is r a.item has) e
    by_reserved true has false e = had _ c tt e
    by_reserved false has true e = had _ c tt e
    by_reserved false has false e = had _ c tt e
  by_action (Changes op rd v a) is words c e = had _ c tt e

step-reserved : (code : List CodeWord) (items : ItemTable) (g : FlatHart) (words : ℕ → List ℕ) (sc_ok : Bool) (c : Change) → HasWholeWords items → hart_step code items g words sc_ok ≡ Ok c → HadReserved items g.reserved c.effect
unfolding hart_step ask_of finish_of
step-reserved code items g words sc_ok c whole e = by_halt g.hart.halt e where
  by_halt : (halt : Option HaltCause) → unless_halted halt (change_by (ask_of code items g.hart) g.reserved (finish_of code items g.hart) words sc_ok) ≡ Ok c → HadReserved items g.reserved c.effect
  by_halt None e = by_action items whole g.hart g.reserved sc_ok (action_of code items g.hart) (action_is code items g.hart) words c e
  by_halt (Some cause) e = absurd (let wrong : ⊥ = cc in wrong)

-- ---- what one operation does to a reservation

abbrev Both : ItemTable → ℕ → ℕ → Op → Type 0
Both items h x o = IsNoOwnPair h o × IsNoOtherStore items h x o

other-kept : (r : Option ℕ) (x : ℕ) (b : Bool) (i : Option ℕ) → reserved_by_other r (if b then i else None) ≡ Some x → (r ≡ Some x) × ((b && has_reserved i x) ≡ false)
other-kept r x false i e = (e, refl)
other-kept r x true None e = (e, refl)
other-kept r x true (Some y) e = by_same (has_reserved r y) refl e where
  by_same : (b : Bool) → has_reserved r y ≡ b → (if b then None else r) ≡ Some x → (r ≡ Some x) × (nat_eq y x ≡ false)
  by_same true has e = absurd (let wrong : ⊥ = cc in wrong)
  by_same false other e =
      let off : nat_eq x y ≡ false = subst (λ q. has_reserved q y ≡ false) e other in
      (e, ne_eqb y x (λ same. eqb-false x y off (sym same)))

module _ (items : ItemTable) (h x : ℕ) where
  -- the LR is in the list, or the reservation was there and nothing ended it
  record Reserved (ops : List Op) : Type 0 where
    before : List Op
    lr : Op
    between : List Op
    are : ops ≡ before ++ lr ∷ between
    hart : lr.hart ≡ h
    at : ℕ
    word : ℕ
    effect : lr.effect ≡ Lr at word
    reserved : item_at items at ≡ Some x
    kept : AllByRecursion (Both items h x) between

  abbrev Comes : Option ℕ → List Op → Type 0
  Comes r ops = Reserved ops ⊎ ((r ≡ Some x) × AllByRecursion (Both items h x) ops)

  behind : (o : Op) (ops : List Op) → Reserved ops → Reserved (o ∷ ops)
  behind o ops l = record { before = o ∷ l.before; lr = l.lr; between = l.between; are = ap (λ os. o ∷ os) l.are; hart = l.hart; at = l.at; word = l.word; effect = l.effect; reserved = l.reserved; kept = l.kept }

  own-effect : (r : Option ℕ) (o : Op) (ops : List Op) → is_of h o ≡ true → AllByRecursion (Both items h x) ops → (e : Effect) → o.effect ≡ e → reserved_by_own items r e ≡ Some x → Comes r (o ∷ ops)
  own-effect r o ops of_h kept e is k = by_effect e is k where
    stays : is_lr_or_sc o.effect ≡ false → r ≡ Some x → Comes r (o ∷ ops)
    stays quiet same = inr (same, ((λ own. quiet, λ other. absurd (true≢false (sym of_h ∙ other))), kept))

    by_effect : (e : Effect) → o.effect ≡ e → reserved_by_own items r e ≡ Some x → Comes r (o ∷ ops)
    by_effect Plain is k = stays (ap is_lr_or_sc is) k
    by_effect (Put byte) is k = stays (ap is_lr_or_sc is) k
    by_effect (Load address word) is k = stays (ap is_lr_or_sc is) k
    by_effect (Store address was word) is k = stays (ap is_lr_or_sc is) k
    by_effect (Lr address word) is k = inl (record { before = []; lr = o; between = ops; are = refl; hart = eqb-true o.hart h of_h; at = address; word = word; effect = is; reserved = k; kept = kept })
    by_effect (ScOk address was word) is k = absurd (let wrong : ⊥ = cc in wrong)
    by_effect (ScFail address) is k = absurd (let wrong : ⊥ = cc in wrong)
    by_effect (Amo address was word) is k = stays (ap is_lr_or_sc is) k

  one-more : (r : Option ℕ) (o : Op) (ops : List Op) → Comes (reserved_by items h r o) ops → Comes r (o ∷ ops)
  unfolding changes_item on_item
  one-more r o ops (inl l) = inl (behind o ops l)
  one-more r o ops (inr k) = by_hart (is_of h o) refl k.0 where
    by_hart : (b : Bool) → is_of h o ≡ b → (if b then reserved_by_own items r o.effect else reserved_by_other r (changed_item items o.effect)) ≡ Some x → Comes r (o ∷ ops)
    by_hart true of_h e = own-effect r o ops of_h k.1 o.effect refl e
    by_hart false other e =
        let kept = other-kept r x (is_change o.effect) (effect_item items o.effect) e in
        inr (kept.0, ((λ own. absurd (true≢false (sym own ∙ other)), λ off. kept.1), k.1))

  comes : (ops : List Op) (r : Option ℕ) → reservation items h r ops ≡ Some x → Comes r ops
  unfolding reservation
  comes [] r e = inr (e, tt)
  comes (o ∷ ops) r e = one-more r o ops (comes ops (reserved_by items h r o) e)

owns : (items : ItemTable) (h x : ℕ) (ops : List Op) → AllByRecursion (Both items h x) ops → AllByRecursion (IsNoOwnPair h) ops
owns items h x [] k = tt
owns items h x (o ∷ ops) k = (k.0.0, owns items h x ops k.1)

others : (items : ItemTable) (h x : ℕ) (ops : List Op) → AllByRecursion (Both items h x) ops → AllByRecursion (IsNoOtherStore items h x) ops
others items h x [] k = tt
others items h x (o ∷ ops) k = (k.0.1, others items h x ops k.1)

-- ---- a legal list

module _ (code : List CodeWord) (items : ItemTable) (start : Start) (words : List (List ℕ)) (whole : HasWholeWords items) where
  at-sc : (earlier later : List Op) (s : Op) (address was word : ℕ) → Legal code items (flat_start start words) (earlier ++ s ∷ later) → s.effect ≡ ScOk address was word
      → (x : ℕ) × (item_at items address ≡ Some x) × (reservation items s.hart None earlier ≡ Some x)
  unfolding legal_run
  at-sc earlier later s address was word legal is = by_run (legal_run code items (flat_start start words) earlier) refl (ap is_some (sym (legal_run_append code items (flat_start start words) earlier (s ∷ later))) ∙ legal) where
    by_step : (y : FlatMachine) → legal_run code items (flat_start start words) earlier ≡ Some y → (o : Option FlatMachine) → legal_step code items y s ≡ o → is_some (option_and_then (λ n. legal_run code items n later) o) ≡ true
        → (x : ℕ) × (item_at items address ≡ Some x) × (reservation items s.hart None earlier ≡ Some x)
    by_step y ran None e l = absurd (true≢false (sym l))
    by_step y ran (Some n) e l =
        let c = record_change code items y n s e in
        let had = step-reserved code items (flat_hart y s.hart) (item_words y) (is_sc_ok s.effect) c.change whole c.step in
        let at = subst (HadReserved items (flat_hart y s.hart).reserved) (c.made ∙ is) had in
        (at.0, at.1, sym (reservation_is code items start words earlier y s.hart whole ran) ∙ at.2)

    by_run : (o : Option FlatMachine) → legal_run code items (flat_start start words) earlier ≡ o → is_some (option_and_then (λ n. legal_run code items n (s ∷ later)) o) ≡ true
        → (x : ℕ) × (item_at items address ≡ Some x) × (reservation items s.hart None earlier ≡ Some x)
    by_run None ran l = absurd (true≢false (sym l))
    by_run (Some y) ran l = by_step y ran (legal_step code items y s) refl l

pub each-sc : LegalScsHaveTheirLr
each-sc code items start words whole ops legal earlier later s address was word are is = of_list (comes items s.hart at.0 earlier None at.2) where
  at : (x : ℕ) × (item_at items address ≡ Some x) × (reservation items s.hart None earlier ≡ Some x)
  at = at-sc code items start words whole earlier later s address was word (subst (Legal code items (flat_start start words)) are legal) is

  of_list : Comes items s.hart at.0 None earlier → HasItsLr items earlier s.hart address
  of_list (inl l) = record {
    before = l.before;
    lr = l.lr;
    between = l.between;
    are = l.are;
    hart = l.hart;
    at = l.at;
    word = l.word;
    effect = l.effect;
    item = at.0;
    reserved = l.reserved;
    stored = at.1;
    own = owns items s.hart at.0 l.between l.kept;
    others = others items s.hart at.0 l.between l.kept;
  }
  of_list (inr k) = absurd (let wrong : ⊥ = cc in wrong)
