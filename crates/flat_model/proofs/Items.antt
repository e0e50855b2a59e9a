-- The item of an effect is the item that its instruction asked for, and the effects that store are those of steps that do.
use Rattle.std.proofs.Common.{◌≡◌, ℕ, suc, ◌+◌, ◌*◌, ◌/◌, ◌%◌, ◌<◌, Bool, true, false, not, ◌&&◌, nat_lt, cond, ◌⊎◌, inl, inr, List, [], ◌∷◌, length, slice_index_or, Option, Some, None, Ok, refl, ap, subst, ◌∙◌, arith}
use Rattle.std.specs.Prelude.{All, Result, is_some}
use Rattle.std.specs.List.{position_or_len}
use Rattle.std.proofs.lemmas.List.Quantifiers.{position-Some}
use Rattle.std.proofs.lemmas.Option.{none-some, same_Some}
use Rattle.ddm_types.specs.declared.operations.HaltCause.{HaltCause}
use Rattle.ddm_types.specs.CodeMap.{CodeWord}
use Rattle.ddm_types.specs.ItemTable.{ItemTable, ItemRow, no_row, row_has, item_at, item_count}
use Rattle.flat_model.specs.declared.Ask.{Ask}
use Rattle.flat_model.specs.declared.Ask.TheVariants.{Conditional}
use Rattle.flat_model.specs.Hart.{HartValue, Access, Action, Halts, Computes, Puts, Loads, Stores, Reserves, StoresIfReserved, Changes, action_of, ask_by, ask_of, finish_by, finish_of}
use Rattle.flat_model.specs.Flat.{FlatHart, Change, has_reserved, conditional, change_by, unless_halted, asked_item, hart_step}
use Rattle.flat_model.specs.Legal.{effect_item, is_change, HasWholeWords}
use Rattle.flat_model.proofs.Steps.{same_change}
use Rattle.flat_model.proofs.Actions.{IsAccess, IsActionOf, action_is}

-- a word that begins at a multiple of 4 lies in an item as a whole
row_has_word : (size a : ℕ) (row : ItemRow) → size % 4 ≡ 0 → row.address % 4 ≡ 0 → row_has size (a / 4 * 4) row ≡ row_has size a row
row_has_word size a row s r = grind arith

-- two tests that agree have the same first place
same_first : {X : Type 0} (p q : X → Bool) (xs : List X) → All (λ x. p x ≡ q x) xs → position_or_len p xs ≡ position_or_len q xs
same_first p q [] same = refl
same_first p q (x ∷ xs) same = ap (λ b. cond (not b) (1 + position_or_len p xs) 0) (same 0 x (omega arith)) ∙ ap (λ n. cond (not (q x)) (1 + n) 0) (same_first p q xs (λ k d h. same (suc k) d (omega arith)))

pub item_at_word : (items : ItemTable) (a : ℕ) → HasWholeWords items → item_at items (a / 4 * 4) ≡ item_at items a
unfolding item_at
item_at_word items a whole = ap (λ n. cond (nat_lt n (length items.rows)) (Some n) None) (same_first (row_has items.size (a / 4 * 4)) (row_has items.size a) items.rows (λ k d h. row_has_word items.size a (slice_index_or items.rows k d) whole.0 (whole.1 k d h)))

-- ---- the item that an instruction asks for is one of the table

pub item_at_inside : (items : ItemTable) (a x : ℕ) → item_at items a ≡ Some x → x < item_count items
unfolding item_at
item_at_inside items a x e = (position-Some (row_has items.size a) items.rows x no_row e).0

access_inside : (items : ItemTable) (a : Access) (x : ℕ) → IsAccess items a → Some a.item ≡ Some x → x < item_count items
access_inside items a x at e = subst (λ y. y < item_count items) (same_Some a.item x e) (item_at_inside items a.address a.item at.item)

pub asks_inside : (code : List CodeWord) (items : ItemTable) (h : HartValue) (x : ℕ) → asked_item (ask_of code items h) ≡ Some x → x < item_count items
unfolding ask_of
asks_inside code items h x e = go (action_of code items h) (action_is code items h) e where
  go : (act : Action) → IsActionOf items h act → asked_item (ask_by act) ≡ Some x → x < item_count items
  go (Halts cause) is e = absurd (none-some x e)
  go (Computes after) is e = absurd (none-some x e)
  go (Puts byte after) is e = absurd (none-some x e)
  go (Loads op rd a) is e = access_inside items a x is e
  go (Stores op v a) is e = access_inside items a x is e
  go (Reserves rd a) is e = access_inside items a x is e
  go (StoresIfReserved rd v a) is e = access_inside items a x is e
  go (Changes op rd v a) is e = access_inside items a x is e

-- ---- effects and steps

-- An effect that stores is that of a step that does. Its item is the one that was asked for, but that a failed SC has none.
abbrev pub FollowsAsk : ItemTable → Ask → Change → Type 0
FollowsAsk items ask c =
    (is_change c.effect ≡ is_some c.stored)
    × ((effect_item items c.effect ≡ asked_item ask) ⊎ ((x : ℕ) × (ask ≡ Conditional x) × (effect_item items c.effect ≡ None) × (c.stored ≡ None)))

follows : (items : ItemTable) (ask : Ask) (known c : Change) → (let r : Result Change HaltCause = Ok known in r ≡ Ok c) → FollowsAsk items ask known → FollowsAsk items ask c
follows items ask known c e f = subst (FollowsAsk items ask) (same_change known c e) f

change_follows : (items : ItemTable) (act : Action) (h : HartValue) (reserved : Option ℕ) (words : ℕ → List ℕ) (sc_ok : Bool) (c : Change) → HasWholeWords items → IsActionOf items h act → change_by (ask_by act) reserved (finish_by act h) words sc_ok ≡ Ok c → FollowsAsk items (ask_by act) c
change_follows items (Halts cause) h reserved words sc_ok c whole at e = grind arith
change_follows items (Computes after) h reserved words sc_ok c whole at e = follows items _ _ c e (refl, inl refl)
change_follows items (Puts byte after) h reserved words sc_ok c whole at e = follows items _ _ c e (refl, inl refl)
change_follows items (Loads op rd a) h reserved words sc_ok c whole at e = follows items _ _ c e (refl, inl (item_at_word items a.address whole ∙ at.item))
change_follows items (Stores op v a) h reserved words sc_ok c whole at e = follows items _ _ c e (refl, inl (item_at_word items a.address whole ∙ at.item))
change_follows items (Reserves rd a) h reserved words sc_ok c whole at e = follows items _ _ c e (refl, inl (item_at_word items a.address whole ∙ at.item))
change_follows items (StoresIfReserved rd v a) h reserved words sc_ok c whole at e = go (sc_ok && has_reserved reserved a.item) e where
  go : (b : Bool) → (let r : Result Change HaltCause = Ok (conditional b a.item (finish_by (StoresIfReserved rd v a) h (words a.item))) in r ≡ Ok c) → FollowsAsk items (Conditional a.item) c
  go true e = follows items _ _ c e (refl, inl (item_at_word items a.address whole ∙ at.item))
  go false e = follows items _ _ c e (refl, inr (a.item, refl, refl, refl))
change_follows items (Changes op rd v a) h reserved words sc_ok c whole at e = follows items _ _ c e (refl, inl (item_at_word items a.address whole ∙ at.item))

pub step_follows : (code : List CodeWord) (items : ItemTable) (g : FlatHart) (words : ℕ → List ℕ) (sc_ok : Bool) (c : Change) → HasWholeWords items → hart_step code items g words sc_ok ≡ Ok c → FollowsAsk items (ask_of code items g.hart) c
unfolding hart_step ask_of finish_of
step_follows code items g words sc_ok c whole e = go g.hart.halt e where
  go : (halt : Option HaltCause) → unless_halted halt (change_by (ask_of code items g.hart) g.reserved (finish_of code items g.hart) words sc_ok) ≡ Ok c → FollowsAsk items (ask_of code items g.hart) c
  go None e = change_follows items (action_of code items g.hart) g.hart g.reserved words sc_ok c whole (action_is code items g.hart) e
  go (Some cause) e = grind arith
