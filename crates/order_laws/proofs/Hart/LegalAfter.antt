-- The operations in key order after a turn that completes: they are legal, and leave the leaf's hart.
use Rattle.std.proofs.Common.{◌≡◌, ℕ, true, List, [], ◌∷◌, ◌++◌, Some, sym, ap, ◌∙◌}
use Rattle.std.specs.List.{AllByRecursion}
use Rattle.order_laws.specs.DdmTypes.declared.operations.Op.{Op}
use Rattle.order_laws.specs.DdmTypes.declared.keys.Key.{Key}
use Rattle.order_laws.specs.DdmTypes.ItemTable.{ItemTable}
use Rattle.order_laws.specs.DdmTypes.CodeMap.{CodeWord}
use Rattle.order_laws.specs.FlatModel.Hart.{ask_of}
use Rattle.order_laws.specs.FlatModel.Flat.{FlatMachine, flat_hart, item_words, has_reserved, asked_item}
use Rattle.order_laws.specs.FlatModel.Legal.{changed_item, HasWholeWords, legal_step, legal_run, reservation, words_after}
use Rattle.order_laws.proofs.FlatModel.Insert.{Alike, EndsAlike}
use Rattle.order_laws.proofs.FlatModel.Storing.{words_is}
use Rattle.order_laws.proofs.FlatModel.Reserving.{run_reserves}
use Rattle.order_laws.specs.TreeModel.State.Values.{LeafValue}
use Rattle.order_laws.specs.TreeModel.State.Leaf.{LeafEntry, leaf_entry}
use Rattle.order_laws.specs.TreeModel.Turns.Witness.{sorted_ops}
use Rattle.order_lists.proofs.Sorted.{IsNew, KeysDiffer, lesser}
use Rattle.order_lists.proofs.Completing.{IsLatest, StepsFrom, completing}
use Rattle.order_laws.proofs.Hart.Retiring.{Retires}
use Rattle.order_laws.proofs.Hart.FlatStep.{legal_of}

module _ (code : List CodeWord) (items : ItemTable) (s z : FlatMachine) (ops : List Op) (op : Op) where
  -- before the turn: what the flat machine has at the new operation's place among the others
  pub record IsReady (v : LeafValue) : Type 0 where
    pub hart : (flat_hart z op.hart).hart ≡ v.hart
    pub words : (x : ℕ) (e : LeafEntry) → asked_item (ask_of code items v.hart) ≡ Some x → leaf_entry x v ≡ Some e → e.words ≡ words_after items x (item_words s x) (lesser op (sorted_ops ops))
    pub reserved : (x : ℕ) → has_reserved v.reservation x ≡ true → has_reserved (reservation items op.hart (flat_hart s op.hart).reserved (lesser op (sorted_ops ops))) x ≡ true

  -- after it
  pub record IsLegalAfter (w : LeafValue) : Type 0 where
    pub after : FlatMachine
    pub run : legal_run code items s (sorted_ops (ops ++ op ∷ [])) ≡ Some after
    pub hart : (flat_hart after op.hart).hart ≡ w.hart
    pub others : Alike op.hart (changed_item items op.effect) z after

  pub legal_after : (now : Key) (v w : LeafValue) → HasWholeWords items → KeysDiffer ops → IsNew op ops → AllByRecursion (IsLatest code items op) ops → legal_run code items s (sorted_ops ops) ≡ Some z → IsReady v → Retires code items now v op w → IsLegalAfter w
  legal_after now v w whole differ new latest run ready retires = at (legal_of code items now v op w retires from.machine (sym from.hart ∙ ready.hart) words (λ x h. ap (λ r. has_reserved r x) (run_reserves code items s (lesser op (sorted_ops ops)) from.machine op.hart whole from.legal) ∙ ready.reserved x h)) where
    from : StepsFrom code items s z ops op
    from = completing code items s z ops op whole differ new latest run

    words : (x : ℕ) (e : LeafEntry) → asked_item (ask_of code items v.hart) ≡ Some x → leaf_entry x v ≡ Some e → item_words from.machine x ≡ e.words
    words x e asked k = words_is code items s (lesser op (sorted_ops ops)) from.machine x whole from.legal ∙ sym (ready.words x e asked k)

    at : ((b : FlatMachine) × (legal_step code items from.machine op ≡ Some b) × ((flat_hart b op.hart).hart ≡ w.hart)) → IsLegalAfter w
    at (b, step, left) =
        let r : EndsAlike code items op.hart (changed_item items op.effect) z b s (sorted_ops (ops ++ op ∷ [])) = from.steps b step in
        record { after = r.end; run = r.legal; hart = r.joined.hart ∙ left; others = r.joined.alike }
