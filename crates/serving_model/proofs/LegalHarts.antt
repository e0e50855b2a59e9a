-- The operations of a legal list are of harts that the machine has.
-- Letters: f is a flat machine.
use Rattle.std.proofs.Common.{◌≡◌, ◌<◌, List, [], ◌∷◌, length, Option, Some, None, refl, ap, subst, sym, ◌∙◌}
use Rattle.std.specs.Prelude.{All, IsSome}
use Rattle.std.proofs.lemmas.Bool.{true≢false}
use Rattle.std.proofs.lemmas.List.Elements.{All-cons, All-nil}
use Rattle.serving_model.specs.DdmTypes.CodeMap.{CodeWord}
use Rattle.serving_model.specs.DdmTypes.ItemTable.{ItemTable}
use Rattle.serving_model.specs.DdmTypes.declared.operations.Op.{Op}
use Rattle.bus_laws.specs.FlatModel.Flat.{FlatMachine, item_words}
use Rattle.serving_model.specs.FlatModel.Legal.{Legal, is_sc_ok, legal_run}
use Rattle.bus_laws.proofs.FlatModel.Frames.{same_counts}
use Rattle.bus_laws.proofs.FlatModel.Insert.{LegalFirst, in_range, legal_first, record_change}

run-harts : (code : List CodeWord) (items : ItemTable) (f : FlatMachine) (ops : List Op) (last : FlatMachine) → legal_run code items f ops ≡ Some last → All (λ (op : Op). op.hart < length f.harts) ops
run-harts code items f [] last e = All-nil (λ (op : Op). op.hart < length f.harts)
run-harts code items f (op ∷ ops) last e = at (λ next rest. run-harts code items next ops last rest) (legal_first code items f op ops last e) where
  at : ((next : FlatMachine) → legal_run code items next ops ≡ Some last → All (λ (o : Op). o.hart < length next.harts) ops) → LegalFirst code items f op ops last → All (λ (o : Op). o.hart < length f.harts) (op ∷ ops)
  at later first =
      let c = record_change code items f first.next op first.step in
      let inside = in_range code items f op.hart (item_words f) (is_sc_ok op.effect) c.change c.step in
      let same : length first.next.harts ≡ length f.harts = ap (λ (n : FlatMachine). length n.harts) (sym c.after) ∙ (same_counts f op.hart c.change).0 in
      All-cons (λ (o : Op). o.hart < length f.harts) op ops inside (subst (λ n. All (λ (o : Op). o.hart < n) ops) same (later first.next first.rest))

pub legal-harts : (code : List CodeWord) (items : ItemTable) (f : FlatMachine) (ops : List Op) → Legal code items f ops → All (λ (op : Op). op.hart < length f.harts) ops
legal-harts code items f ops legal = by (legal_run code items f ops) refl legal where
  by : (o : Option FlatMachine) → legal_run code items f ops ≡ o → IsSome o → All (λ (op : Op). op.hart < length f.harts) ops
  by (Some last) is some = run-harts code items f ops last is
  by None is none = absurd (true≢false (sym none))
