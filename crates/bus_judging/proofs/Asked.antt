-- What is gathered of requests, one more at a time.
-- Letters: rs are their kinds, k is one more.
use Rattle.std.proofs.Common.{◌≡◌, sym, refl, Bool, true, not, ◌&&◌, ◌||◌, List, [], ◌∷◌, ◌++◌}
use Rattle.bus_judging.specs.DdmTypes.declared.answers.TxKind.{TxKind}
use Rattle.bus_judging.specs.DdmTypes.declared.answers.TxKind.TheVariants.{ReadTx, EraseTx}
use Rattle.bus_judging.specs.TreeModel.State.Kinds.{is_kind, has_kind, goes_up}
use Rattle.tree_rules.specs.Bus.Item.{requests_fit}
use Rattle.bus_judging.specs.Parent.{RequestFacts, has_any, request_facts}
use Rattle.bus_judging.proofs.Gathered.{any-more}

any-then : (rs : List TxKind) (k : TxKind) → has_any (rs ++ k ∷ []) ≡ true
any-then [] k = refl
any-then (l ∷ rs) k = refl

fits-then : (rs : List TxKind) (k : TxKind) → requests_fit (rs ++ k ∷ []) ≡ (not (has_any rs) && goes_up k)
fits-then [] k = refl
fits-then (l ∷ []) k = refl
fits-then (l ∷ m ∷ rs) k = refl

same-facts : (some fits reads erases : Bool) (f : RequestFacts) → f.some ≡ some → f.fits ≡ fits → f.reads ≡ reads → f.erases ≡ erases
    → f ≡ record { some = some; fits = fits; reads = reads; erases = erases }
same-facts some fits reads erases f a b c d = rw (← a, ← b, ← c, ← d) refl

pub one_request_more : (rs : List TxKind) (k : TxKind)
    → record { some = true; fits = not (has_any rs) && goes_up k; reads = has_kind ReadTx rs || is_kind ReadTx k; erases = has_kind EraseTx rs || is_kind EraseTx k } ≡ request_facts (rs ++ k ∷ [])
one_request_more rs k = sym (same-facts _ _ _ _ (request_facts (rs ++ k ∷ [])) (any-then rs k) (fits-then rs k) (any-more (is_kind ReadTx) rs k) (any-more (is_kind EraseTx) rs k))
