-- The first operations, and the one behind them.
use Rattle.std.proofs.Common.{◌≡◌, ◌<◌, ℕ, ◌+◌, ◌++◌, List, [], ◌∷◌, length, take, sym, ap, ◌∙◌}
use Rattle.std.specs.Prelude.{slice_index_or}
use Rattle.std.specs.List.{flat_map}
use Rattle.std.proofs.lemmas.List.{append-nil, take_more}
use Rattle.std.proofs.lemmas.Grind.{flat_map-append}
use Rattle.ddm_types.specs.declared.operations.Op.{Op}

module _ (ops : List Op) (place : ℕ) (op : Op) (inside : place < length ops) (there : (d : Op) → op ≡ slice_index_or ops place d) where
  pub one_more : take (place + 1) ops ≡ take place ops ++ op ∷ []
  one_more = take_more ops place op inside ∙ ap (λ o. take place ops ++ o ∷ []) (sym (there op))

  pub texts_more : {X : Type 0} (f : Op → List X) → flat_map f (take (place + 1) ops) ≡ flat_map f (take place ops) ++ f op
  texts_more f = ap (flat_map f) one_more ∙ flat_map-append f (take place ops) (op ∷ []) ∙ ap (λ t. flat_map f (take place ops) ++ t) (append-nil (f op))
