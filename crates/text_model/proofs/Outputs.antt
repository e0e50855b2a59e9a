-- A hart's output comes of its own operations.
use Rattle.std.proofs.Common.{◌≡◌, ℕ, Bool, true, false, cond, nat_eq, List, [], ◌∷◌, ◌++◌, filter, refl, sym, ap, ◌∙◌}
use Rattle.std.specs.Prelude.{flat_map}
use Rattle.text_model.specs.DdmTypes.declared.operations.Op.{Op}
use Rattle.text_model.specs.Report.{put_text, put_text_by, put_texts}

put_texts-filter : (hart : ℕ) (ops : List Op) → put_texts hart (filter (λ (op : Op). nat_eq op.hart hart) ops) ≡ put_texts hart ops
unfolding put_texts
put_texts-filter hart [] = refl
put_texts-filter hart (op ∷ ops) = by_hart (nat_eq op.hart hart) refl (put_texts-filter hart ops) where
  own : List Op
  own = filter (λ (other : Op). nat_eq other.hart hart) ops

  by_hart : (d : Bool) → nat_eq op.hart hart ≡ d → flat_map (put_text_by hart) own ≡ flat_map (put_text_by hart) ops → flat_map (put_text_by hart) (cond d (op ∷ own) own) ≡ put_text_by hart op ++ flat_map (put_text_by hart) ops
  by_hart true same rest = ap (λ t. put_text_by hart op ++ t) rest
  by_hart false other rest = rest ∙ ap (λ d. cond d (put_text op.effect) [] ++ flat_map (put_text_by hart) ops) (sym other)

-- Lists with the same operations of a hart, in the same order, give the same output of it.
pub put_texts-same : (hart : ℕ) (ops others : List Op) → filter (λ (op : Op). nat_eq op.hart hart) ops ≡ filter (λ (op : Op). nat_eq op.hart hart) others → put_texts hart ops ≡ put_texts hart others
put_texts-same hart ops others same = sym (put_texts-filter hart ops) ∙ ap (put_texts hart) same ∙ put_texts-filter hart others
