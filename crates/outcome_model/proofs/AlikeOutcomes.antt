-- Machines that differ in time alone, and whose harts have put out the same, have one outcome: their leaves are the same but for
-- how many instructions were completed, and a hart's output in words is that of its bytes.
-- Letters: m and n are machines, v a leaf, k a hart's number.
use Rattle.std.proofs.Common.{◌≡◌, ℕ, Bool, true, false, List, [], ◌∷◌, ◌++◌, ◌&&◌, map, refl, sym, ap, ◌∙◌, append-nil}
use Rattle.std.specs.Prelude.{nat_eq, flat_map, codes, decimal, if◌then◌else◌}
use Rattle.std.specs.List.{list_all}
use Rattle.std.proofs.lemmas.Grind.{flat_map-append}
use Rattle.outcome_model.specs.DdmText.Hex.{hex2}
use Rattle.outcome_model.specs.DdmTypes.declared.operations.Effect.{Effect}
use Rattle.outcome_model.specs.DdmTypes.declared.operations.Op.{Op}
use Rattle.outcome_model.specs.TreeModel.State.Values.{LeafValue, MachineValue}
use Rattle.outcome_model.specs.TreeModel.Turns.Machine.{machine_leaves}
use Rattle.text_model.specs.Report.{or_dash, put_text, put_text_by, put_texts}
use Rattle.text_model.specs.Words.{state_text}
use Rattle.time_laws.specs.Forget.{forget_leaf, put_by_effect, put_by, put_bytes, Alike}
use Rattle.time_laws.proofs.BlindBus.{cons-head, cons-tail}
use Rattle.time_laws.proofs.Alike.{leaves-alike}
use Rattle.outcome_model.specs.Outcome.{HartEnd, end_of, end_text, ends_text, outcome_of}
use Rattle.outcome_model.specs.Halted.{all_halted, has_halted}
use Rattle.outcome_model.specs.AlikeOutcomes.{AlikeHaveOneOutcome, AlikeHaltAlike}

-- ---- a hart's output in words is that of its bytes

effect-bytes : (e : Effect) → put_text e ≡ flat_map hex2 (put_by_effect e)
effect-bytes Effect.Plain = refl
effect-bytes (Effect.Put byte) = sym (append-nil (hex2 byte))
effect-bytes (Effect.Load address word) = refl
effect-bytes (Effect.Store address before after) = refl
effect-bytes (Effect.Lr address word) = refl
effect-bytes (Effect.ScOk address before after) = refl
effect-bytes (Effect.ScFail address) = refl
effect-bytes (Effect.Amo address before after) = refl

op-bytes : (k : ℕ) (op : Op) → put_text_by k op ≡ flat_map hex2 (put_by k op)
op-bytes k op = by_hart (nat_eq op.hart k)
  where
    by_hart : (b : Bool) → (if b then put_text op.effect else []) ≡ flat_map hex2 (if b then put_by_effect op.effect else [])
    by_hart true = effect-bytes op.effect
    by_hart false = refl

texts-bytes : (k : ℕ) (ops : List Op) → flat_map (put_text_by k) ops ≡ flat_map hex2 (flat_map (put_by k) ops)
texts-bytes k [] = refl
texts-bytes k (op ∷ ops) = ap (λ l. l ++ flat_map (put_text_by k) ops) (op-bytes k op) ∙ ap (λ l. flat_map hex2 (put_by k op) ++ l) (texts-bytes k ops) ∙ sym (flat_map-append hex2 (put_by k op) (flat_map (put_by k) ops))

put-texts : (k : ℕ) (m : MachineValue) → put_texts k m.ops ≡ flat_map hex2 (put_bytes k m)
unfolding put_texts put_bytes
put-texts k m = texts-bytes k m.ops

-- ---- what is told of each leaf

module _ {A : Type 0} (f : LeafValue → A) (timeless : (v : LeafValue) → f (forget_leaf v) ≡ f v) where
  told-forgotten : (vs : List LeafValue) → map f (map forget_leaf vs) ≡ map f vs
  told-forgotten [] = refl
  told-forgotten (v ∷ vs) = ap (λ a. a ∷ map f (map forget_leaf vs)) (timeless v) ∙ ap (λ l. f v ∷ l) (told-forgotten vs)

  told-alike : (m n : MachineValue) → Alike m n → map f (machine_leaves m) ≡ map f (machine_leaves n)
  told-alike m n alike = sym (told-forgotten (machine_leaves m)) ∙ ap (map f) (leaves-alike m n alike) ∙ told-forgotten (machine_leaves n)

-- ---- the outcome

end-same : (m n : MachineValue) (e : HartEnd) → put_bytes e.number m ≡ put_bytes e.number n → end_text m.ops e ≡ end_text n.ops e
unfolding end_text
end-same m n e same =
    let texts : put_texts e.number m.ops ≡ put_texts e.number n.ops = put-texts e.number m ∙ ap (flat_map hex2) same ∙ sym (put-texts e.number n) in
    ap (λ l. codes " hart " ++ decimal e.number ++ codes " " ++ state_text e.halt ++ codes " out " ++ or_dash l) texts

ends-same : (m n : MachineValue) (vs : List LeafValue) → map (λ v. put_bytes v.number m) vs ≡ map (λ v. put_bytes v.number n) vs → ends_text m.ops (map end_of vs) ≡ ends_text n.ops (map end_of vs)
unfolding ends_text
ends-same m n [] same = refl
ends-same m n (v ∷ vs) same =
    ap (λ l. l ++ ends_text m.ops (map end_of vs)) (end-same m n (end_of v) (cons-head (put_bytes v.number m) (put_bytes v.number n) _ _ same)) ∙ ap (λ l. end_text n.ops (end_of v) ++ l) (ends-same m n vs (cons-tail (put_bytes v.number m) (put_bytes v.number n) _ _ same))

pub one-outcome : AlikeHaveOneOutcome
unfolding outcome_of
one-outcome m n alike =
    let puts : map (λ v. put_bytes v.number m) (machine_leaves m) ≡ map (λ v. put_bytes v.number n) (machine_leaves m) = alike.puts ∙ sym (told-alike (λ v. put_bytes v.number n) (λ v. refl) m n alike) in
    ends-same m n (machine_leaves m) puts ∙ ap (ends_text n.ops) (told-alike end_of (λ v. refl) m n alike)

-- ---- whether all have halted

all-told : (vs : List LeafValue) → list_all has_halted vs ≡ list_all (λ b. b) (map has_halted vs)
all-told [] = refl
all-told (v ∷ vs) = ap (λ b. has_halted v && b) (all-told vs)

pub halt-alike : AlikeHaltAlike
unfolding all_halted
halt-alike m n alike = all-told (machine_leaves m) ∙ ap (list_all (λ b. b)) (told-alike has_halted (λ v. refl) m n alike) ∙ sym (all-told (machine_leaves n))
