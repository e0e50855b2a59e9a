-- The witness of a run is the lines of legal operations.
use Rattle.std.proofs.Common.{◌≡◌, ℕ, suc, ◌+◌, ◌≤◌, Bool, true, false, List, [], ◌∷◌, ◌++◌, length, None, Ok, refl, sym, ap, subst, ◌∙◌, arith, append_assoc, length-append}
use Rattle.std.specs.Prelude.{codes, decimal, flat_map, option_and_then}
use Rattle.std.specs.List.{AllByRecursion}
use Rattle.std.proofs.Math.Seq.{take-length}
use Rattle.std.proofs.lemmas.List.Concat.{flat_map-cons}
use Rattle.witness_laws.specs.DdmTypes.declared.answers.TurnAnswer.{TurnAnswer}
use Rattle.witness_laws.specs.DdmTypes.declared.operations.Effect.{Effect}
use Rattle.witness_laws.specs.DdmTypes.declared.operations.Op.{Op}
use Rattle.witness_laws.specs.DdmTypes.declared.turns.Turn.{Turn}
use Rattle.witness_laws.specs.DdmTypes.CodeMap.{CodeWord}
use Rattle.witness_laws.specs.DdmTypes.ItemTable.{ItemTable}
use Rattle.witness_laws.specs.FlatModel.Legal.{Legal}
use Rattle.witness_laws.specs.TreeModel.State.Shape.{Frame}
use Rattle.witness_laws.specs.TreeModel.State.Values.{MachineValue}
use Rattle.witness_laws.specs.TreeModel.Start.Sources.{ImageValue, TreeValue}
use Rattle.witness_laws.specs.TreeModel.Start.Memory.{start_code, start_items, start_words}
use Rattle.witness_laws.specs.TreeModel.Start.Machine.{flat_start_of, start_machine, start_of, start_refusal}
use Rattle.witness_laws.specs.TreeModel.Turns.Machine.{run_of, turn_of}
use Rattle.witness_laws.specs.DdmTypes.Keys.{key_less}
use Rattle.witness_laws.specs.TreeModel.Turns.Witness.{sorted_ops, with_op}
use Rattle.witness_laws.proofs.TreeModel.FrameKept.{run-frame}
use Rattle.witness_laws.specs.TreeRules.Witness.{IsRunWitnessed}
use Rattle.witness_laws.specs.TextModel.Report.{key_text, op_line, op_lines, report_of}
use Rattle.witness_laws.specs.TextModel.Run.{report_text_of, view_of}
use Rattle.witness_laws.specs.TextModel.Words.{effect_text}
use Rattle.witness_laws.specs.DdmText.Hex.{hex8}
use Rattle.witness_laws.specs.BusLaws.IsTree.{IsTree}
use Rattle.witness_laws.proofs.OrderLists.Sorted.{sorted-each, with_op-least, with_op-less}
use Rattle.witness_laws.proofs.OrderLaws.Hart.HartMachine.{ops_after, ops_with}
use Rattle.headline.proofs.Runs.{each-turn}
use Rattle.value_laws.specs.Images.{IsOfBytes}
use Rattle.value_laws.specs.Values.{EffectHasForm, OpHasForm}
use Rattle.value_laws.proofs.Lists.{all-more}
use Rattle.value_laws.proofs.RunForm.{every-run-form}
use Rattle.witness_laws.specs.StartMemory.Memory.{memory_items, memory_words}
use Rattle.witness_check.specs.Reader.{setting_of}
use Rattle.witness_check.specs.Start.{judged, start_refusal as judged_refusal}
use Rattle.witness_check.specs.Witness.{AreLegal, BeginsWith, IsAccepted, IsEffect, IsOp}
use Rattle.witness_check.proofs.Starts.{start_refusal-tables}
use Rattle.witness_laws.specs.Printed.{ops_of_run, printed_witness}

-- ---- lines

-- the line of an operation, without its line feed
abbrev line_text : ℕ → Op → List ℕ
line_text depth op = codes "op " ++ decimal op.hart ++ codes " " ++ key_text depth op.key ++ codes " " ++ hex8 op.pc ++ codes " " ++ effect_text op.effect

line_is : (depth : ℕ) (op : Op) → line_text depth op ++ 10 ∷ [] ≡ op_line depth op
unfolding op_line
line_is depth op = refl

lines_more : (depth : ℕ) (op : Op) (ops : List Op) → op_lines depth (op ∷ ops) ≡ line_text depth op ++ 10 ∷ op_lines depth ops
unfolding op_lines
lines_more depth op ops =
    flat_map-cons (op_line depth) op ops ∙ ap (λ l. l ++ flat_map (op_line depth) ops) (sym (line_is depth op)) ∙ append_assoc (line_text depth op) (10 ∷ []) (flat_map (op_line depth) ops)

begins : (depth : ℕ) → 1 ≤ depth → depth ≤ 4 → (ops : List Op) → AllByRecursion IsOp ops → BeginsWith (op_lines depth ops) ops []
unfolding op_lines
begins depth least most [] all = refl
begins depth least most (op ∷ ops) all = (line_text depth op, op_lines depth ops, lines_more depth op ops, record { depth = depth; least = least; most = most; fits = all.0; is = line_is depth op }, begins depth least most ops all.1)

-- ---- operations

effect_fits : (e : Effect) → EffectHasForm e → IsEffect e
effect_fits Effect.Plain has = tt
effect_fits (Effect.Put byte) has = omega (arith, has)
effect_fits (Effect.Load address word) has = has
effect_fits (Effect.Store address before after) has = has
effect_fits (Effect.Lr address word) has = has
effect_fits (Effect.ScOk address before after) has = has
effect_fits (Effect.ScFail address) has = has
effect_fits (Effect.Amo address before after) has = has

op_fits : (most : ℕ) → most ≤ 1048576 → (op : Op) → OpHasForm most op → IsOp op
op_fits most few op has = record {
  key = record {
    level0 = (omega (arith, has.key.s0, few), omega (arith, has.key.c0));
    level1 = (omega (arith, has.key.s1, few), omega (arith, has.key.c1));
    level2 = (omega (arith, has.key.s2, few), omega (arith, has.key.c2));
    level3 = (omega (arith, has.key.s3, few), omega (arith, has.key.c3));
    last = omega (arith, has.key.i, few);
  };
  hart = has.hart;
  pc = has.pc;
  effect = effect_fits op.effect has.effect;
}

with_few : (a : TurnAnswer) (ops : List Op) → length (ops_with a ops) ≤ length ops + 1
with_few (TurnAnswer.Retired op) ops = omega (arith, length-append ops (op ∷ []))
with_few (TurnAnswer.Issued kind x) ops = omega arith
with_few (TurnAnswer.Waiting x) ops = omega arith
with_few (TurnAnswer.Halted cause) ops = omega arith
with_few (TurnAnswer.Granted e) ops = omega arith
with_few TurnAnswer.Empty ops = omega arith
with_few (TurnAnswer.Busy cause) ops = omega arith

-- each turn completes one operation at most
ops_few : (turns : List Turn) (m : MachineValue) → length (run_of turns m).machine.ops ≤ length m.ops + length turns
unfolding run_of
ops_few [] m = omega arith
ops_few (t ∷ ts) m =
    let rest = ops_few ts (turn_of t m).machine in
    let one = with_few (turn_of t m).answer m.ops in
    omega (arith, rest, one, ap length (ops_after t m))

-- sorting leaves their number
with_length : (o : Op) (ps : List Op) → length (with_op o ps) ≡ suc (length ps)
with_length o [] = refl
with_length o (p ∷ ps) = by (key_less o.key p.key) refl (with_length o ps) where
  by : (b : Bool) → key_less o.key p.key ≡ b → length (with_op o ps) ≡ suc (length ps) → length (with_op o (p ∷ ps)) ≡ suc (suc (length ps))
  by true is rest = ap length (with_op-less o p ps is)
  by false is rest = ap length (with_op-least o p ps is) ∙ ap suc rest

sorted_length : (ops : List Op) → length (sorted_ops ops) ≡ length ops
unfolding sorted_ops
sorted_length [] = refl
sorted_length (o ∷ os) = with_length o (sorted_ops os) ∙ ap suc (sorted_length os)

module _ (t : TreeValue) (i : ImageValue) (turns : List Turn) (tree : IsTree t) (accepted : start_refusal t i ≡ None) where
  starts : start_of t i ≡ Ok (start_machine t i)
  unfolding start_of
  starts = rw accepted refl

  judged_start : judged_refusal (setting_of t i) ≡ None
  judged_start = start_refusal-tables t i ∙ ap (λ o. option_and_then judged o) accepted

  abbrev after : MachineValue
  after = (run_of turns (start_machine t i)).machine

  code_is : after.code ≡ start_code i
  unfolding start_machine
  code_is = ap (λ (f : Frame). f.code) (run-frame turns (start_machine t i))

  items_are : after.items ≡ start_items t i
  unfolding start_machine
  items_are = ap (λ (f : Frame). f.items) (run-frame turns (start_machine t i))

  run_legal : Legal (start_code i) (start_items t i) (flat_start_of t i) (sorted_ops (ops_of_run t i turns))
  run_legal =
      let whole : IsRunWitnessed (flat_start_of t i) turns (start_machine t i) = subst (λ ts. IsRunWitnessed (flat_start_of t i) ts (start_machine t i)) (take-length turns) (each-turn t i (start_machine t i) tree starts turns (length turns)) in
      subst (λ (code : List CodeWord). Legal code (start_items t i) (flat_start_of t i) (sorted_ops (ops_of_run t i turns))) code_is
      (subst (λ (items : ItemTable). Legal after.code items (flat_start_of t i) (sorted_ops (ops_of_run t i turns))) items_are whole.machine.legal)

  are_legal : AreLegal (setting_of t i) (sorted_ops (ops_of_run t i turns))
  unfolding start_items start_words memory_items memory_words
  are_legal = run_legal

  module _ (of_bytes : IsOfBytes i) (few : length turns ≤ 1048576) where
    fit : AllByRecursion IsOp (sorted_ops (ops_of_run t i turns))
    fit =
        let all = every-run-form t i (start_machine t i) tree of_bytes starts turns in
        sorted-each IsOp (ops_of_run t i turns) (all-more (OpHasForm (length turns)) IsOp (op_fits (length turns) few) (ops_of_run t i turns) all.ops)

    count : length (sorted_ops (ops_of_run t i turns)) ≡ length (ops_of_run t i turns)
    count = sorted_length (ops_of_run t i turns)

    number : length (ops_of_run t i turns) ≤ 1048576
    unfolding start_machine
    number = let most = ops_few turns (start_machine t i) in omega (arith, most, few)

    pub is_accepted : IsAccepted (setting_of t i) (printed_witness t i turns) (length (ops_of_run t i turns))
    is_accepted = record { start = judged_start; ops = sorted_ops (ops_of_run t i turns); text_is = begins (length t.levels) tree.some tree.depth (sorted_ops (ops_of_run t i turns)) fit; count = count; few = number; legal = are_legal }

-- ---- the report

pub report_ends : (t : TreeValue) (i : ImageValue) (turns : List Turn) → (front : List ℕ) × (report_text_of (length t.levels) turns (start_machine t i) ≡ front ++ printed_witness t i turns ++ codes "end\n")
unfolding report_text_of report_of view_of
report_ends t i turns = (_, refl)
