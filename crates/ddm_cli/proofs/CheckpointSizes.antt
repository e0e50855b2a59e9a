-- How long a checkpoint is: four bytes a word, and fifteen words an operation.
-- Letters: m is a machine, e an effect, k a key.
use Rattle.std.proofs.Common.{◌≡◌, ℕ, ◌+◌, ◌*◌, List, [], ◌∷◌, ◌++◌, length, refl, ap, arith, length-append}
use Rattle.std.specs.List.{flat_map}
use Rattle.std.specs.Int.{w32, to_le_bytes}
use Rattle.ddm_cli.specs.DdmTypes.declared.operations.Effect.{Effect}
use Rattle.ddm_cli.specs.DdmTypes.declared.operations.Op.{Op}
use Rattle.ddm_cli.specs.DdmTree.Machine.{without_ops}
use Rattle.ddm_cli.specs.TreeModel.State.Values.{MachineValue}
use Rattle.ddm_cli.specs.TreeModel.Turns.Machine.{machine_leaves}
use Rattle.ddm_cli.specs.StateWords.Machine.{bus_words, checkpoint_bytes, checkpoint_words, head_words, state_words}
use Rattle.ddm_cli.specs.StateWords.Numbers.{effect_words}
use Rattle.ddm_cli.specs.StateWords.Parts.{hart_words, leaf_words, op_words}
use Rattle.ddm_cli.specs.Together.{CheckpointsGrowByOperations}
use Rattle.std.specs.List.{range_with_len}

words-length : (ws : List ℕ) → length (flat_map (to_le_bytes w32) ws) ≡ 4 * length ws
words-length [] = refl
words-length (w ∷ ws) = let more = words-length ws in omega (arith, more)

effect-length : (e : Effect) → length (effect_words e) ≡ 4
effect-length Effect.Plain = refl
effect-length (Effect.Put byte) = refl
effect-length (Effect.Load address word) = refl
effect-length (Effect.Store address before after) = refl
effect-length (Effect.Lr address word) = refl
effect-length (Effect.ScOk address before after) = refl
effect-length (Effect.ScFail address) = refl
effect-length (Effect.Amo address before after) = refl

ops-length : (ops : List Op) → length (flat_map op_words ops) ≡ 15 * length ops
ops-length [] = refl
ops-length (op ∷ ops) = let more = ops-length ops in omega (arith, length-append (op_words op) (flat_map op_words ops), effect-length op.effect, more)

-- the parts of a state
parts-length : (harts buses leaves ops : List ℕ) (count end : ℕ) → length (harts ++ buses ++ leaves ++ (count ∷ ops) ++ end ∷ []) ≡ length harts + length buses + length leaves + length ops + 2
parts-length harts buses leaves ops count end =
    omega (
      arith,
      length-append (((harts ++ buses) ++ leaves) ++ (count ∷ ops)) (end ∷ []),
      length-append ((harts ++ buses) ++ leaves) (count ∷ ops),
      length-append (harts ++ buses) leaves,
      length-append harts buses,
    )

-- the words of buses have no operation
same-buses : (m : MachineValue) (xs : List ℕ) → flat_map (bus_words m) xs ≡ flat_map (bus_words (without_ops m)) xs
unfolding bus_words
same-buses m [] = refl
same-buses m (x ∷ xs) = ap (λ l. bus_words m x ++ l) (same-buses m xs)

state-length : (m : MachineValue) → length (state_words m) ≡ length (state_words (without_ops m)) + 15 * length m.ops
unfolding state_words
state-length m =
    let harts = flat_map hart_words (machine_leaves m) in
    let buses = flat_map (bus_words m) (range_with_len 0 (length m.traffic)) in
    let others = flat_map (bus_words (without_ops m)) (range_with_len 0 (length m.traffic)) in
    let leaves = flat_map leaf_words (machine_leaves m) in
    omega (
      arith,
      parts-length harts buses leaves (flat_map op_words m.ops) (length m.ops) 0x454d4444,
      parts-length harts others leaves [] 0 0x454d4444,
      ap length (same-buses m (range_with_len 0 (length m.traffic))),
      ops-length m.ops,
    )

bytes-length : (m : MachineValue) (turns retired granted busy : ℕ) → length (checkpoint_bytes m turns retired granted busy) ≡ 4 * (11 + length (state_words m))
unfolding checkpoint_bytes checkpoint_words head_words
bytes-length m turns retired granted busy = let bytes = words-length (checkpoint_words m turns retired granted busy) in omega (arith, bytes)

pub grow-by_operations : CheckpointsGrowByOperations
grow-by_operations m c = omega (arith, bytes-length m c.turns c.retired c.granted c.busy, bytes-length (without_ops m) c.turns c.retired c.granted c.busy, state-length m)
