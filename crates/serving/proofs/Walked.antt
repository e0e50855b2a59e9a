-- The walks that are made: those of the definition, and what they need.
use Rattle.std.proofs.Common.{◌≡◌, ◌≢◌, ℕ, ◌<◌, true, List, [], ◌∷◌, ◌++◌, length, ◌≤◌, false, Option, None, Some, is_some, refl, ap, subst, sym, ◌∙◌, arith}
use Rattle.std.proofs.lemmas.List.{length-append}
use Rattle.std.specs.Prelude.{All}
use Rattle.serving.specs.DdmTypes.ItemTable.{item_count}
use Rattle.serving.specs.DdmTypes.declared.answers.TxKind.{TxKind}
use Rattle.serving.specs.DdmTypes.declared.answers.TxKind.TheVariants.{ReadTx, DataTx, EraseTx, ExclusiveTx, InjectTx, OutTx}
use Rattle.serving.specs.DdmTypes.declared.sizes.LeafState.{LeafState}
use Rattle.serving.specs.DdmTypes.declared.turns.Turn.{Turn}
use Rattle.serving.specs.TreeModel.State.Values.{Node, MachineValue, root_of}
use Rattle.serving.specs.TreeModel.State.Shape.{Skeleton, leaf_bone, dir_bone, Frame, frame_of, IsShaped}
use Rattle.serving.specs.TreeModel.Turns.Machine.{child_count, names_part, turn_of, run_of}
use Rattle.serving.proofs.TreeModel.FrameKept.{run-frame, run-shape}
use Rattle.serving.proofs.HeadlineCrate.Standing.{in_here}
use Rattle.serving_walk.specs.Parts.{part_at}
use Rattle.serving.specs.ServingModel.Serving.{walk_by_kind, walk_of, walks_of}
use Rattle.serving.specs.ServingModel.Told.{AreTold, entry_state_at, walk_by_state, walked}
use Rattle.serving.specs.ServingModel.Walk.{erase_turns}
use Rattle.serving.specs.Shown.{waits_to_write}
use Rattle.serving.proofs.Named.{frame-names, all-named}
use Rattle.serving_walk.proofs.AtBus.{AtBus, at-standing, part-standing}

-- the whole tree is the part over bus 0
module _ (m : MachineValue) (shaped : IsShaped m) (top : m.top.bus ≡ 0) where
  root : AtBus m shaped m.top.bus
  root = at-standing m shaped m.top m.kids in_here

  pub root-there : is_some (child_count 0 m) ≡ true
  root-there = subst (λ b. is_some (child_count b m) ≡ true) top (ap is_some root.count)

  pub root-part : part_at (Some 0) m ≡ root_of m
  root-part = subst (λ b. part_at (Some b) m ≡ root_of m) top (part-standing m shaped m.top m.kids in_here)

-- a request that is neither a read nor an erase has no walk
pub other-kind : (k : TxKind) (h x : ℕ) (n : Node) → k ≢ ReadTx → k ≢ EraseTx → [] ≡ walk_by_kind k h x n
other-kind ReadTx h x n read erase = absurd (read refl)
other-kind EraseTx h x n read erase = absurd (erase refl)
other-kind DataTx h x n read erase = refl
other-kind ExclusiveTx h x n read erase = refl
other-kind InjectTx h x n read erase = refl
other-kind OutTx h x n read erase = refl

-- the walk that follows, where the entry waits to be written, and where it doesn't
pub waiting-walk : (o : Option (Option LeafState)) (state : Option LeafState) (h x : ℕ) (n : Node) → Some state ≡ o → waits_to_write state ≡ true → erase_turns h x n ≡ walk_by_state o h x n
waiting-walk o (Some LeafState.Waiting) h x n e waits = ap (λ s. walk_by_state s h x n) e
waiting-walk o (Some LeafState.Shared) h x n e waits = cc
waiting-walk o (Some LeafState.Exclusive) h x n e waits = cc
waiting-walk o (Some LeafState.Reading) h x n e waits = cc
waiting-walk o (Some LeafState.ReadingWaiting) h x n e waits = cc
waiting-walk o None h x n e waits = cc

pub other-walk : (o : Option (Option LeafState)) (state : Option LeafState) (h x : ℕ) (n : Node) → Some state ≡ o → waits_to_write state ≡ false → [] ≡ walk_by_state o h x n
other-walk o (Some LeafState.Waiting) h x n e waits = cc
other-walk o (Some LeafState.Shared) h x n e waits = ap (λ s. walk_by_state s h x n) e
other-walk o (Some LeafState.Exclusive) h x n e waits = ap (λ s. walk_by_state s h x n) e
other-walk o (Some LeafState.Reading) h x n e waits = ap (λ s. walk_by_state s h x n) e
other-walk o (Some LeafState.ReadingWaiting) h x n e waits = ap (λ s. walk_by_state s h x n) e
other-walk o None h x n e waits = ap (λ s. walk_by_state s h x n) e

-- ---- both walks

-- what a run of two lists leaves, and its answers
pub run-on_answers : (ts us : List Turn) (m : MachineValue) → (run_of (ts ++ us) m).answers ≡ (run_of ts m).answers ++ (run_of us (run_of ts m).machine).answers
unfolding run_of
run-on_answers [] us m = refl
run-on_answers (t ∷ ts) us m = ap (λ answers. (turn_of t m).answer ∷ answers) (run-on_answers ts us (turn_of t m).machine)

module _ (m : MachineValue) (kind : TxKind) (h x : ℕ) (shaped : IsShaped m) (told : AreTold m kind h x) (first : List Turn) (is : first ≡ walk_by_kind kind h x (root_of m)) where
  pub first-is : first ≡ walk_of h m
  first-is = is ∙ sym told.first

  -- the first walk alone is no longer than both
  pub first-shorter : length first ≤ length (walks_of h m)
  unfolding walks_of
  first-shorter =
      let same = ap (λ ts. length ts) first-is in
      let both = length-append (walk_of h m) (walk_of h (run_of (walk_of h m) m).machine) in
      omega (arith, same, both)

  pub first-named : All (λ t. names_part t m ≡ true) first
  first-named = subst (All (λ t. names_part t m ≡ true)) (sym first-is) (all-named (walk_of h m) m shaped told.first_granted)

  module _ (k : MachineValue) (after : k ≡ (run_of first m).machine) where
    pub after-is : k ≡ walked h m
    after-is = after ∙ ap (λ ts. (run_of ts m).machine) first-is

    frames : frame_of k ≡ frame_of m
    frames = ap frame_of after-is ∙ run-frame (walk_of h m) m

    pub later-shaped : IsShaped k
    later-shaped = subst IsShaped (sym after-is) (run-shape (walk_of h m) m shaped)

    pub later-top : m.top.bus ≡ 0 → k.top.bus ≡ 0
    later-top top = ap (λ (f : Frame). bus_in f.bones) frames ∙ top where
      bus_in : Skeleton → ℕ
      bus_in (leaf_bone number sizes) = 0
      bus_in (dir_bone bus level sizes bones) = bus

    pub later-leaf : names_part (Turn.Hart h 0) m ≡ true → names_part (Turn.Hart h 0) k ≡ true
    later-leaf named = frame-names (Turn.Hart h 0) k m frames ∙ named

    pub later-item : x < item_count k.items
    later-item = subst (λ (f : Frame). x < item_count f.items) (sym frames) told.inside

    module _ (later : List Turn) (next : later ≡ walk_by_state (entry_state_at h x k) h x (root_of k)) where
      pub later-is : later ≡ walk_of h (walked h m)
      later-is = next ∙ (ap (λ n. walk_by_state (entry_state_at h x n) h x (root_of n)) after-is ∙ sym told.later)

      pub later-named : All (λ t. names_part t k ≡ true) later
      later-named = subst (λ n. All (λ t. names_part t n ≡ true) later) (sym after-is) (subst (All (λ t. names_part t (walked h m) ≡ true)) (sym later-is) (all-named (walk_of h (walked h m)) (walked h m) (run-shape (walk_of h m) m shaped) told.later_granted))

      pub both-are : first ++ later ≡ walks_of h m
      unfolding walks_of
      both-are = ap (λ ts. ts ++ later) first-is ∙ ap (λ ts. walk_of h m ++ ts) later-is
