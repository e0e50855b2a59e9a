-- What the numbers and the lists of words in a machine of a run are: a register, a pc, a word of an item or of the code and a number of
-- an effect or of a halt is one of 32 bits; a count, and a number of a stamp or of a key, is at most the number of turns; what is asked
-- for is a read or an erase; and an item has everywhere as many words as it has at the top.
-- Letters: m is a machine, v a leaf, d the directory over a bus, e an entry, s a stamp.
-- To be believed with the laws: it is what they speak of.
use Rattle.std.specs.Prelude.{◌≡◌, ℕ, ◌<◌, ◌≤◌, Bool, true, false, List, length, slice_index, Option, Some, None, ⊤}
use Rattle.std.specs.List.{AllByRecursion}
use Rattle.value_laws.specs.DdmTypes.declared.answers.TxKind.{TxKind}
use Rattle.value_laws.specs.DdmTypes.declared.operations.Effect.{Effect}
use Rattle.value_laws.specs.DdmTypes.declared.operations.HaltCause.{HaltCause}
use Rattle.value_laws.specs.DdmTypes.declared.operations.Op.{Op}
use Rattle.value_laws.specs.DdmTypes.declared.keys.Stamp.{Stamp}
use Rattle.value_laws.specs.DdmTypes.declared.keys.Key.{Key}
use Rattle.value_laws.specs.DdmTypes.CodeMap.{CodeWord}
use Rattle.value_laws.specs.FlatModel.Hart.{HartValue}
use Rattle.value_laws.specs.TreeModel.declared.Traffic.{Traffic}
use Rattle.value_laws.specs.TreeModel.State.Kinds.{goes_up}
use Rattle.value_laws.specs.TreeModel.State.Values.{RequestValue, CopyValue, DownValue, WayValue, BufferValue}
use Rattle.value_laws.specs.TreeModel.State.Values.{LeafValue, DirValue, Node, Nodes, leaf_node, dir_node, no_nodes}
use Rattle.value_laws.specs.TreeModel.State.Values.{more_nodes, MachineValue, root_of}

-- a number of 32 bits
abbrev pub IsWord : ℕ → Type 0
IsWord n = n < 4294967296

-- so many numbers of 32 bits
pub record AreWords (width : ℕ) (words : List ℕ) : Type 0 where
  pub count : length words ≡ width
  pub each : AllByRecursion IsWord words

-- ---- a hart

abbrev pub CauseHasForm : HaltCause → Type 0
CauseHasForm (HaltCause.Exit status) = IsWord status
CauseHasForm (HaltCause.Illegal word) = IsWord word
CauseHasForm HaltCause.Breakpoint = ⊤
CauseHasForm (HaltCause.UnknownCall number) = IsWord number
CauseHasForm (HaltCause.MisalignedTarget address) = IsWord address
CauseHasForm (HaltCause.FetchOutside address) = IsWord address
CauseHasForm (HaltCause.MisalignedAccess address) = IsWord address
CauseHasForm (HaltCause.LoadOutside address) = IsWord address
CauseHasForm (HaltCause.StoreOutside address) = IsWord address

abbrev pub HaltHasForm : Option HaltCause → Type 0
HaltHasForm None = ⊤
HaltHasForm (Some cause) = CauseHasForm cause

-- 32 registers, of which x0 is 0
pub record HartHasForm (h : HartValue) : Type 0 where
  pub registers : AreWords 32 h.registers
  pub zero : slice_index h.registers 0 ≡ 0
  pub pc : IsWord h.pc
  pub halt : HaltHasForm h.halt

-- ---- the parts, where an item has so many words and no count is above a bound

abbrev pub WayHasForm : ℕ → Option WayValue → Type 0
WayHasForm width None = ⊤
WayHasForm width (Some e) = AreWords width e.words

abbrev pub BufferHasForm : ℕ → BufferValue → Type 0
BufferHasForm width e = AreWords width e.words

abbrev pub CopyHasForm : ℕ → CopyValue → Type 0
CopyHasForm width c = AreWords width c.words

-- a read or an erase
abbrev pub RequestHasForm : RequestValue → Type 0
RequestHasForm r = goes_up r.kind ≡ true

abbrev pub SlotHasForm : Option RequestValue → Type 0
SlotHasForm None = ⊤
SlotHasForm (Some r) = RequestHasForm r

-- an out never comes down
abbrev pub comes_down : TxKind → Bool
comes_down TxKind.ReadTx = true
comes_down TxKind.DataTx = true
comes_down TxKind.EraseTx = true
comes_down TxKind.ExclusiveTx = true
comes_down TxKind.InjectTx = true
comes_down TxKind.OutTx = false

pub record StampHasForm (most : ℕ) (s : Stamp) : Type 0 where
  pub s0 : s.s0 ≤ most
  pub s1 : s.s1 ≤ most
  pub s2 : s.s2 ≤ most
  pub s3 : s.s3 ≤ most

pub record DownHasForm (width most : ℕ) (e : DownValue) : Type 0 where
  pub kind : comes_down e.kind ≡ true
  pub words : AreWords width e.words
  pub stamp : StampHasForm most e.stamp

pub record LeafHasForm (width most : ℕ) (v : LeafValue) : Type 0 where
  pub number : IsWord v.number
  pub sizes : v.sizes.width ≡ width
  pub hart : HartHasForm v.hart
  pub done : v.done ≤ most
  pub ways : AllByRecursion (WayHasForm width) v.ways
  pub buffer : AllByRecursion (BufferHasForm width) v.buffer
  pub slot : SlotHasForm v.slot
  pub replies : AllByRecursion (CopyHasForm width) v.replies

pub record DirHasForm (width most : ℕ) (d : DirValue) : Type 0 where
  pub sizes : d.sizes.width ≡ width
  pub count : d.count ≤ most
  pub epoch : StampHasForm most d.epoch
  pub down : AllByRecursion (DownHasForm width most) d.down
  pub requests : AllByRecursion RequestHasForm d.requests
  pub replies : AllByRecursion (CopyHasForm width) d.replies
  pub parked : AllByRecursion (CopyHasForm width) d.parked

-- each leaf and each directory of a part of the tree
abbrev mutual
  pub PartsHaveForm : ℕ → ℕ → Node → Type 0
  PartsHaveForm width most (leaf_node v) = LeafHasForm width most v
  PartsHaveForm width most (dir_node d ns) = DirHasForm width most d × PartsHaveFormAmong width most ns

  pub PartsHaveFormAmong : ℕ → ℕ → Nodes → Type 0
  PartsHaveFormAmong width most no_nodes = ⊤
  PartsHaveFormAmong width most (more_nodes n ns) = PartsHaveForm width most n × PartsHaveFormAmong width most ns

-- ---- operations and traffic

-- child numbers are below 16
pub record KeyHasForm (most : ℕ) (key : Key) : Type 0 where
  pub s0 : key.s0 ≤ most
  pub c0 : key.c0 < 16
  pub s1 : key.s1 ≤ most
  pub c1 : key.c1 < 16
  pub s2 : key.s2 ≤ most
  pub c2 : key.c2 < 16
  pub s3 : key.s3 ≤ most
  pub c3 : key.c3 < 16
  pub i : key.i ≤ most

abbrev pub EffectHasForm : Effect → Type 0
EffectHasForm Effect.Plain = ⊤
EffectHasForm (Effect.Put byte) = byte ≤ 255
EffectHasForm (Effect.Load address word) = IsWord address × IsWord word
EffectHasForm (Effect.Store address before after) = IsWord address × IsWord before × IsWord after
EffectHasForm (Effect.Lr address word) = IsWord address × IsWord word
EffectHasForm (Effect.ScOk address before after) = IsWord address × IsWord before × IsWord after
EffectHasForm (Effect.ScFail address) = IsWord address
EffectHasForm (Effect.Amo address before after) = IsWord address × IsWord before × IsWord after

pub record OpHasForm (most : ℕ) (op : Op) : Type 0 where
  pub key : KeyHasForm most op.key
  pub hart : IsWord op.hart
  pub pc : IsWord op.pc
  pub effect : EffectHasForm op.effect

pub record TrafficHasForm (most : ℕ) (t : Traffic) : Type 0 where
  pub reads : t.reads ≤ most
  pub copies : t.copies ≤ most
  pub erases : t.erases ≤ most
  pub exclusives : t.exclusives ≤ most
  pub outs : t.outs ≤ most
  pub injects : t.injects ≤ most

-- ---- the machine

abbrev pub CodeHasForm : CodeWord → Type 0
CodeHasForm c = IsWord c.word

pub record HasForm (most : ℕ) (m : MachineValue) : Type 0 where
  pub code : AllByRecursion CodeHasForm m.code
  pub parts : PartsHaveForm m.top.sizes.width most (root_of m)
  pub ops : AllByRecursion (OpHasForm most) m.ops
  pub traffic : AllByRecursion (TrafficHasForm most) m.traffic
