-- What the rules of a bus ask of its parent, of one item.
-- Letters: p is the face of the parent, q are the kinds of the item's entries in its down list, rs those of its requests.
-- To be believed: contracts of code speak of it.
use Rattle.std.specs.Prelude.{Bool, true, false, List, [], ◌∷◌, Option, Some, None}
use Rattle.std.specs.Bool.{beq}
use Rattle.bus_judging.specs.DdmTypes.declared.answers.TxKind.{TxKind}
use Rattle.bus_judging.specs.DdmTypes.declared.answers.TxKind.TheVariants.{ReadTx, EraseTx, InjectTx}
use Rattle.bus_judging.specs.DdmTypes.declared.answers.PendingWhy.{PendingWhy}
use Rattle.bus_judging.specs.DdmTypes.declared.sizes.Hold.{Hold}
use Rattle.bus_judging.specs.TreeModel.State.Kinds.{is_kind, has_kind, brings_copy}
use Rattle.bus_judging.specs.TreeModel.State.Directory.{note_why}
use Rattle.tree_rules.specs.Bus.Faces.{ParentFace}
use Rattle.tree_rules.specs.Bus.Item.{requests_fit}
use Rattle.bus_judging.specs.Queue.{QueueFacts, facts_of}

pub record RequestFacts : Type 0 where
  pub some : Bool
  -- one at most, a read or an erase
  pub fits : Bool
  pub reads : Bool
  pub erases : Bool

abbrev pub has_any : List TxKind → Bool
has_any [] = false
has_any (k ∷ rs) = true

abbrev pub request_facts : List TxKind → RequestFacts
request_facts rs = record { some = has_any rs; fits = requests_fit rs; reads = has_kind ReadTx rs; erases = has_kind EraseTx rs }

pub record ParentFacts : Type 0 where
  pub hold : Hold
  pub note : Option PendingWhy
  pub answering : Bool
  pub parked : Bool
  pub queue : QueueFacts
  pub requests : RequestFacts

abbrev pub facts_at : ParentFace → ParentFacts
facts_at p = record {
  hold = p.hold;
  note = note_why p.note;
  answering = p.answering;
  parked = p.parked;
  queue = facts_of p.queue;
  requests = request_facts p.requests;
}

-- ---- what is asked of those entries that move copies, by the first and the last of them

abbrev pub starts_with : Option TxKind → Bool → Bool
starts_with None held = true
starts_with (Some k) held = beq held (is_kind EraseTx k)

abbrev pub ends_in_inject : Option TxKind → Bool
ends_in_inject None = false
ends_in_inject (Some k) = is_kind InjectTx k

abbrev pub held_behind : Option TxKind → Bool → Bool
held_behind None held = held
held_behind (Some k) held = brings_copy k
