-- What the rules of a bus ask of the kinds of an item's entries in a down list, in a form that grows entry by entry.
-- Letters: q is such a list, k a kind.
-- To be believed: contracts of code speak of it.
use Rattle.std.specs.Prelude.{Bool, not, ◌&&◌, ◌||◌, List, [], ◌∷◌, Option, Some, None, if◌then◌else◌}
use Rattle.std.specs.List.{list_all}
use Rattle.bus_judging.specs.DdmTypes.declared.answers.TxKind.{TxKind}
use Rattle.bus_judging.specs.DdmTypes.declared.answers.TxKind.TheVariants.{ReadTx, DataTx, EraseTx, ExclusiveTx, InjectTx, OutTx}
use Rattle.bus_judging.specs.TreeModel.State.Kinds.{is_kind, has_kind}
use Rattle.bus_judging.specs.TreeModel.State.Lists.{first_some}
use Rattle.tree_rules.specs.Bus.Item.{may_follow, moves_copies, queue_fits, copies_in}

abbrev pub first_kind : List TxKind → Option TxKind
first_kind [] = None
first_kind (k ∷ q) = Some k

abbrev pub last_kind : List TxKind → Option TxKind
last_kind [] = None
last_kind (k ∷ []) = Some k
last_kind (k ∷ l ∷ q) = last_kind (l ∷ q)

pub record QueueFacts : Type 0 where
  -- the first and the last, of all and of those that move copies
  pub first : Option TxKind
  pub last : Option TxKind
  pub first_move : Option TxKind
  pub last_move : Option TxKind
  -- each may stand behind the one before it
  pub fits : Bool
  -- which kinds there are
  pub reads : Bool
  pub brings_data : Bool
  pub erases : Bool
  pub exclusives : Bool
  pub injects : Bool
  -- none but exclusives
  pub only_exclusives : Bool

abbrev pub facts_of : List TxKind → QueueFacts
facts_of q = record {
  first = first_kind q;
  last = last_kind q;
  first_move = first_kind (copies_in q);
  last_move = last_kind (copies_in q);
  fits = queue_fits q;
  reads = has_kind ReadTx q;
  brings_data = has_kind DataTx q;
  erases = has_kind EraseTx q;
  exclusives = has_kind ExclusiveTx q;
  injects = has_kind InjectTx q;
  only_exclusives = list_all (is_kind ExclusiveTx) q;
}

-- ---- one entry more, as a step; proofs alone need it

abbrev pub fits_behind : Option TxKind → TxKind → Bool → Bool
fits_behind None k fits = not (is_kind OutTx k)
fits_behind (Some l) k fits = fits && may_follow l k

abbrev pub with_kind : TxKind → QueueFacts → QueueFacts
with_kind k f = record {
  first = first_some f.first (Some k);
  last = Some k;
  first_move = if moves_copies k then first_some f.first_move (Some k) else f.first_move;
  last_move = if moves_copies k then Some k else f.last_move;
  fits = fits_behind f.last k f.fits;
  reads = f.reads || is_kind ReadTx k;
  brings_data = f.brings_data || is_kind DataTx k;
  erases = f.erases || is_kind EraseTx k;
  exclusives = f.exclusives || is_kind ExclusiveTx k;
  injects = f.injects || is_kind InjectTx k;
  only_exclusives = f.only_exclusives && is_kind ExclusiveTx k;
}
