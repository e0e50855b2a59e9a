-- What becomes of a directory when the bus above tells it something, a row each.
-- Letters: d is the directory, x the item, s the stamp of the bus above, i what the directory keeps of the item.
use Rattle.std.specs.Prelude.{◌≡◌, ℕ, ◌+◌, Bool, true, false, List, Option, Some, None, if◌then◌else◌}
use Rattle.protocol_table.specs.DdmTypes.declared.answers.TxKind.{TxKind}
use Rattle.protocol_table.specs.DdmTypes.declared.answers.TxKind.TheVariants.{ReadTx, DataTx, EraseTx, ExclusiveTx}
use Rattle.protocol_table.specs.DdmTypes.declared.answers.TxKind.TheVariants.{InjectTx}
use Rattle.protocol_table.specs.DdmTypes.declared.keys.Stamp.{Stamp}
use Rattle.protocol_table.specs.DdmTypes.declared.sizes.Hold.{Hold}
use Rattle.tree_model.specs.State.States.{is_held}
use Rattle.tree_model.specs.State.Values.{RequestValue, DirItem, DirValue}
use Rattle.tree_model.specs.State.Leaf.{blank}
use Rattle.tree_model.specs.State.Directory.{dir_item, dir_hold, with_item, pushed_down, struck, open_read, dir_lose}
use Rattle.tree_model.specs.State.Directory.{dir_take_data, dir_take_exclusive, dir_answer, dir_take_inject}

pub record DirectoryRow : Type 0 where
  -- what it keeps of the item afterwards
  pub item : DirItem → DirItem
  -- which request of its own is struck, if it isn't granted yet
  pub strikes : Option TxKind
  -- the entry that is put into its down list
  pub puts : TxKind
  -- a parking place is kept, unless an open read takes what comes
  pub keeps_place : Bool

-- a directory that holds the item is told to lose it
abbrev pub lose : DirectoryRow
lose = record {
  item = λ i. record i { hold = Hold.Invalid };
  strikes = Some EraseTx;
  puts = EraseTx;
  keeps_place = false;
}

abbrev pub data_row : DirectoryRow
data_row = record { item = λ i. record i { hold = Hold.Shared }; strikes = None; puts = DataTx; keeps_place = false }

abbrev pub exclusive_row : DirectoryRow
exclusive_row = record {
  item = λ i. record i { hold = Hold.Exclusive };
  strikes = None;
  puts = ExclusiveTx;
  keeps_place = false;
}

-- it is told to answer a read
abbrev pub answer_row : DirectoryRow
answer_row = record { item = λ i. record i { answering = true }; strikes = None; puts = ReadTx; keeps_place = false }

abbrev pub inject_row : DirectoryRow
inject_row = record {
  item = λ i. record i { hold = Hold.Exclusive };
  strikes = Some ReadTx;
  puts = InjectTx;
  keeps_place = true;
}

-- ---- what a row makes of a directory

abbrev pub requests_after : Option TxKind → ℕ → List RequestValue → List RequestValue
requests_after None x requests = requests
requests_after (Some kind) x requests = struck kind x requests

abbrev pub reserved_after : Bool → ℕ → DirValue → ℕ
reserved_after false x d = d.reserved
reserved_after true x d = if open_read x d then d.reserved else d.reserved + 1

abbrev pub after : DirectoryRow → ℕ → List ℕ → Stamp → DirValue → DirValue
after r x words s d = record (pushed_down r.puts x words s (with_item x (r.item (dir_item x d)) d)) {
  requests = requests_after r.strikes x d.requests;
  reserved = reserved_after r.keeps_place x d;
}

-- ---- what is claimed: the machine's directories go by these rows, and one that doesn't hold the item has none to lose

pub record DirectoriesGoByRows : Type 0 where
  pub lost :
      (x : ℕ) (s : Stamp) (d : DirValue) → is_held (dir_hold x d) ≡ true
      → dir_lose x s d ≡ after lose x (blank d.sizes.width) s d
  pub not_held : (x : ℕ) (s : Stamp) (d : DirValue) → is_held (dir_hold x d) ≡ false → dir_lose x s d ≡ d
  pub data_comes :
      (x : ℕ) (words : List ℕ) (s : Stamp) (d : DirValue) → dir_take_data x words s d ≡ after data_row x words s d
  pub exclusive_comes :
      (x : ℕ) (s : Stamp) (d : DirValue)
      → dir_take_exclusive x s d ≡ after exclusive_row x (blank d.sizes.width) s d
  pub answers :
      (x : ℕ) (s : Stamp) (d : DirValue) → dir_answer x s d ≡ after answer_row x (blank d.sizes.width) s d
  pub inject_comes :
      (x : ℕ) (words : List ℕ) (s : Stamp) (d : DirValue)
      → dir_take_inject x words s d ≡ after inject_row x words s d
