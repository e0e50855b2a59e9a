-- What a directory's value is of the parts that keep it, and what these have to be.
-- To be believed: contracts of code speak of it.
use Rattle.std.specs.Prelude.{◌≡◌, ℕ, ◌<◌, ◌≤◌, ◌^◌, List}
use Rattle.std.specs.List.{All}
use Rattle.directory.specs.DdmTypes.declared.answers.TxKind.{TxKind}
use Rattle.directory.specs.TreeModel.State.Values.{RequestValue, CopyValue}

-- a pair as a request and as a copy
abbrev pub request_of : TxKind × ℕ → RequestValue
request_of p = record { kind = p.0; item = p.1 }

abbrev pub copy_of : ℕ × List ℕ → CopyValue
copy_of p = record { item = p.0; words = p.1 }

-- each copy is of an item below n
abbrev pub AreCopiesBelow : ℕ → List CopyValue → Type 0
AreCopiesBelow n copies = All (λ c. c.item < n) copies

-- The bus is no top's, with one to three buses above it. Each list is of the items that there are, which a word can count.
pub record IsDirectory (width level bus items : ℕ) (down_items request_items reply_items : ℕ) (parked : List CopyValue) : Type 0 where
  pub words_fit : width < 2 ^ 32
  pub below_top : 0 < level
  pub deepest : level ≤ 3
  pub bus_below : 0 < bus
  pub few : items < 2 ^ 32
  pub down : down_items ≡ items
  pub requests : request_items ≡ items
  pub replies : reply_items ≡ items
  pub copies : AreCopiesBelow items parked
