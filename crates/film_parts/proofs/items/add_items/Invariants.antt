use Rattle.std.proofs.Common.{◌≡◌, ℕ, List, ◌++◌, length, nat_eq}
use Rattle.std.specs.List.{AllByRecursion}
use Rattle.film_parts.specs.Records.{IsPlain}
use Rattle.film_parts.specs.StateWords.Parts.{records}
use Rattle.film_parts.specs.TreeModel.State.Values.{DirItem}
use Rattle.film_model.specs.Directory.{dir_part}
use Rattle.film_parts.proofs.DirItems.{ItemsAt}
use Rattle.film_parts.proofs.items.add_items.Given as goal

abbrev pub invariant-items : goal.invariant-items
invariant-items l = (is : List DirItem) (rest : List ℕ) → l.fn.words ≡ records (nat_eq l.shape.level 0) is ++ rest → length is ≡ l.items → AllByRecursion (IsPlain (nat_eq l.shape.level 0)) is
    → ItemsAt (nat_eq l.shape.level 0) (dir_part l.shape.bus l.shape.children) is rest l.fn.still l.item l.words l.left l.still
