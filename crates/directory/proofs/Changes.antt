-- A directory that loses an item or a parked copy.
use Rattle.std.proofs.Common.{◌≡◌, sym, subst, refl, ℕ, ◌<◌, true, false, not, List, filter, Option, Some, None, is_some, unwrap_or}
use Rattle.std.proofs.lemmas.List.Elements.{All-filter}
use Rattle.directory.specs.DdmTypes.declared.keys.Stamp.{Stamp}
use Rattle.directory.specs.TreeModel.State.States.{is_held}
use Rattle.directory.specs.TreeModel.State.Values.{CopyValue, DirValue}
use Rattle.directory.specs.TreeModel.State.Leaf.{is_copy}
use Rattle.directory.specs.TreeModel.State.Directory.{dir_hold, dir_lost, dir_lose}
use Rattle.directory.specs.DirParts.{AreCopiesBelow, IsDirectory}

-- ---- told to lose an item

pub lose-held : (x : ℕ) (s : Stamp) (d : DirValue) → is_held (dir_hold x d) ≡ true → dir_lose x s d ≡ dir_lost x s d
unfolding dir_lose
lose-held x s d held = rw held refl

pub lose-absent : (x : ℕ) (s : Stamp) (d : DirValue) → is_held (dir_hold x d) ≡ false → dir_lose x s d ≡ d
unfolding dir_lose
lose-absent x s d absent = rw absent refl

-- ---- the shape of a directory, with other parked copies

pub shape-parked : (width level bus items down requests replies : ℕ) (parked : List CopyValue) (n : ℕ) (others : List CopyValue) → IsDirectory width level bus items down requests replies parked → n ≡ items → AreCopiesBelow items others → IsDirectory width level bus n down requests replies others
shape-parked width level bus items down requests replies parked n others was same below =
    subst (λ m. IsDirectory width level bus m down requests replies others) (sym same) (record {
      words_fit = was.words_fit;
      below_top = was.below_top;
      deepest = was.deepest;
      few = was.few;
      bus_below = was.bus_below;
      down = was.down;
      requests = was.requests;
      replies = was.replies;
      copies = below;
    })

-- what is there doesn't need another value in its place
pub there-instead : {X : Type 0} (o : Option X) (a b : X) → is_some o ≡ true → unwrap_or o a ≡ unwrap_or o b
there-instead None a b there = cc
there-instead (Some x) a b there = refl

-- the copies that stay are of items that there are
pub copies-without : (n x : ℕ) (parked : List CopyValue) → AreCopiesBelow n parked → AreCopiesBelow n (filter (λ c. not (is_copy x c)) parked)
copies-without n x parked below = All-filter (λ c. not (is_copy x c)) (λ c. c.item < n) parked below
