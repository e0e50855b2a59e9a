-- A directory that is told something becomes what the row says.
-- Letters: d is the directory, x the item, s the stamp of the bus above.
use Rattle.std.proofs.Common.{◌≡◌, ℕ, true, false, refl}
use Rattle.protocol_table.specs.DdmTypes.declared.keys.Stamp.{Stamp}
use Rattle.tree_model.specs.State.States.{is_held}
use Rattle.tree_model.specs.State.Values.{DirValue}
use Rattle.tree_model.specs.State.Leaf.{blank}
use Rattle.tree_model.specs.State.Directory.{dir_hold, dir_lose, dir_take_data, dir_take_exclusive, dir_answer}
use Rattle.tree_model.specs.State.Directory.{dir_take_inject}
use Rattle.protocol_table.specs.Told.{lose, after, DirectoriesGoByRows}

lost : (x : ℕ) (s : Stamp) (d : DirValue) → is_held (dir_hold x d) ≡ true
    → dir_lose x s d ≡ after lose x (blank d.sizes.width) s d
unfolding dir_lose
lost x s d e = rw e refl

kept : (x : ℕ) (s : Stamp) (d : DirValue) → is_held (dir_hold x d) ≡ false → dir_lose x s d ≡ d
unfolding dir_lose
kept x s d e = rw e refl

pub directories-go : DirectoriesGoByRows
unfolding dir_take_data dir_take_exclusive dir_answer dir_take_inject
directories-go = record {
  lost = lost;
  not_held = kept;
  data_comes = λ x words s d. refl;
  exclusive_comes = λ x s d. refl;
  answers = λ x s d. refl;
  inject_comes = λ x words s d. refl;
}
