-- What the rules of order say of one directory, as facts: words that several laws need.
-- Proofs alone need it.
use Rattle.std.specs.Prelude.{◌≡◌, ◌<◌, length}
use Rattle.tree_rules.specs.Statements.{Holds, each, each_pair}
use Rattle.tree_rules.specs.Order.Places.{DirAt, dir_path}
use Rattle.tree_rules.specs.Order.Time.{takes_past, lies_between, may_stand_behind}
use Rattle.tree_rules.specs.Order.Core.{is_past_taken}

-- it knows its level, which is less than four, and its stamps rise between the one that its own bus took over and the present
-- one above (rule 2)
pub record IsClocked (c : DirAt) : Type 0 where
  pub level : c.dir.level ≡ length (dir_path c)
  pub deep : length (dir_path c) < 4
  pub taken : Holds (takes_past c)
  pub between : Holds (each (lies_between c) c.dir.down)
  pub rises : Holds (each_pair (may_stand_behind c) c.dir.down)

-- and its commands are past what its own bus took over (rule 10)
pub record IsOrdered (c : DirAt) : Type 0 where
  pub clocked : IsClocked c
  pub past_taken : Holds (each (is_past_taken c) c.dir.down)
