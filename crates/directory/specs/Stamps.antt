-- The stamps that a directory keeps, compared on the bus above its own.
-- Letters: d is a directory, a and b stamps, e and f entries of its down list, above how many buses are above the bus above it.
-- To be believed with the contracts: it says which stamps are judged to be in order.
use Rattle.std.specs.Prelude.{ℕ, ◌-◌, Bool, true, not, ◌&&◌, List, [], ◌∷◌, Option, Some, None, if◌then◌else◌}
use Rattle.directory.specs.DdmTypes.declared.answers.TxKind.{TxKind}
use Rattle.directory.specs.DdmTypes.declared.keys.Stamp.{Stamp}
use Rattle.directory.specs.DdmTypes.Keys.{stamp_numbers, numbers_less}
use Rattle.directory.specs.TreeModel.State.Values.{DownValue, DirValue}
use Rattle.directory.specs.TreeRules.Statements.{Statement, is_so, is_not, both, each, each_pair, where_so, test_of}
use Rattle.directory.specs.TreeRules.Order.Time.{comes_later}

module _ (above : ℕ) where
  -- in the numbers that a bus with so many above it has
  abbrev pub stamp_before : Stamp → Stamp → Bool
  stamp_before a b = numbers_less (stamp_numbers above a) (stamp_numbers above b)

  -- the stamp isn't before the first of these two, nor the second before it
  abbrev pub stands_between : Stamp → Stamp → DownValue → Statement
  stands_between a b e = both (is_not (stamp_before e.stamp a)) (is_not (stamp_before b e.stamp))

  -- an entry that stands behind another has no lesser stamp, and that of a read, an erase or an inject is greater
  abbrev pub may_follow : DownValue → DownValue → Statement
  may_follow e f = both (is_not (stamp_before f.stamp e.stamp)) (where_so (comes_later f.kind) (is_so (stamp_before e.stamp f.stamp)))

  -- none is before the stamp that was taken over, or past the present one, and none falls
  abbrev pub stamps_among : Stamp → Stamp → DirValue → Statement
  stamps_among taken present d =
      both (is_not (stamp_before present taken))
      (both (each (stands_between taken present) d.down) (each_pair may_follow d.down))

-- where the bus above has this present stamp
unfoldable pub stamps_fit : Stamp → DirValue → Bool
stamps_fit present d = test_of (stamps_among (d.level - 1) d.epoch present d)

-- ---- one entry after the other

module _ (above : ℕ) (taken present : Stamp) where
  -- an entry of this kind and stamp may be the first one, or stand behind one with that stamp
  abbrev pub may_come : Option Stamp → TxKind → Stamp → Bool
  may_come None kind stamp = not (stamp_before above stamp taken) && not (stamp_before above present stamp)
  may_come (Some last) kind stamp =
      (not (stamp_before above stamp taken) && not (stamp_before above present stamp))
      && (not (stamp_before above stamp last) && (if comes_later kind then stamp_before above last stamp else true))

  -- each behind the one before it, and the first behind this stamp
  abbrev pub may_come_all : Option Stamp → List DownValue → Bool
  may_come_all last [] = true
  may_come_all last (e ∷ es) = may_come last e.kind e.stamp && may_come_all (Some e.stamp) es
