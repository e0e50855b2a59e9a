-- What the lines of a hart and of an item show.
-- Letters: v is a leaf, h its hart, x an item, c its counts.
use Rattle.std.specs.Prelude.{◌≡◌, ℕ, List, ◌++◌, codes, decimal}
use Rattle.report.specs.DdmText.Hex.{hex8}
use Rattle.measure_model.specs.declared.ItemCounts.{ItemCounts}
use Rattle.recording.specs.RvHart.HartState.{HartState}
use Rattle.recording_model.specs.TreeModel.State.Values.{LeafValue}

-- the leaf of number k has this hart
pub record HasHart (k : ℕ) (h : HartState) (v : LeafValue) : Type 0 where
  pub number : v.number ≡ k
  pub hart : v.hart ≡ h.hart
  pub done : v.done ≡ h.done

-- where there is anything to be told of an item with this address
abbrev pub told_item : ℕ → ℕ → ItemCounts → List ℕ
told_item x address c =
    codes "item " ++ decimal x ++ codes " " ++ hex8 address ++ codes " reads " ++ decimal c.reads
    ++ codes " erases " ++ decimal c.erases ++ codes " injects " ++ decimal c.injects ++ codes "\n"
