-- What a schedule is judged by, of a tree's levels.
use Rattle.std.specs.Prelude.{ℕ, List}
use Rattle.tree_config.specs.Levels.{leaves_of, widths_of}
use Rattle.text_model.specs.Schedule.{ShapeView}

-- the harts and the buses of a tree with these levels
abbrev pub shape_view : List (List ℕ) → ShapeView
shape_view levels = record { harts = leaves_of levels; buses = widths_of levels }
