-- Where a target belongs among others that are in order.
use Rattle.std.specs.Prelude.{Bool, ◌||◌}
use Rattle.litmus_model.specs.declared.parts.Target.{Target}
use Rattle.litmus_model.specs.Init.{same_target}
use Rattle.litmus_model.specs.Test.{is_before}

-- the first target isn't after the second one
abbrev pub is_at : Target → Target → Bool
is_at x y = is_before x y || same_target x y
