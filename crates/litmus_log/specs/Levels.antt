-- The levels of a condition as the code keeps them.
use Rattle.std.specs.Prelude.{Bool, List, refl, reverse}
use Rattle.std.specs.Coded.{Coded, code_by, coded×, coded_bool}
use Rattle.litmus_model.specs.Satisfies.{Level}

-- a level is stored as its parts
abbrev pub level_code : Coded Level
level_code = code_by (Bool × (Bool × Bool)) (coded× coded_bool (coded× coded_bool coded_bool))
    (λ l. (l.any, (l.all, l.denied))) (λ p. record { any = p.0; all = p.1.0; denied = p.1.1 }) (λ _. refl)

-- the innermost is the last one there
abbrev pub levels_in : List Level → List Level
levels_in levels = reverse levels
