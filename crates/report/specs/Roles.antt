-- The names of files in the lines of faults.
use Rattle.std.specs.Prelude.{ℕ, List, codes}
use Rattle.report.specs.declared.roles.FileRole.{FileRole}
use Rattle.report.specs.declared.roles.FileRole.TheVariants.{ImageFile, TreeFile, ScheduleFile, WitnessFile, CheckpointFile}

abbrev pub role_text : FileRole → List ℕ
role_text ImageFile = codes "image"
role_text TreeFile = codes "tree"
role_text ScheduleFile = codes "schedule"
role_text WitnessFile = codes "witness"
role_text CheckpointFile = codes "checkpoint"
