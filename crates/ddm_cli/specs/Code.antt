-- The number that the process ends with, for each status.
use Rattle.std.specs.Prelude.{ℕ}
use Rattle.ddm_cli.specs.declared.status.Status.{Status}
use Rattle.ddm_cli.specs.declared.status.Status.TheVariants.{Done, Usage, ImageLoad, ImageBuild, Tree, Schedule}
use Rattle.ddm_cli.specs.declared.status.Status.TheVariants.{Witness, Checkpoint, SmallLists, Table, ReadFault}
use Rattle.ddm_cli.specs.declared.status.Status.TheVariants.{UnreadTable, WriteFault, NoMemory, Litmus, UnreadTest}

-- the number of each status
abbrev pub exit_code : Status → ℕ
exit_code Done = 0
exit_code (Usage n) = 2
exit_code (ImageLoad r) = 3
exit_code (ImageBuild r) = 3
exit_code (Tree r) = 4
exit_code (Schedule line r) = 5
exit_code (ReadFault role) = 6
exit_code (UnreadTable n) = 6
exit_code WriteFault = 7
exit_code NoMemory = 8
exit_code (Witness r) = 10
exit_code (Checkpoint r) = 11
exit_code (SmallLists key) = 12
exit_code (Table n r) = 15
exit_code (Litmus r) = 13
exit_code UnreadTest = 6
