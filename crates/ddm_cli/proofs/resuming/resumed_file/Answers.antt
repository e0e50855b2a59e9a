use Rattle.std.proofs.Common.{◌≡◌, IfOk, IfSome, List, ℕ, None, Option, Result, Ok, Err, Some, subst}
use Rattle.ddm_cli.specs.declared.status.Status.{Status}
use Rattle.ddm_cli.specs.AnyMachine.Any.{machine_state}
use Rattle.checkpoint.specs.Resumed.{resumed}
use Rattle.ddm_cli.proofs.Rests.{unread_caused}
use Rattle.ddm_cli.proofs.resuming.resumed_file.Goals as goal

-- what is so of the bytes that were read is so of the file's, where these are told
of-told : {R : Type 0} (P : List ℕ → R → Type 0) (result : Result R Status) (told : Option (List ℕ)) (read : List ℕ) → IfSome told (λ file. read ≡ file) → IfOk result (P read) → IfOk result (λ r. IfSome told (λ file. P file r))
of-told P (Ok r) None read same found = tt
of-told P (Ok r) (Some file) read same found = subst (λ bytes. P bytes r) same found
of-told P (Err status) told read same found = tt

pub returns-in-Ok-clause-found : goal.returns-in-Ok-clause-found
returns-in-Ok-clause-found g c =
    of-told (λ file r. resumed (machine_state c.args.fresh).machine file ≡ Ok (record { machine = (machine_state r.0).machine; counts = r.1 })) c.resumed.result (g.F.Shelf.told c.args.files.now c.args.name.now) _ c.in-Ok.ensures.found c.resumed.ensures.found

pub returns-in-Err-clause-cause : goal.returns-in-Err-clause-cause
returns-in-Err-clause-cause g c =
    rw c.unread.ensures (unread_caused (machine_state c.args.fresh).machine (g.F.Shelf.told c.args.files.now c.args.name.now) (g.F.Shelf.faults c.args.files.now c.args.name.now) (g.F.Shelf.faults c.read_checkpoint.new.files c.args.name.now) c.in-Err.error c.in-Err.ensures.cause)
