use Rattle.std.proofs.Common.{◌≡◌, Some, None, Ok, ap, arith}
use Rattle.ddm_outside.specs.NamedFiles.{place_of}
use Rattle.ddm_outside.proofs.Parts.{empty_part}
use Rattle.ddm_outside.proofs.Files.{place_is, bytes_none}
use Rattle.ddm_outside.proofs.sound_shelf.SoundShelfShelf.read.Goals as goal

pub returns-in_default-clause-told : goal.returns-in_default-clause-told
returns-in_default-clause-told c =
    let none : place_of c.args.self.now.files.items c.args.name.now ≡ None = cc in
    rw (bytes_none c.args.self.now.files.items c.args.name.now none) (empty_part c.args.at c.args.into.now)

pub returns-clause-told : goal.returns-clause-told
returns-clause-told c =
    let some : place_of c.args.self.now.files.items c.args.name.now ≡ Some c.in-Some.place = cc in
    let named = place_is 0 c.args.self.now.files.items c.args.name.now c.in-Some.place some in
    rw (named.bytes c.index.result.now c.index.ensures) (rw c.deref-2.ensures.value at c.copy_part.ensures.part)

pub returns-in_default-clause-amount : goal.returns-in_default-clause-amount
returns-in_default-clause-amount c =
    let none : place_of c.args.self.now.files.items c.args.name.now ≡ None = cc in
    rw (bytes_none c.args.self.now.files.items c.args.name.now none) (ap Ok (omega arith))

pub returns-clause-amount : goal.returns-clause-amount
returns-clause-amount c =
    let some : place_of c.args.self.now.files.items c.args.name.now ≡ Some c.in-Some.place = cc in
    let named = place_is 0 c.args.self.now.files.items c.args.name.now c.in-Some.place some in
    rw (named.bytes c.index.result.now c.index.ensures) (ap Ok (rw c.deref-2.ensures.value at c.copy_part.ensures.amount))
