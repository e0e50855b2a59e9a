use Rattle.std.proofs.Common.{◌≡◌, Some, None, ap, refl, inl, inr, sym, ◌∙◌, arith}
use Rattle.std.proofs.Math.Path.{fun_ext}
use Rattle.std.specs.Prelude.{is_some}
use Rattle.ddm_outside.specs.NamedFiles.{place_of}
use Rattle.ddm_outside.proofs.Files.{place_is, bytes_none, faults_none, faults_some, faults_unknown, bytes_counted, faults_counted}
use Rattle.ddm_outside.proofs.memory_shelf.MemoryShelfShelf.read.Goals as goal

pub returns-in_default-clause-cause : goal.returns-in_default-clause-cause
returns-in_default-clause-cause c =
    let place : place_of c.args.self.now.files.items c.args.name.now ≡ None = cc in
    let none = ap is_some (bytes_none c.args.self.now.files.items c.args.name.now place) in
    let before = faults_none c.args.self.now.unknown c.args.self.now.files.items c.args.name.now none in
    let after = faults_none c.saturating_add-self-in_default.result c.args.self.now.files.items c.args.name.now none in
    record { later = omega arith; failed = omega arith }

pub returns-in_default-clause-later : goal.returns-in_default-clause-later
returns-in_default-clause-later c = λ name. faults_unknown _ _ c.args.self.now.files.items name (omega arith)

pub returns-in_default-clause-fails : goal.returns-in_default-clause-fails
returns-in_default-clause-fails c =
    let place : place_of c.args.self.now.files.items c.args.name.now ≡ None = cc in
    (λ _. inl (ap is_some (bytes_none c.args.self.now.files.items c.args.name.now place)), λ _. refl)

pub returns-in_default-clause-counted : goal.returns-in_default-clause-counted
returns-in_default-clause-counted c =
    let files = c.args.self.now.files.items in
    let name = c.args.name.now in
    let old = c.args.self.now.unknown in
    let new = c.saturating_add-self-in_default.result in
    let place : place_of c.args.self.now.files.items c.args.name.now ≡ None = cc in
    let none = ap is_some (bytes_none files name place) in
    let before = faults_none old files name none in
    let after = faults_none new files name none in
    record {
      here = omega arith;
      shared = λ other _ other_none. faults_none new files other other_none ∙ sym after;
      others = λ other _ either. elim either [ inl some ↦ cc | inr some ↦ faults_some old new files other some ];
    }

pub returns-then-is_listed-clause-same : goal.returns-then-is_listed-clause-same
returns-then-is_listed-clause-same c =
    let at = c.index_mut-file.ensures.value in
    fun_ext (λ name. bytes_counted c.args.self.now.files.items c.in-Some.place c.saturating_add-file.result c.index_mut-file.result.now name at)

pub returns-then-is_listed-clause-cause : goal.returns-then-is_listed-clause-cause
returns-then-is_listed-clause-cause c =
    let s = c.args.self.now in
    let some : place_of s.files.items c.args.name.now ≡ Some c.in-Some.place = cc in
    let named = place_is s.unknown s.files.items c.args.name.now c.in-Some.place some in
    let at = c.index_mut-file.ensures.value in
    let before = named.faults c.index_mut-file.result.now at in
    let after = named.counts c.index_mut-file.result.now c.saturating_add-file.result at in
    record { later = omega arith; failed = omega arith }

pub returns-then-is_listed-clause-later : goal.returns-then-is_listed-clause-later
returns-then-is_listed-clause-later c =
    let at = c.index_mut-file.ensures.value in
    λ name. faults_counted c.args.self.now.unknown c.args.self.now.files.items c.in-Some.place c.saturating_add-file.result c.index_mut-file.result.now name at (omega arith)

pub returns-then-is_listed-clause-counted : goal.returns-then-is_listed-clause-counted
returns-then-is_listed-clause-counted c =
    let s = c.args.self.now in
    let some : place_of s.files.items c.args.name.now ≡ Some c.in-Some.place = cc in
    let named = place_is s.unknown s.files.items c.args.name.now c.in-Some.place some in
    let file = c.index_mut-file.result.now in
    let at = c.index_mut-file.ensures.value in
    let told = ap is_some (named.bytes file at) in
    let before = named.faults file at in
    let after = named.counts file c.saturating_add-file.result at in
    record {
      here = omega arith;
      shared = λ other none _. cc;
      others = λ other differ _. named.others file c.saturating_add-file.result other at differ;
    }

pub returns-clause-told : goal.returns-clause-told
returns-clause-told c =
    let s = c.args.self.now in
    let some : place_of s.files.items c.args.name.now ≡ Some c.in-Some.place = cc in
    let named = place_is s.unknown s.files.items c.args.name.now c.in-Some.place some in
    rw (named.bytes c.index.result.now c.index.ensures) (rw c.deref-3.ensures.value at c.copy_part.ensures.part)

pub returns-clause-amount : goal.returns-clause-amount
returns-clause-amount c =
    let s = c.args.self.now in
    let some : place_of s.files.items c.args.name.now ≡ Some c.in-Some.place = cc in
    let named = place_is s.unknown s.files.items c.args.name.now c.in-Some.place some in
    rw (named.bytes c.index.result.now c.index.ensures) (rw c.deref-3.ensures.value at c.copy_part.ensures.amount)

pub returns-clause-fails : goal.returns-clause-fails
returns-clause-fails c =
    let s = c.args.self.now in
    let some : place_of s.files.items c.args.name.now ≡ Some c.in-Some.place = cc in
    let named = place_is s.unknown s.files.items c.args.name.now c.in-Some.place some in
    let told = ap is_some (named.bytes c.index.result.now c.index.ensures) in
    let decides = rw c.deref-2.ensures.value at c.is_listed.ensures in
    (λ e. cc, λ either. elim either [ inl none ↦ cc | inr listed ↦ cc (decides.1 listed) ])
