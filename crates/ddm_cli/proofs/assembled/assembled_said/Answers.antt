use Rattle.std.proofs.Common.{◌≡◌, Ok, Some, subst}
use Rattle.std.specs.Prelude.{IfSome}
use Rattle.std.proofs.lemmas.Result.{IfErr-weaker, IfOk-weaker}
use Rattle.ddm_cli.specs.Assembling.{AssemblyCause, assembled_at}
use Rattle.ddm_words.specs.Views.{assembly_from}
use Rattle.ddm_cli.proofs.Assemblies.{assembly-refused, cause-of-file, image-taken, of-file, test-refused}
use Rattle.ddm_cli.proofs.assembled.assembled_said.Goals as goal

pub returns-in-Err-clause-refused : goal.returns-in-Err-clause-refused
returns-in-Err-clause-refused g c =
    let told = g.F.Shelf.told in
    let faults = g.F.Shelf.faults in
    let a = assembly_from c.args.assembly in
    let before = faults c.tree_file.new.files a.test in
    let cause = rw c.tree_file.ensures.same at c.in-Err.ensures.cause in
    test-refused told faults c.args.files.now c.test_file.new.files a c.in_ok-tree.tree c.in_ok-tree.ensures.found before (c.tree_file.ensures.later a.test) c.in-Err.status cause

pub returns-clause-taken : goal.returns-clause-taken
returns-clause-taken g c =
    let told = g.F.Shelf.told c.args.files.now in
    let a = assembly_from c.args.assembly in
    let t = c.in_ok-tree.tree in
    let same = rw c.tree_file.ensures.same at c.in-Ok.ensures.found in
    let found = c.in_ok-tree.ensures.found in
    IfOk-weaker c.image_said.result _ _ (λ image made.
    image-taken a t image.items (told a.tree) (told a.test) found
    (of-file (told a.test) c.in-Ok.file.items (λ file. assembled_at a file t ≡ Ok image.items) same (subst (λ file. assembled_at a file t ≡ Ok image.items) c.deref.ensures.value made))) c.image_said.ensures.image

pub returns-clause-refused : goal.returns-clause-refused
returns-clause-refused g c =
    let told = g.F.Shelf.told in
    let faults = g.F.Shelf.faults in
    let a = assembly_from c.args.assembly in
    let t = c.in_ok-tree.tree in
    let same = rw c.tree_file.ensures.same at c.in-Ok.ensures.found in
    let found = c.in_ok-tree.ensures.found in
    IfErr-weaker c.image_said.result _ _ (λ status cause.
    assembly-refused told faults c.args.files.now c.test_file.new.files a t found status
    (cause-of-file a t (told c.args.files.now a.test) c.in-Ok.file.items status same (subst (λ file. AssemblyCause a t (Some file) status) c.deref.ensures.value cause))) c.image_said.ensures.cause
