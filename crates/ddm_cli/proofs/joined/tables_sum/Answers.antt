use Rattle.std.proofs.Common.{◌≡◌, ◌∙◌, ◌+◌, ◌++◌, ◌∷◌, [], Ok, Some, ap, map, sym, refl, subst, take, arith}
use Rattle.std.specs.Prelude.{slice_get}
use Rattle.std.specs.String.{string_bytes}
use Rattle.joining.specs.JoinModel.Files.{Sum, sum_of}
use Rattle.joining.specs.JoinModel.Table.{table_in}
use Rattle.joining.specs.Said.{sum_said, table_said}
use Rattle.ddm_cli.specs.Top.{NoJoin}
use Rattle.ddm_cli.proofs.Joins.{add-refused, added-tables, name-there, sum-more, sum-none, table-refused, take-named, with-next}
use Rattle.ddm_cli.proofs.joined.tables_sum.Goals as goal

pub joining-init : goal.joining-init
joining-init g c = record {
  sum = sum-none ∙ ap (λ (s : Sum). Ok s) (sym c.new-sum.ensures.sum);
  counted = c.new-sum.ensures.counted;
  tables = ap (λ (s : Sum). s.tables) c.new-sum.ensures.sum;
  same = refl;
  later = λ other. omega arith;
}

pub returns-in-Err-clause-refused : goal.returns-in-Err-clause-refused
returns-in-Err-clause-refused g c =
    let told = g.F.Shelf.told in
    let names = map string_bytes c.args.names.now in
    let word = c.index-names-place.result in
    let inside = c.joining-test.true in
    let cause = rw c.joining.invariant.same at c.in-Err.ensures.cause in
    let name = c.deref.result.now in
    let next : take (c.joining.place + 1) names ≡ take c.joining.place names ++ name ∷ [] = take-named string_bytes c.args.names.now c.joining.place word inside c.index-names-place.is ∙ ap (λ n. take c.joining.place names ++ n ∷ []) (sym c.deref.ensures) in
    let there : slice_get names c.joining.place ≡ Some name = name-there string_bytes c.args.names.now c.joining.place word inside c.index-names-place.is ∙ ap (λ n. Some n) (sym c.deref.ensures) in
    table-refused told g.F.Shelf.faults c.args.files.now c.table_file.new.files names c.joining.place name (sum_said c.joining.sum) c.joining.invariant.sum c.joining.invariant.tables next there (g.F.Shelf.faults c.joining.files name) (c.joining.invariant.later name) c.in-Err.status cause

pub returns-in-Err-add-clause-refused : goal.returns-in-Err-add-clause-refused
returns-in-Err-add-clause-refused g c =
    let told = g.F.Shelf.told in
    let names = map string_bytes c.args.names.now in
    let word = c.index-names-place.result in
    let inside = c.joining-test.true in
    let name = c.deref.result.now in
    let next : take (c.joining.place + 1) names ≡ take c.joining.place names ++ name ∷ [] = take-named string_bytes c.args.names.now c.joining.place word inside c.index-names-place.is ∙ ap (λ n. take c.joining.place names ++ n ∷ []) (sym c.deref.ensures) in
    let there : slice_get names c.joining.place ≡ Some name = name-there string_bytes c.args.names.now c.joining.place word inside c.index-names-place.is ∙ ap (λ n. Some n) (sym c.deref.ensures) in
    let read = rw c.joining.invariant.same at c.in-Ok.ensures.found in
    let refused = add-refused told g.F.Shelf.faults c.args.files.now c.table_file.new.files names c.joining.place name (sum_said c.joining.sum) c.joining.invariant.sum c.joining.invariant.tables next there (table_said c.in-Ok.table) c.in-Err-add.error read c.in-Err-add.ensures.sum in
    subst (λ status. NoJoin told g.F.Shelf.faults c.args.files.now c.table_file.new.files status names) (sym c.table_status.ensures) refused

pub joining-preserved : goal.joining-preserved
joining-preserved g c =
    let told = g.F.Shelf.told in
    let names = map string_bytes c.args.names.now in
    let word = c.index-names-place.result in
    let inside = c.joining-test.true in
    let name = c.deref.result.now in
    let next : take (c.joining.place + 1) names ≡ take c.joining.place names ++ name ∷ [] = take-named string_bytes c.args.names.now c.joining.place word inside c.index-names-place.is ∙ ap (λ n. take c.joining.place names ++ n ∷ []) (sym c.deref.ensures) in
    let there : slice_get names c.joining.place ≡ Some name = name-there string_bytes c.args.names.now c.joining.place word inside c.index-names-place.is ∙ ap (λ n. Some n) (sym c.deref.ensures) in
    let s = sum_said c.joining.sum in
    let after = sum_said c.add.new.self in
    let t = table_said c.in-Ok.table in
    let read = rw c.joining.invariant.same at c.in-Ok.ensures.found in
    let more = c.in-Ok-add.ensures.sum in
    let counted = added-tables s after t more in
    record {
      sum = with-next told g.F.Shelf.faults c.args.files.now c.table_file.new.files names c.joining.place name s c.joining.invariant.sum c.joining.invariant.tables next there (λ file. table_in file ≡ Ok t) (λ tables. sum_of tables ≡ Ok after) read (λ tables file before is. sum-more tables file s after t before is more);
      counted = c.in-Ok-add.ensures.counted;
      tables = counted ∙ ap (λ n. n + 1) c.joining.invariant.tables;
      same = c.table_file.ensures.same ∙ c.joining.invariant.same;
      later = λ other. omega (arith, c.joining.invariant.later other, c.table_file.ensures.later other);
    }
