-- The text of a seed's turns is a schedule of the same turns, so what is printed of both is the same.
-- Letters: t is a tree, p and q what a tree and an image give.
use Rattle.std.proofs.Common.{◌≡◌, ℕ, ◌≤◌, Bool, true, false, List, Option, Some, None, refl, sym, ap, subst, ◌∙◌}
use Rattle.std.specs.Prelude.{is_none, option_and_then, option_map, if◌then◌else◌}
use Rattle.std.specs.Result.{result_ok}
use Rattle.ddm_cli.specs.TreeModel.Start.Sources.{TreeValue}
use Rattle.ddm_cli.specs.TextModel.Schedule.{turn_limit}
use Rattle.ddm_cli.specs.Lists.{list_refused}
use Rattle.ddm_cli.specs.Parts.{Parts, if_large, items_of, parts_for, parts_of, tree_at, turns_at, turns_of}
use Rattle.ddm_cli.specs.Together.{SeedsPrintTheSame}
use Rattle.ddm_cli.specs.Told.{written, seeded}
use Rattle.ddm_cli.specs.Top.{list_at, text_at, text_with}
use Rattle.ddm_words.specs.declared.command.Prints.{Prints}
use Rattle.ddm_cli.proofs.FileLaws.Schedules.{seeded-read}
use Rattle.ddm_cli.proofs.AcceptedParts.{parts-told, tree-told}

same-turns : (file : List ℕ) (t : TreeValue) (seed count : ℕ) → tree_at file ≡ Some t → count ≤ turn_limit → turns_of t.levels (written (list_at seed count t)) ≡ turns_of t.levels (seeded seed count)
unfolding turns_at list_at
same-turns file t seed count is few = ap result_ok (seeded-read file t (tree-told file t is) seed count few)

-- the parts whose lists are large enough are those of the files
of-parts : (prints : Prints) (p q : Parts) → if_large prints p ≡ Some q → p ≡ q
of-parts prints p q e = by_test (is_none (list_refused prints p.tree.sizes (items_of p))) e where
  by_test : (b : Bool) → (if b then Some p else None) ≡ Some q → p ≡ q
  by_test true e = cc
  by_test false e = cc

pub seeds-print : SeedsPrintTheSame
unfolding parts_for
seeds-print prints tree image t seed count is few = by_parts (parts_of tree image) refl where
  by_large : (p : Parts) → parts_of tree image ≡ Some p → (o : Option Parts) → if_large prints p ≡ o → option_and_then (text_with prints (written (list_at seed count t))) o ≡ option_and_then (text_with prints (seeded seed count)) o
  by_large p of None e = refl
  by_large p of (Some q) e =
      let own : tree_at tree ≡ Some p.tree = (parts-told tree image p of).tree_taken in
      let both : p.tree ≡ t = cc in
      let tree_is : t ≡ q.tree = sym both ∙ ap (λ (u : Parts). u.tree) (of-parts prints p q e) in
      let turns : turns_of q.tree.levels (written (list_at seed count t)) ≡ turns_of q.tree.levels (seeded seed count) = subst (λ (u : TreeValue). turns_of u.levels (written (list_at seed count t)) ≡ turns_of u.levels (seeded seed count)) tree_is (same-turns tree t seed count is few) in
      ap (option_map (text_at prints q)) turns

  by_parts : (o : Option Parts) → parts_of tree image ≡ o → option_and_then (text_with prints (written (list_at seed count t))) (option_and_then (if_large prints) o) ≡ option_and_then (text_with prints (seeded seed count)) (option_and_then (if_large prints) o)
  by_parts None of = refl
  by_parts (Some p) of = by_large p of (if_large prints p) refl
