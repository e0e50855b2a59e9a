-- What the files of a command give where they are accepted.
-- Letters: t is a tree, i an image, p what both give.
use Rattle.std.proofs.Common.{◌≡◌, inl, inr, ℕ, ◌≤◌, List, length, Option, Some, None, Result, Ok, Err, refl, subst, cond, arith}
use Rattle.std.specs.Prelude.{is_none, option_and_then}
use Rattle.std.specs.Result.{result_ok}
use Rattle.ddm_cli.specs.DdmTypes.declared.turns.Turn.{Turn}
use Rattle.ddm_cli.specs.TreeModel.Start.Sources.{TreeValue, ImageValue}
use Rattle.ddm_cli.specs.TreeModel.Start.Machine.{StartRefusal, start_refusal}
use Rattle.ddm_cli.specs.TextModel.Schedule.{schedule_of, turn_limit}
use Rattle.ddm_cli.specs.TextModel.Seeded.{seeded_turns}
use Rattle.ddm_cli.specs.TextModel.declared.ScheduleRefusal.{ScheduleRefusal}
use Rattle.ddm_cli.specs.ScheduleLog.Shapes.{shape_view}
use Rattle.ddm_cli.specs.ElfLoad.ElfFile.{image_of}
use Rattle.ddm_cli.specs.ElfLoad.declared.refusal.ImageRefusal.{ImageRefusal}
use Rattle.ddm_cli.specs.TreeConfig.TreeFile.{tree_of}
use Rattle.ddm_cli.specs.TreeConfig.declared.refusal.TreeRefusal.{TreeRefusal}
use Rattle.ddm_cli.specs.Parts.{Parts, before_page, if_started, parts_in, parts_of, tree_at, turns_at, turns_of}
use Rattle.ddm_cli.specs.Together.{IsAskable}
use Rattle.ddm_cli.specs.Told.{ScheduleGiven, written, paged, seeded}
use Rattle.ddm_cli.proofs.TextModel.Given.{turns-schedule_of}
use Rattle.witness_laws.proofs.OfFiles.{few-turns}

pub tree-told : (file : List ℕ) (t : TreeValue) → tree_at file ≡ Some t → tree_of file ≡ Ok t
unfolding tree_at
tree-told file t e = by_result (tree_of file) refl e where
  by_result : (r : Result TreeValue TreeRefusal) → tree_of file ≡ r → result_ok r ≡ Some t → tree_of file ≡ Ok t
  by_result (Ok u) is e = let same : u ≡ t = cc in subst (λ v. tree_of file ≡ Ok v) same is
  by_result (Err r) is e = cc

pub record AreParts (tree image : List ℕ) (p : Parts) : Type 0 where
  pub tree_is : tree_of tree ≡ Ok p.tree
  pub tree_taken : tree_at tree ≡ Some p.tree
  pub image_is : image_of p.tree.item_bytes image ≡ Ok p.image
  pub starts : start_refusal p.tree p.image ≡ None

parts-in : (tree image : List ℕ) (t : TreeValue) (p : Parts) → tree_at tree ≡ Some t → parts_in t image ≡ Some p → AreParts tree image p
unfolding parts_in
parts-in tree image t p of e = by_image (image_of t.item_bytes image) refl e where
  by_start : (i : ImageValue) → image_of t.item_bytes image ≡ Ok i → (o : Option StartRefusal) → start_refusal t i ≡ o → cond (is_none o) (Some (record { tree = t; image = i })) None ≡ Some p → AreParts tree image p
  by_start i is None none e =
      let parts : Parts = record { tree = t; image = i } in
      let same : parts ≡ p = cc in
      subst (AreParts tree image) same (record { tree_is = tree-told tree t of; tree_taken = of; image_is = is; starts = none })
  by_start i is (Some r) some e = cc

  by_image : (r : Result ImageValue ImageRefusal) → image_of t.item_bytes image ≡ r → if_started t r ≡ Some p → AreParts tree image p
  by_image (Ok i) is e = by_start i is (start_refusal t i) refl e
  by_image (Err r) is e = cc

pub parts-told : (tree image : List ℕ) (p : Parts) → parts_of tree image ≡ Some p → AreParts tree image p
unfolding parts_of
parts-told tree image p e = by_tree (tree_at tree) refl e where
  by_tree : (o : Option TreeValue) → tree_at tree ≡ o → option_and_then (λ t. parts_in t image) o ≡ Some p → AreParts tree image p
  by_tree (Some t) is e = parts-in tree image t p is e
  by_tree None is e = cc

-- the turns of a schedule are no more than a command may make
pub few-given : (t : TreeValue) (schedule : ScheduleGiven) (turns : List Turn) → IsAskable schedule → turns_of t.levels schedule ≡ Some turns → length turns ≤ turn_limit
unfolding turns_at
few-given t (written file) turns askable e = by_result (schedule_of (shape_view t.levels) 0 file) refl e where
  by_result : (r : Result (List Turn) (ℕ × ScheduleRefusal)) → schedule_of (shape_view t.levels) 0 file ≡ r → result_ok r ≡ Some turns → length turns ≤ turn_limit
  by_result (Ok ts) is e =
      let same : ts ≡ turns = cc in
      subst (λ us. length us ≤ turn_limit) same (few-turns t ts (inl (file, is)))
  by_result (Err r) is e = cc
few-given t (paged file) turns askable e = by_result (schedule_of (shape_view t.levels) before_page file) refl e where
  by_result : (r : Result (List Turn) (ℕ × ScheduleRefusal)) → schedule_of (shape_view t.levels) before_page file ≡ r → result_ok r ≡ Some turns → length turns ≤ turn_limit
  by_result (Ok ts) is e =
      let same : ts ≡ turns = cc in
      let given = turns-schedule_of (shape_view t.levels) before_page file ts (omega arith) is in
      subst (λ us. length us ≤ turn_limit) same (omega (arith, given.room))
  by_result (Err r) is e = cc
few-given t (seeded seed count) turns askable e =
    let same : seeded_turns (shape_view t.levels) seed count ≡ turns = cc in
    subst (λ us. length us ≤ turn_limit) same (few-turns t (seeded_turns (shape_view t.levels) seed count) (inr (seed, count, askable, refl)))
