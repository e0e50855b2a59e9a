-- The witness of a run of accepted files is accepted, so the checker's line is that of their number.
-- Letters: t is a tree, i an image, p what both give.
use Rattle.std.proofs.Common.{◌≡◌, ℕ, List, length, Option, Some, None, Ok, refl, sym, ap, ◌∙◌}
use Rattle.std.specs.Prelude.{option_and_then, option_map}
use Rattle.std.specs.Result.{result_ok}
use Rattle.ddm_cli.specs.DdmTypes.declared.turns.Turn.{Turn}
use Rattle.ddm_cli.specs.TreeModel.Start.Sources.{TreeValue, ImageValue}
use Rattle.ddm_cli.specs.ElfLoad.ElfFile.{image_of}
use Rattle.ddm_cli.specs.FileLaws.Images.{AreBytes}
use Rattle.ddm_cli.specs.Parts.{Parts, parts_for, parts_of, setting_at, setting_in, tree_at, turns_of}
use Rattle.ddm_cli.specs.Printed.{legal_line}
use Rattle.ddm_cli.specs.Together.{HasCheckedWitness, IsAskable, ReportsPassTheCheck}
use Rattle.ddm_cli.specs.Told.{ScheduleGiven}
use Rattle.ddm_cli.specs.Top.{text_at, text_with, verdict_in}
use Rattle.ddm_words.specs.declared.command.Prints.TheVariants.{Report}
use Rattle.witness_check.proofs.Accepting as accepting
use Rattle.witness_check.specs.Reader.{setting_of}
use Rattle.witness_check.specs.Start as check
use Rattle.witness_check.specs.Start.{check_of}
use Rattle.witness_laws.proofs.Printed.{is_accepted, report_ends}
use Rattle.witness_laws.specs.Printed.{ops_of_run, printed_witness}
use Rattle.ddm_cli.proofs.FileLaws.Images.{image-bytes}
use Rattle.ddm_cli.proofs.FileLaws.Trees.{accepted_tree}
use Rattle.ddm_cli.proofs.AcceptedParts.{few-given, parts-told}

setting : (tree image : List ℕ) (t : TreeValue) (i : ImageValue) → tree_at tree ≡ Some t → image_of t.item_bytes image ≡ Ok i → check.start_refusal (setting_of t i) ≡ None → setting_at tree image ≡ Some (setting_of t i)
unfolding setting_at setting_in
setting tree image t i of is starts = rw (of, is, starts) refl

module _ (tree image : List ℕ) (schedule : ScheduleGiven) (bytes : AreBytes image) (askable : IsAskable schedule) where
  checked : (p : Parts) (turns : List Turn) → parts_of tree image ≡ Some p → turns_of p.tree.levels schedule ≡ Some turns → HasCheckedWitness tree image (text_at Report p turns)
  unfolding text_at
  checked p turns given of =
      let parts = parts-told tree image p given in
      let accepted = is_accepted p.tree p.image turns (accepted_tree tree p.tree parts.tree_is).tree parts.starts (image-bytes p.tree.item_bytes image p.image bytes parts.image_is) (few-given p.tree schedule turns askable of) in
      let judged : check_of (setting_of p.tree p.image) (printed_witness p.tree p.image turns) ≡ Ok (length (ops_of_run p.tree p.image turns)) = accepting.is_accepted (setting_of p.tree p.image) (printed_witness p.tree p.image turns) (length (ops_of_run p.tree p.image turns)) accepted in
      let ends = report_ends p.tree p.image turns in
      record {
        front = ends.0;
        witness = printed_witness p.tree p.image turns;
        lines = length (ops_of_run p.tree p.image turns);
        report_is = ends.1;
        verdict = ap (option_and_then (verdict_in (printed_witness p.tree p.image turns))) (setting tree image p.tree p.image parts.tree_taken parts.image_is accepted.start) ∙ ap (λ r. option_map legal_line (result_ok r)) judged;
      }

  by-turns : (p : Parts) (report : List ℕ) → parts_of tree image ≡ Some p → (o : Option (List Turn)) → turns_of p.tree.levels schedule ≡ o → option_map (text_at Report p) o ≡ Some report → HasCheckedWitness tree image report
  by-turns p report given None of e = cc
  by-turns p report given (Some turns) of e =
      let same : text_at Report p turns ≡ report = cc in
      rw (← same) (checked p turns given of)

  by-parts : (report : List ℕ) (o : Option Parts) → parts_of tree image ≡ o → option_and_then (text_with Report schedule) o ≡ Some report → HasCheckedWitness tree image report
  by-parts report None given e = cc
  by-parts report (Some p) given e = by-turns p report given (turns_of p.tree.levels schedule) refl e

-- no list is too small for a report
pub for-report : (tree image : List ℕ) → parts_for Report tree image ≡ parts_of tree image
unfolding parts_for
for-report tree image = by (parts_of tree image) where
  by : (o : Option Parts) → option_and_then (λ p. Some p) o ≡ o
  by None = refl
  by (Some p) = refl

pub reports-pass : ReportsPassTheCheck
reports-pass tree image schedule report bytes askable e = by-parts tree image schedule bytes askable report (parts_of tree image) refl (ap (option_and_then (text_with Report schedule)) (sym (for-report tree image)) ∙ e)
