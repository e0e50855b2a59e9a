-- The start that a witness is judged from, as that of the tables.
use Rattle.std.proofs.Common.{◌≡◌, ℕ, ◌⊎◌, inl, inr, false, List, Option, Some, None, Ok, refl, sym, subst, ◌∙◌}
use Rattle.std.specs.Prelude.{is_none, option_and_then}
use Rattle.ddm_cli.specs.DdmTypes.declared.sizes.Start.{Start}
use Rattle.std.specs.Option.{option_map}
use Rattle.ddm_cli.specs.TreeModel.Start.Sources.{TreeValue, ImageValue, start_of_harts}
use Rattle.ddm_cli.specs.TreeModel.Start.Machine.{StartRefusal, start_refusal, too_many_items, stack_overlap, no_place}
use Rattle.ddm_cli.specs.ElfLoad.ElfFile.{image_of}
use Rattle.run_engine.specs.Build.{build_refusal, refusal_of}
use Rattle.run_engine.specs.declared.refusal.BuildRefusal.{BuildRefusal}
use Rattle.run_engine.specs.declared.refusal.BuildRefusal.TheVariants as build
use Rattle.witness_check.specs.Reader.{setting, setting_of}
use Rattle.witness_check.specs.Start as check
use Rattle.witness_check.specs.Start.{judged}
use Rattle.witness_check.specs.declared.refusal.CheckRefusal.{CheckRefusal}
use Rattle.witness_check.specs.declared.refusal.CheckRefusal.TheVariants as refusal
use Rattle.witness_check.proofs.Starts.{start_refusal-tables}
use Rattle.ddm_cli.specs.Causes.{IsOfStart}
use Rattle.ddm_cli.specs.Parts.{setting_in}

-- ---- where the tables refuse a start for another reason than places

-- a refusal of the tables' start, as one that is judged
judged_of : (o : Option StartRefusal) (r : BuildRefusal) → IsOfStart r → option_map refusal_of o ≡ Some r → is_none (option_and_then judged o) ≡ false
judged_of None r of_start e = absurd (cc e)
judged_of (Some (too_many_items n)) r of_start e = refl
judged_of (Some (stack_overlap hart header)) r of_start e = refl
judged_of (Some (no_place i)) r of_start e = let is : build.NoPlace i ≡ r = cc in absurd (rw (← is) at of_start)

pub start_refused : (t : TreeValue) (i : ImageValue) (r : BuildRefusal) → IsOfStart r → build_refusal t i ≡ Some r → is_none (check.start_refusal (setting_of t i)) ≡ false
start_refused t i r of_start e = rw (start_refusal-tables t i) (judged_of (start_refusal t i) r of_start e)

-- the other way round, for each refusal of a start
many_items : (t : TreeValue) (i : ImageValue) (n : ℕ) → check.start_refusal (setting_of t i) ≡ Some (refusal.TooManyItems n) → build_refusal t i ≡ Some (build.TooManyItems n)
many_items t i n e = by (start_refusal t i) (sym (start_refusal-tables t i) ∙ e) where
  by : (o : Option StartRefusal) → option_and_then judged o ≡ Some (refusal.TooManyItems n) → option_map refusal_of o ≡ Some (build.TooManyItems n)
  by None is = absurd (cc is)
  by (Some (too_many_items m)) is = let same : m ≡ n = cc in rw same refl
  by (Some (stack_overlap hart header)) is = absurd (cc is)
  by (Some (no_place x)) is = absurd (cc is)

overlap : (t : TreeValue) (i : ImageValue) (hart header : ℕ) → check.start_refusal (setting_of t i) ≡ Some (refusal.StackOverlap hart header) → build_refusal t i ≡ Some (build.StackOverlap hart header)
overlap t i hart header e = by (start_refusal t i) (sym (start_refusal-tables t i) ∙ e) where
  by : (o : Option StartRefusal) → option_and_then judged o ≡ Some (refusal.StackOverlap hart header) → option_map refusal_of o ≡ Some (build.StackOverlap hart header)
  by None is = absurd (cc is)
  by (Some (too_many_items m)) is = absurd (cc is)
  by (Some (stack_overlap g h)) is = let same-hart : g ≡ hart = cc in let same-header : h ≡ header = cc in rw (same-hart, same-header) refl
  by (Some (no_place x)) is = absurd (cc is)

-- ---- what the code was answered

module _ (t : TreeValue) (i : ImageValue) (s : Start) (bytes : ℕ) (is-start : s ≡ start_of_harts t i) (is-bytes : bytes ≡ t.item_bytes) where
  answered : (r : CheckRefusal) → (r ≡ refusal.NoMemory → ⊥) → (r ≡ refusal.NoMemory) ⊎ (check.start_refusal (setting i s bytes) ≡ Some r) → check.start_refusal (setting_of t i) ≡ Some r
  answered r other (inl none) = absurd (other none)
  answered r other (inr e) = subst (λ (b : ℕ). check.start_refusal (setting i (start_of_harts t i) b) ≡ Some r) is-bytes (subst (λ (u : Start). check.start_refusal (setting i u bytes) ≡ Some r) is-start e)

  pub many_answered : (n : ℕ) → (refusal.TooManyItems n ≡ refusal.NoMemory) ⊎ (check.start_refusal (setting i s bytes) ≡ Some (refusal.TooManyItems n)) → build_refusal t i ≡ Some (build.TooManyItems n)
  many_answered n said = many_items t i n (answered (refusal.TooManyItems n) (λ e. cc e) said)

  pub overlap_answered : (hart header : ℕ) → (refusal.StackOverlap hart header ≡ refusal.NoMemory) ⊎ (check.start_refusal (setting i s bytes) ≡ Some (refusal.StackOverlap hart header)) → build_refusal t i ≡ Some (build.StackOverlap hart header)
  overlap_answered hart header said = overlap t i hart header (answered (refusal.StackOverlap hart header) (λ e. cc e) said)

-- ---- a file whose image has a start

pub setting_started : (t : TreeValue) (i : ImageValue) (file : List ℕ) → image_of t.item_bytes file ≡ Ok i → check.start_refusal (setting_of t i) ≡ None → setting_in t file ≡ Some (setting_of t i)
unfolding setting_in
setting_started t i file loaded starts = rw (loaded, starts) refl
