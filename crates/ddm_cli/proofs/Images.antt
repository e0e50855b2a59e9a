-- Why there is no machine and no setting of an image file, from what its image comes to.
use Rattle.std.proofs.Common.{◌≡◌, ℕ, List, Option, Some, None, Result, Ok, Err}
use Rattle.std.specs.Prelude.{IfOk, IfSome}
use Rattle.ddm_cli.specs.TreeModel.Start.Sources.{TreeValue, ImageValue}
use Rattle.ddm_cli.specs.ElfLoad.ElfFile.{image_of}
use Rattle.ddm_cli.specs.TreeModel.Start.Machine.{start_refusal}
use Rattle.run_engine.specs.Build.{build_refusal}
use Rattle.run_engine.specs.declared.refusal.BuildRefusal.{BuildRefusal}
use Rattle.witness_check.specs.Reader.{ReaderView, begun, setting_of}
use Rattle.witness_check.specs.Start as check
use Rattle.ddm_cli.specs.Causes.{Accepts, BuildCause, HasNoSetting, ImageCause, IsOfStart, IsUnstarted, JudgedImageCause, NoImage, SettingCause}
use Rattle.ddm_cli.specs.Parts.{BeginsFor, parts_in, setting_in}
use Rattle.ddm_cli.specs.declared.status.Status.{Status}
use Rattle.ddm_cli.specs.declared.status.Status.TheVariants.{Done, Usage, ImageLoad, ImageBuild, Tree, Schedule, Witness, Checkpoint, SmallLists, Table, ReadFault, UnreadTable, WriteFault, NoMemory, Litmus, UnreadTest}
use Rattle.ddm_cli.proofs.Judged.{some_parts}
use Rattle.ddm_cli.proofs.Settings.{setting_started}

-- the file has this image, where it is told
abbrev HasImage : TreeValue → Option (List ℕ) → ImageValue → Type 0
HasImage t told i = IfSome told (λ file. image_of t.item_bytes file ≡ Ok i)

module _ (t : TreeValue) (told : Option (List ℕ)) (before now : ℕ) where
  pub no_machine : (s : Status) → NoImage t told before now s → ImageCause t told before now s
  no_machine (ImageLoad r) cause = cause
  no_machine (ReadFault role) cause = cause
  no_machine NoMemory cause = tt
  no_machine (ImageBuild r) cause = absurd cause
  no_machine Done cause = absurd cause
  no_machine (Usage k) cause = absurd cause
  no_machine (Tree r) cause = absurd cause
  no_machine (Schedule line r) cause = absurd cause
  no_machine (Witness r) cause = absurd cause
  no_machine (Checkpoint r) cause = absurd cause
  no_machine (SmallLists key) cause = absurd cause
  no_machine (Table n r) cause = absurd cause
  no_machine (UnreadTable n) cause = absurd cause
  no_machine (Litmus x) cause = absurd cause
  no_machine UnreadTest cause = absurd cause
  no_machine WriteFault cause = absurd cause

  pub no_reader : (s : Status) → NoImage t told before now s → JudgedImageCause t told before now s
  no_reader (ImageLoad r) cause = cause
  no_reader (ReadFault role) cause = cause
  no_reader NoMemory cause = tt
  no_reader (ImageBuild r) cause = absurd cause
  no_reader Done cause = absurd cause
  no_reader (Usage k) cause = absurd cause
  no_reader (Tree r) cause = absurd cause
  no_reader (Schedule line r) cause = absurd cause
  no_reader (Witness r) cause = absurd cause
  no_reader (Checkpoint r) cause = absurd cause
  no_reader (SmallLists key) cause = absurd cause
  no_reader (Table n r) cause = absurd cause
  no_reader (UnreadTable n) cause = absurd cause
  no_reader (Litmus x) cause = absurd cause
  no_reader UnreadTest cause = absurd cause
  no_reader WriteFault cause = absurd cause

  module _ (i : ImageValue) (has : HasImage t told i) where
    unstarted : (r : BuildRefusal) → build_refusal t i ≡ Some r → IfSome told (IsUnstarted t r)
    unstarted r is = by told has where
      by : (o : Option (List ℕ)) → HasImage t o i → IfSome o (IsUnstarted t r)
      by None has = tt
      by (Some file) has = rw has is

    without_setting : (r : BuildRefusal) → IsOfStart r × (build_refusal t i ≡ Some r) → IfSome told (HasNoSetting t r)
    without_setting r (of_start, is) = by told has where
      by : (o : Option (List ℕ)) → HasImage t o i → IfSome o (HasNoSetting t r)
      by None has = tt
      by (Some file) has = (of_start, rw has is)

    pub not_built : (s : Status) → BuildCause t i s → ImageCause t told before now s
    not_built (ImageBuild r) cause = unstarted r cause
    not_built NoMemory cause = tt
    not_built (ImageLoad r) cause = absurd cause
    not_built (ReadFault role) cause = absurd cause
    not_built Done cause = absurd cause
    not_built (Usage k) cause = absurd cause
    not_built (Tree r) cause = absurd cause
    not_built (Schedule line r) cause = absurd cause
    not_built (Witness r) cause = absurd cause
    not_built (Checkpoint r) cause = absurd cause
    not_built (SmallLists key) cause = absurd cause
    not_built (Table n r) cause = absurd cause
    not_built (UnreadTable n) cause = absurd cause
    not_built (Litmus x) cause = absurd cause
    not_built UnreadTest cause = absurd cause
    not_built WriteFault cause = absurd cause

    pub not_begun : (s : Status) → SettingCause t i s → JudgedImageCause t told before now s
    not_begun (ImageBuild r) cause = without_setting r cause
    not_begun NoMemory cause = tt
    not_begun (ImageLoad r) cause = absurd cause
    not_begun (ReadFault role) cause = absurd cause
    not_begun Done cause = absurd cause
    not_begun (Usage k) cause = absurd cause
    not_begun (Tree r) cause = absurd cause
    not_begun (Schedule line r) cause = absurd cause
    not_begun (Witness r) cause = absurd cause
    not_begun (Checkpoint r) cause = absurd cause
    not_begun (SmallLists key) cause = absurd cause
    not_begun (Table n r) cause = absurd cause
    not_begun (UnreadTable n) cause = absurd cause
    not_begun (Litmus x) cause = absurd cause
    not_begun UnreadTest cause = absurd cause
    not_begun WriteFault cause = absurd cause

-- ---- an image with which the machine, or the flat machine, has a start

pub takes_image : (t : TreeValue) (told : Option (List ℕ)) (i : ImageValue) → HasImage t told i → start_refusal t i ≡ None → Accepts (parts_in t) told
takes_image t None i has accepted = tt
takes_image t (Some file) i has accepted = some_parts file t i has accepted

begins : (t : TreeValue) (told : Option (List ℕ)) (i : ImageValue) (reader : ReaderView) → HasImage t told i → reader ≡ begun (setting_of t i) → check.start_refusal (setting_of t i) ≡ None → BeginsFor t told reader
begins t told i reader has is starts = record { setting = setting_of t i; begins = is; starts = starts; is = by told has } where
  by : (o : Option (List ℕ)) → HasImage t o i → IfSome o (λ file. setting_in t file ≡ Some (setting_of t i))
  by None has = tt
  by (Some file) has = setting_started t i file has starts

pub begins_for : {E : Type 0} (t : TreeValue) (told : Option (List ℕ)) (i : ImageValue) (r : Result ReaderView E) → HasImage t told i → IfOk r (λ reader. reader ≡ begun (setting_of t i)) → IfOk r (λ reader. check.start_refusal (setting_of t i) ≡ None) → IfOk r (BeginsFor t told)
begins_for t told i (Ok reader) has is starts = begins t told i reader has is starts
begins_for t told i (Err e) has is starts = tt
