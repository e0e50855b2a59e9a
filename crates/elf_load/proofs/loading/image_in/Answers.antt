use Rattle.std.proofs.Common.{◌≡◌, ℕ, List, Ok, Err, ap, subst, sym, ◌∙◌, inr, All, AllPairs, refl, ◌⊎◌}
use Rattle.std.specs.Prelude.{IfOk}
use Rattle.std.proofs.lemmas.Result.{IfErr-weaker}
use Rattle.tree_model.specs.Start.Sources.{SegmentValue, ImageValue}
use Rattle.tree_model.specs.Start.Memory.{start_code}
use Rattle.elf_load.specs.declared.headers.ProgramHeader.{ProgramHeader}
use Rattle.elf_load.specs.declared.refusal.ImageRefusal.{ImageRefusal}
use Rattle.elf_load.specs.ElfFile.{entry_of, image_in, judged_entry, loaded_headers, segments_of}
use Rattle.elf_load.specs.ImageRule.{AreApart, EndsInside, FitsMemory, HasMemory, image_value}
use Rattle.elf_load.proofs.Judged.{segments_apart, segments_end, segments_fit, segments_full}
use Rattle.elf_load.proofs.loading.image_in.Goals as goal

pub code_of-requires-clause-ends : goal.code_of-requires-clause-ends
code_of-requires-clause-ends c =
    let P : List SegmentValue → Type 0 = λ segments. All EndsInside segments in
    subst P (sym (c.deref.ensures.value ∙ c.in_ok-segments.ensures)) (segments_end c.args.file.now c.args.loaded.now c.requires.rule)

pub code_of-requires-clause-apart : goal.code_of-requires-clause-apart
code_of-requires-clause-apart c =
    let P : List SegmentValue → Type 0 = λ segments. AllPairs AreApart segments in
    subst P (sym (c.deref.ensures.value ∙ c.in_ok-segments.ensures)) (segments_apart c.args.file.now c.args.loaded.now c.requires.rule)

pub code_of-requires-clause-full : goal.code_of-requires-clause-full
code_of-requires-clause-full c =
    let P : List SegmentValue → Type 0 = λ segments. All HasMemory segments in
    subst P (sym (c.deref.ensures.value ∙ c.in_ok-segments.ensures)) (segments_full c.args.file.now c.args.loaded.now c.requires.rule)

pub image_with-requires : goal.image_with-requires
image_with-requires c =
    let file = c.args.file.now in
    let loaded = c.args.loaded.now in
    let Fits : List SegmentValue → Type 0 = λ segments. All FitsMemory segments in
    let Ends : List SegmentValue → Type 0 = λ segments. All EndsInside segments in
    let Full : List SegmentValue → Type 0 = λ segments. All HasMemory segments in
    let Apart : List SegmentValue → Type 0 = λ segments. AllPairs AreApart segments in
    record {
      code = c.in_ok-code.ensures c.word_in.result ∙ ap (λ (segments : List SegmentValue). start_code (image_value c.word_in.result segments)) c.deref.ensures.value;
      fits = subst Fits (sym c.in_ok-segments.ensures) (segments_fit file loaded c.requires.rule);
      ends = subst Ends (sym c.in_ok-segments.ensures) (segments_end file loaded c.requires.rule);
      full = subst Full (sym c.in_ok-segments.ensures) (segments_full file loaded c.requires.rule);
      apart = subst Apart (sym c.in_ok-segments.ensures) (segments_apart file loaded c.requires.rule);
    }

-- the image that was made is the file's
value : (file : List ℕ) (loaded : List ProgramHeader) (entry : ℕ) (segments : List SegmentValue) → entry ≡ entry_of file → segments ≡ segments_of file loaded → loaded ≡ loaded_headers file → image_value entry segments ≡ image_in file
unfolding image_in
value file loaded entry segments e s l = rw (e, s, l) refl

pub returns-clause-image : goal.returns-clause-image
returns-clause-image c =
    let P : ImageValue → Type 0 = λ v. IfOk c.image_with.result (λ image. judged_entry v ≡ Ok image) in
    subst P (value c.args.file.now c.args.loaded.now c.word_in.result c.in_ok-segments.segments.items c.word_in.ensures c.in_ok-segments.ensures c.requires.headers) c.image_with.ensures.image

pub returns-clause-refused : goal.returns-clause-refused
returns-clause-refused c =
    let same = value c.args.file.now c.args.loaded.now c.word_in.result c.in_ok-segments.segments.items c.word_in.ensures c.in_ok-segments.ensures c.requires.headers in
    IfErr-weaker c.image_with.result
    (λ (refusal : ImageRefusal). judged_entry (image_value c.word_in.result c.in_ok-segments.segments.items) ≡ Err refusal)
    (λ (refusal : ImageRefusal). (refusal ≡ ImageRefusal.NoMemory) ⊎ (judged_entry (image_in c.args.file.now) ≡ Err refusal))
    (λ refusal e. inr (ap judged_entry (sym same) ∙ e))
    c.image_with.ensures.refused
