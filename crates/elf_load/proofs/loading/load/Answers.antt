use Rattle.std.proofs.Common.{◌≡◌, Ok, Err, None, ap, sym, ◌∙◌, inl, inr, ◌⊎◌}
use Rattle.std.proofs.lemmas.Result.{IfOk-weaker, IfErr-weaker}
use Rattle.tree_model.specs.Start.Sources.{ImageValue}
use Rattle.elf_load.specs.declared.refusal.ImageRefusal.{ImageRefusal}
use Rattle.elf_load.specs.ElfFile.{image_in, image_of, judged_entry, loaded_headers, sizes_refusal}
use Rattle.elf_load.proofs.Judged.{image_passes, sizes_refused}
use Rattle.elf_load.proofs.loading.load.Goals as goal

pub returns-in-Some-clause-refused : goal.returns-in-Some-clause-refused
returns-in-Some-clause-refused c =
    let read = c.in_ok-loaded.ensures.read in
    inr
    (sizes_refused c.args.item_bytes c.args.bytes.now c.in-Some.refusal read.accepted read.judged
    (ap (sizes_refusal c.args.item_bytes) (sym (c.deref.ensures.value ∙ read.headers)) ∙ sym c.in_ok-refusal.ensures ∙ c.in-Some.is))

pub returns-clause-image : goal.returns-clause-image
returns-clause-image c =
    let file = c.args.bytes.now in
    let read = c.in_ok-loaded.ensures.read in
    let sized : sizes_refusal c.args.item_bytes (loaded_headers file) ≡ None = ap (sizes_refusal c.args.item_bytes) (sym (c.deref.ensures.value ∙ read.headers)) ∙ sym c.in_ok-refusal.ensures ∙ c.in-None.is in
    let passes = image_passes c.args.item_bytes file read.accepted read.judged sized in
    IfOk-weaker c.image_in.result
    (λ (image : ImageValue). judged_entry (image_in file) ≡ Ok image)
    (λ (image : ImageValue). image_of c.args.item_bytes file ≡ Ok image)
    (λ image e. passes ∙ e)
    c.image_in.ensures.image

pub returns-clause-refused : goal.returns-clause-refused
returns-clause-refused c =
    let file = c.args.bytes.now in
    let read = c.in_ok-loaded.ensures.read in
    let sized : sizes_refusal c.args.item_bytes (loaded_headers file) ≡ None = ap (sizes_refusal c.args.item_bytes) (sym (c.deref.ensures.value ∙ read.headers)) ∙ sym c.in_ok-refusal.ensures ∙ c.in-None.is in
    let passes = image_passes c.args.item_bytes file read.accepted read.judged sized in
    IfErr-weaker c.image_in.result
    (λ (refusal : ImageRefusal). (refusal ≡ ImageRefusal.NoMemory) ⊎ (judged_entry (image_in file) ≡ Err refusal))
    (λ (refusal : ImageRefusal). (refusal ≡ ImageRefusal.NoMemory) ⊎ (image_of c.args.item_bytes file ≡ Err refusal))
    (λ refusal e. elim e [ inl m ↦ inl m | inr h ↦ inr (passes ∙ h) ])
    c.image_in.ensures.refused
