use Rattle.std.proofs.Common.{◌≡◌, List, [], length, None, ap, subst, sym, ◌∙◌, inr}
use Rattle.std.specs.Prelude.{filter}
use Rattle.elf_load.specs.declared.headers.ProgramHeader.{ProgramHeader}
use Rattle.elf_load.specs.ElfFile.{has_memory, headers_of, headers_refusal, loaded_headers}
use Rattle.elf_load.specs.HeaderRule.{IsRead}
use Rattle.elf_load.proofs.Judged.{headers_refused, is_read}
use Rattle.elf_load.proofs.loading.read_headers.Goals as goal

pub returns-in-Some-headers_refusal-clause-refused : goal.returns-in-Some-headers_refusal-clause-refused
returns-in-Some-headers_refusal-clause-refused c =
    let file = c.args.file.now in
    let headers = c.deref.ensures.value ∙ c.in_ok-headers.ensures in
    inr
    (λ item_bytes.
    headers_refused item_bytes file c.in-Some-headers_refusal.refusal (sym c.in-None.ensures)
    (ap (headers_refusal (length file) []) (sym headers) ∙ sym c.in-Some-headers_refusal.ensures))

pub returns-clause-read : goal.returns-clause-read
unfolding loaded_headers
returns-clause-read c =
    let file = c.args.file.now in
    let headers = c.deref.ensures.value ∙ c.in_ok-headers.ensures in
    let judged : headers_refusal (length file) [] (headers_of file) ≡ None = ap (headers_refusal (length file) []) (sym headers) ∙ sym c.in-None-headers_refusal.ensures in
    let kept : c.keep_loaded.new.headers.items ≡ loaded_headers file = c.keep_loaded.ensures ∙ ap (filter has_memory) c.in_ok-headers.ensures in
    let P : List ProgramHeader → Type 0 = λ loaded. IsRead file loaded in
    subst P (sym kept) (is_read file (sym c.in-None.ensures) judged)
