use Rattle.std.specs.Prelude.{ℕ}
use Rattle.ddm_outside.specs.declared.file_shelf.FileShelf.{FileShelf}

-- how often a read has failed
abbrev pub count_of : {R File Dir : Type 0} → FileShelf R File Dir → ℕ
count_of shelf = shelf.faults
