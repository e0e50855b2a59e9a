-- The fault lines of tables, each by the number of its file and, where it is refused in a line, of that.
use Rattle.std.specs.Prelude.{ℕ, List, ◌++◌, codes, decimal}
use Rattle.joining.specs.JoinModel.declared.table.TableRefusal.{TableRefusal}
use Rattle.joining.specs.JoinModel.declared.table.TableRefusal.TheVariants.{TooLong, BadLine, NoEnd, AfterEnd, OtherKind, TooManyRuns}

abbrev pub whole : ℕ → List ℕ → List ℕ
whole n words = codes "ddm: table " ++ decimal n ++ codes ": " ++ words ++ codes "\n"

abbrev pub in_line : ℕ → ℕ → List ℕ → List ℕ
in_line n line words = codes "ddm: table " ++ decimal n ++ codes " line " ++ decimal line ++ codes ": " ++ words ++ codes "\n"

abbrev pub table_line : ℕ → TableRefusal → List ℕ
table_line n TooLong = whole n (codes "too long")
table_line n (BadLine line) = in_line n line (codes "bad line")
table_line n (NoEnd line) = in_line n line (codes "no end")
table_line n (AfterEnd line) = in_line n line (codes "after end")
table_line n OtherKind = whole n (codes "other kind")
table_line n TooManyRuns = whole n (codes "too many runs")

abbrev pub unread_table_line : ℕ → List ℕ
unread_table_line n = codes "ddm: cannot read table " ++ decimal n ++ codes "\n"
