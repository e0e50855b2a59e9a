-- Worked examples: two tables put together, and files that are refused.
use Rattle.std.specs.Prelude.{◌≡◌, ℕ, List, [], ◌∷◌, codes, Ok, Err}
use Rattle.join_model.specs.Table.{table_in}
use Rattle.join_model.specs.Files.{joined_text}
use Rattle.join_model.specs.declared.table.TableRefusal.{TableRefusal}
use Rattle.join_model.specs.declared.table.TableRefusal.TheVariants.{BadLine, NoEnd, AfterEnd, OtherKind, TooManyRuns}

pub record SmallJoins : Type 0 where
  -- the second table has an outcome of the first, with a smaller seed
  pub two :
      joined_text (codes "outcomes 2 runs 5\noutcome 3 7 a\noutcome 2 8 b c\nend\n"
      ∷ codes "outcomes 1 runs 2\noutcome 2 1 b c\nend\n" ∷ [])
      ≡ Ok (codes "outcomes 2 runs 7\noutcome 4 1 b c\noutcome 3 7 a\nend\n")
  pub alone : joined_text (codes "survey 0 runs 0\nend\n" ∷ []) ≡ Ok (codes "survey 0 runs 0\nend\n")
  pub other : joined_text (codes "survey 0 runs 0\nend\n" ∷ codes "outcomes 0 runs 0\nend\n" ∷ []) ≡ Err (2, OtherKind)
  pub many :
      joined_text (codes "outcomes 1 runs 18446744073709551615\noutcome 18446744073709551615 1 a\nend\n"
      ∷ codes "outcomes 1 runs 1\noutcome 1 1 a\nend\n" ∷ [])
      ≡ Err (2, TooManyRuns)
  pub second : joined_text (codes "outcomes 0 runs 0\nend\n" ∷ codes "outcomes 0 runs 0\n" ∷ []) ≡ Err (2, NoEnd 2)

abbrev pub Refused : List ℕ → TableRefusal → Type 0
Refused file r = table_in file ≡ Err r

pub record SmallRefusals : Type 0 where
  pub empty : Refused [] (NoEnd 1)
  pub cut : Refused (codes "outcomes 1 runs 2\noutcome 2 1 a") (NoEnd 2)
  pub heading : Refused (codes "outcome 1 runs 2\noutcome 2 1 a\nend\n") (BadLine 1)
  pub zero : Refused (codes "outcomes 1 runs 02\noutcome 2 1 a\nend\n") (BadLine 1)
  pub none : Refused (codes "outcomes 1 runs 0\noutcome 0 1 a\nend\n") (BadLine 2)
  pub short_of_lines : Refused (codes "outcomes 2 runs 2\noutcome 2 1 a\nend\n") (BadLine 3)
  pub more_lines : Refused (codes "outcomes 1 runs 2\noutcome 2 1 a\noutcome 1 2 b\nend\n") (BadLine 3)
  pub more_runs : Refused (codes "outcomes 1 runs 2\noutcome 3 1 a\nend\n") (BadLine 2)
  pub fewer_runs : Refused (codes "outcomes 1 runs 2\noutcome 1 1 a\nend\n") (BadLine 3)
  pub seed : Refused (codes "outcomes 1 runs 2\noutcome 2 18446744073709551616 a\nend\n") (BadLine 2)
  pub behind : Refused (codes "outcomes 1 runs 2\noutcome 2 1 a\nend\n\n") (AfterEnd 4)
