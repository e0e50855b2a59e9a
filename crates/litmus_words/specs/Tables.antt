-- Tables of texts, and the digits of a thread's name.
use Rattle.std.specs.Prelude.{ℕ, List, map, take, drop, bytes_eq, codes, if◌then◌else◌}
use Rattle.std.specs.Borrow.{Bor}

abbrev pub texts_of : List (Bor (List ℕ)) → List (List ℕ)
texts_of texts = map (λ (t : Bor (List ℕ)). t.now) texts

-- `0` or `P0` without the `P`
unfoldable pub digits_in : List ℕ → List ℕ
digits_in w = if bytes_eq (take 1 w) (codes "P") then drop 1 w else w
