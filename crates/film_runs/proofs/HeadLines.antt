-- The numbers of a tree from a level on, and the lines of items from one on.
use Rattle.std.proofs.Common.{◌≡◌, ℕ, zero, suc, ◌+◌, ◌<◌, ◌≤◌, Some, List, [], ◌∷◌, ◌++◌, drop, length, flat_map, get_or, refl, sym, ap, subst, ◌∙◌, append_assoc, arith}
use Rattle.std.specs.Prelude.{slice_get}
use Rattle.std.proofs.lemmas.List.{drop_all, drop_more}
use Rattle.film_runs.specs.DdmTypes.ItemTable.{ItemRow, no_row}
use Rattle.film_runs.specs.FilmModel.Film.{item_line, item_lines}
use Rattle.film_runs.specs.FilmModel.Part.{number_text}

-- ---- levels

abbrev pub all_widths : List (List ℕ) → List ℕ
all_widths levels = flat_map number_text (flat_map (λ l. l) levels)

texts_of_both : (ks ns : List ℕ) → flat_map number_text (ks ++ ns) ≡ flat_map number_text ks ++ flat_map number_text ns
texts_of_both [] ns = refl
texts_of_both (k ∷ ks) ns = ap (λ (x : List ℕ). number_text k ++ x) (texts_of_both ks ns) ∙ sym (append_assoc (number_text k) (flat_map number_text ks) (flat_map number_text ns))

widths_after : (ls : List (List ℕ)) (k : ℕ) (l : List ℕ) → Some l ≡ slice_get ls k → all_widths (drop k ls) ≡ flat_map number_text l ++ all_widths (drop (suc k) ls)
widths_after [] zero l is = cc
widths_after [] (suc k) l is = cc
widths_after (m ∷ ls) zero l is = let same : m ≡ l = cc in texts_of_both m (flat_map (λ l. l) ls) ∙ ap (λ (n : List ℕ). flat_map number_text n ++ all_widths ls) same
widths_after (m ∷ ls) (suc k) l is = widths_after ls k l is

pub widths_next : (ls : List (List ℕ)) (k : ℕ) (l : List ℕ) → Some l ≡ slice_get ls k → all_widths (drop k ls) ≡ flat_map number_text l ++ all_widths (drop (k + 1) ls)
widths_next ls k l is = subst (λ n. all_widths (drop k ls) ≡ flat_map number_text l ++ all_widths (drop n ls)) {x = suc k} {y = k + 1} (omega arith) (widths_after ls k l is)

pub widths_end : (ls : List (List ℕ)) (k : ℕ) → length ls ≤ k → all_widths (drop k ls) ≡ []
widths_end ls k past = ap all_widths (drop_all k ls past)

-- ---- items

pub lines_next : (rows : List ItemRow) (k : ℕ) → k < length rows → item_lines k (drop k rows) ≡ item_line k (get_or rows k no_row) ++ item_lines (k + 1) (drop (k + 1) rows)
unfolding item_lines
lines_next rows k inside = ap (item_lines k) (drop_more rows k no_row inside)

pub lines_end : (rows : List ItemRow) (k : ℕ) → length rows ≤ k → item_lines k (drop k rows) ≡ []
unfolding item_lines
lines_end rows k past = ap (item_lines k) (drop_all k rows past)
