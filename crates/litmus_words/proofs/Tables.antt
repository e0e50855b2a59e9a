-- Searches in tables of texts, one text more at a time: what is left decides.
use Rattle.std.proofs.Common.{◌≡◌, ℕ, ◌+◌, ◌<◌, ◌≤◌, List, length, drop, get_or, refl}
use Rattle.std.specs.Prelude.{true, false, bytes_eq}
use Rattle.std.specs.Borrow.{Bor}
use Rattle.std.specs.List.{position_or_len}
use Rattle.std.proofs.lemmas.List.{drop_all, drop_more, length-map}
use Rattle.litmus_words.specs.Tables.{texts_of}

pub text_next : (w : List ℕ) (texts : List (Bor (List ℕ))) (k : ℕ) (d : Bor (List ℕ)) → k < length texts → bytes_eq w (get_or texts k d).now ≡ false
    → position_or_len (bytes_eq w) (texts_of (drop k texts)) ≡ 1 + position_or_len (bytes_eq w) (texts_of (drop (k + 1) texts))
text_next w texts k d inside fails = rw (drop_more texts k d inside, fails) refl

pub text_found : (w : List ℕ) (texts : List (Bor (List ℕ))) (k : ℕ) (d : Bor (List ℕ)) → k < length texts → bytes_eq w (get_or texts k d).now ≡ true
    → position_or_len (bytes_eq w) (texts_of (drop k texts)) ≡ 0
text_found w texts k d inside passes = rw (drop_more texts k d inside, passes) refl

pub text_done : (w : List ℕ) (texts : List (Bor (List ℕ))) (k : ℕ) → length texts ≤ k → position_or_len (bytes_eq w) (texts_of (drop k texts)) ≡ 0
text_done w texts k past = rw (drop_all k texts past) refl

pub as_many_texts : (texts : List (Bor (List ℕ))) → length (texts_of texts) ≡ length texts
as_many_texts texts = length-map texts (λ (t : Bor (List ℕ)). t.now)
