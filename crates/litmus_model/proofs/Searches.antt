-- Searches in a list, one element more at a time: what is left decides.
use Rattle.std.proofs.Common.{◌≡◌, ℕ, ◌+◌, ◌<◌, ◌≤◌, List, length, drop, get_or, refl, add-one}
use Rattle.std.specs.Prelude.{Bool, true, false, find, Some, None}
use Rattle.std.specs.List.{list_any, position_or_len}
use Rattle.std.proofs.Math.Seq.{drop-cons}
use Rattle.std.proofs.Math.ListN.{drop_of_length-le}

pub any_next : {A : Type 0} (p : A → Bool) (xs : List A) (k : ℕ) (d : A) → k < length xs → p (get_or xs k d) ≡ false → list_any p (drop k xs) ≡ list_any p (drop (k + 1) xs)
any_next p xs k d inside fails = rw (add-one, drop-cons xs k d inside, fails) refl

pub any_found : {A : Type 0} (p : A → Bool) (xs : List A) (k : ℕ) (d : A) → k < length xs → p (get_or xs k d) ≡ true → list_any p (drop k xs) ≡ true
any_found p xs k d inside passes = rw (drop-cons xs k d inside, passes) refl

pub any_done : {A : Type 0} (p : A → Bool) (xs : List A) (k : ℕ) → length xs ≤ k → list_any p (drop k xs) ≡ false
any_done p xs k past = rw (drop_of_length-le xs past) refl

pub find_next : {A : Type 0} (p : A → Bool) (xs : List A) (k : ℕ) (d : A) → k < length xs → p (get_or xs k d) ≡ false → find p (drop k xs) ≡ find p (drop (k + 1) xs)
find_next p xs k d inside fails = rw (add-one, drop-cons xs k d inside, fails) refl

pub find_found : {A : Type 0} (p : A → Bool) (xs : List A) (k : ℕ) (d : A) → k < length xs → p (get_or xs k d) ≡ true → find p (drop k xs) ≡ Some (get_or xs k d)
find_found p xs k d inside passes = rw (drop-cons xs k d inside, passes) refl

pub find_done : {A : Type 0} (p : A → Bool) (xs : List A) (k : ℕ) → length xs ≤ k → find p (drop k xs) ≡ None
find_done p xs k past = rw (drop_of_length-le xs past) refl

pub position_next : {A : Type 0} (p : A → Bool) (xs : List A) (k : ℕ) (d : A) → k < length xs → p (get_or xs k d) ≡ false → position_or_len p (drop k xs) ≡ 1 + position_or_len p (drop (k + 1) xs)
position_next p xs k d inside fails = rw (add-one, drop-cons xs k d inside, fails) refl

pub position_found : {A : Type 0} (p : A → Bool) (xs : List A) (k : ℕ) (d : A) → k < length xs → p (get_or xs k d) ≡ true → position_or_len p (drop k xs) ≡ 0
position_found p xs k d inside passes = rw (drop-cons xs k d inside, passes) refl

pub position_done : {A : Type 0} (p : A → Bool) (xs : List A) (k : ℕ) → length xs ≤ k → position_or_len p (drop k xs) ≡ 0
position_done p xs k past = rw (drop_of_length-le xs past) refl

-- Whether any element passes.
pub ruleset any_search = (any_next, any_found, any_done)

-- The first element that passes.
pub ruleset find_search = (find_next, find_found, find_done)

-- The place of the first element that passes.
pub ruleset position_search = (position_next, position_found, position_done)
