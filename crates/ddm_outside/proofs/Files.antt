-- What a raised count of one file changes, and what the place of a name says.
use Rattle.std.proofs.Common.{◌≡◌, ◌≢◌, ℕ, suc, zero, ◌<◌, ◌≤◌, Bool, true, false, cond, List, [], ◌∷◌, length, get_or, set, Option, Some, None, refl, sym, ◌∙◌, ap, subst, arith}
use Rattle.std.specs.Prelude.{bytes_eq, All, IsSome, IsNone}
use Rattle.std.proofs.lemmas.Slice.Eq.{bytes_eq-Decides}
use Rattle.std.specs.Option.{option_map}
use Rattle.ddm_outside.specs.declared.named_file.NamedFile.{NamedFile}
use Rattle.ddm_outside.specs.NamedFiles.{place_of, bytes_of, faults_of}

-- the file with another count
abbrev pub counted : NamedFile → ℕ → NamedFile
counted f g = record { name = f.name; bytes = f.bytes; faults = g }

pub bytes_counted : (fs : List NamedFile) (i g : ℕ) (f : NamedFile) (name : List ℕ) → f ≡ get_or fs i f → bytes_of (set fs i (counted f g)) name ≡ bytes_of fs name
bytes_counted [] i g f name e = refl
bytes_counted (h ∷ hs) zero g f name e = ap (λ (x : NamedFile). cond (bytes_eq x.name name) (Some x.bytes.items) (bytes_of hs name)) e
bytes_counted (h ∷ hs) (suc i) g f name e = ap (λ o. cond (bytes_eq h.name name) (Some h.bytes.items) o) (bytes_counted hs i g f name e)

cond_later : (b : Bool) (x y z w : ℕ) → x ≤ y → z ≤ w → cond b x z ≤ cond b y w
cond_later true x y z w p q = p
cond_later false x y z w p q = q

pub faults_counted : (u : ℕ) (fs : List NamedFile) (i g : ℕ) (f : NamedFile) (name : List ℕ) → f ≡ get_or fs i f → f.faults ≤ g → faults_of u fs name ≤ faults_of u (set fs i (counted f g)) name
faults_counted u [] i g f name e le = omega arith
faults_counted u (h ∷ hs) zero g f name e le =
    let rest = faults_of u hs name in
    subst (λ (x : NamedFile). cond (bytes_eq x.name name) x.faults rest ≤ cond (bytes_eq f.name name) g rest) e
    (cond_later (bytes_eq f.name name) f.faults g rest rest le (omega arith))
faults_counted u (h ∷ hs) (suc i) g f name e le =
    cond_later (bytes_eq h.name name) h.faults h.faults _ _ (omega arith) (faults_counted u hs i g f name e le)

pub faults_unknown : (u v : ℕ) (fs : List NamedFile) (name : List ℕ) → u ≤ v → faults_of u fs name ≤ faults_of v fs name
faults_unknown u v [] name le = le
faults_unknown u v (h ∷ hs) name le = cond_later (bytes_eq h.name name) h.faults h.faults _ _ (omega arith) (faults_unknown u v hs name le)

-- all counts are 0
pub faults_zero : (fs : List NamedFile) (name : List ℕ) → All (λ (f : NamedFile). f.faults ≡ 0) fs → faults_of 0 fs name ≡ 0
faults_zero [] name all = refl
faults_zero (h ∷ hs) name all = at_test (bytes_eq h.name name) (all 0 h (omega arith)) (faults_zero hs name (λ k d small. all (suc k) d (omega arith))) where
  at_test : (b : Bool) → h.faults ≡ 0 → faults_of 0 hs name ≡ 0 → cond b h.faults (faults_of 0 hs name) ≡ 0
  at_test true first rest = first
  at_test false first rest = rest

-- a name with no place is that of no file
pub bytes_none : (fs : List NamedFile) (name : List ℕ) → place_of fs name ≡ None → bytes_of fs name ≡ None
bytes_none [] name e = refl
bytes_none (h ∷ hs) name e = at_test (bytes_eq h.name name) (place_of hs name) refl e (λ q. bytes_none hs name q) where
  at_test : (b : Bool) (p : Option ℕ) → place_of hs name ≡ p → cond b (Some 0) (option_map suc p) ≡ None → (place_of hs name ≡ None → bytes_of hs name ≡ None) → cond b (Some h.bytes.items) (bytes_of hs name) ≡ None
  at_test true p q r more = cc
  at_test false None q r more = more q
  at_test false (Some k) q r more = cc

-- a name of no file has the common count
pub faults_none : (u : ℕ) (fs : List NamedFile) (name : List ℕ) → IsNone (bytes_of fs name) → faults_of u fs name ≡ u
faults_none u [] name e = refl
faults_none u (h ∷ hs) name e = at_test (bytes_eq h.name name) e (λ q. faults_none u hs name q) where
  at_test : (b : Bool) → IsNone (cond b (Some h.bytes.items) (bytes_of hs name)) → (IsNone (bytes_of hs name) → faults_of u hs name ≡ u) → cond b h.faults (faults_of u hs name) ≡ u
  at_test true e more = cc
  at_test false e more = more e

-- a name of a file doesn't have it
pub faults_some : (u v : ℕ) (fs : List NamedFile) (name : List ℕ) → IsSome (bytes_of fs name) → faults_of v fs name ≡ faults_of u fs name
faults_some u v [] name e = cc
faults_some u v (h ∷ hs) name e = at_test (bytes_eq h.name name) e (λ q. faults_some u v hs name q) where
  at_test : (b : Bool) → IsSome (cond b (Some h.bytes.items) (bytes_of hs name)) → (IsSome (bytes_of hs name) → faults_of v hs name ≡ faults_of u hs name) → cond b h.faults (faults_of v hs name) ≡ cond b h.faults (faults_of u hs name)
  at_test true e more = refl
  at_test false e more = more e

not_same : (a b : List ℕ) → a ≢ b → bytes_eq a b ≡ false
not_same a b differ = at_test (bytes_eq a b) refl where
  at_test : (v : Bool) → bytes_eq a b ≡ v → v ≡ false
  at_test true e = let same = bytes_eq-Decides a b in absurd (differ (same.0 e))
  at_test false e = refl

-- what the file at the place of a name is
pub record IsNamed (u : ℕ) (fs : List NamedFile) (name : List ℕ) (i : ℕ) : Type 0 where
  pub inside : i < length fs
  pub bytes : (f : NamedFile) → f ≡ get_or fs i f → bytes_of fs name ≡ Some f.bytes.items
  pub faults : (f : NamedFile) → f ≡ get_or fs i f → faults_of u fs name ≡ f.faults
  pub counts : (f : NamedFile) (g : ℕ) → f ≡ get_or fs i f → faults_of u (set fs i (counted f g)) name ≡ g
  pub others : (f : NamedFile) (g : ℕ) (other : List ℕ) → f ≡ get_or fs i f → other ≢ name → faults_of u (set fs i (counted f g)) other ≡ faults_of u fs other

pub place_is : (u : ℕ) (fs : List NamedFile) (name : List ℕ) (i : ℕ) → place_of fs name ≡ Some i → IsNamed u fs name i
place_is u [] name i e = absurd (none_some e) where
  none_some : {k : ℕ} → None ≡ Some k → ⊥
  none_some q = cc
place_is u (h ∷ hs) name i e = at_test (bytes_eq h.name name) refl (place_of hs name) refl e (λ k q. place_is u hs name k q) where
  here : bytes_eq h.name name ≡ true → IsNamed u (h ∷ hs) name 0
  here t = record {
    inside = omega arith;
    bytes = λ f q. rw (t, q) refl;
    faults = λ f q. rw (t, q) refl;
    counts = λ f g q. rw (q, t) refl;
    others = λ f g other q differ.
        let same = bytes_eq-Decides h.name name in
        let apart = not_same h.name other (λ e. differ (sym e ∙ same.0 t)) in
        rw (q, apart) refl;
  }

  there : (k : ℕ) → bytes_eq h.name name ≡ false → IsNamed u hs name k → IsNamed u (h ∷ hs) name (suc k)
  there k t n = record {
    inside = omega (arith, n.inside);
    bytes = λ f q. rw t (n.bytes f q);
    faults = λ f q. rw t (n.faults f q);
    counts = λ f g q. rw t (n.counts f g q);
    others = λ f g other q differ. ap (λ o. cond (bytes_eq h.name other) h.faults o) (n.others f g other q differ);
  }

  at_test : (b : Bool) → bytes_eq h.name name ≡ b → (p : Option ℕ) → place_of hs name ≡ p → cond b (Some 0) (option_map suc p) ≡ Some i → ((k : ℕ) → place_of hs name ≡ Some k → IsNamed u hs name k) → IsNamed u (h ∷ hs) name i
  at_test true t p q r more = let z : 0 ≡ i = cc in subst (IsNamed u (h ∷ hs) name) z (here t)
  at_test false t (Some k) q r more = let z : suc k ≡ i = cc in subst (IsNamed u (h ∷ hs) name) z (there k t (more k q))
  at_test false t None q r more = cc
