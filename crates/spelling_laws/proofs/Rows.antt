-- Lists that are made along a range: one place of it gives one element more, and nothing is behind that.
use Rattle.std.specs.Prelude.{◌≡◌, ℕ, zero, suc, ◌+◌, ◌<◌, ◌≤◌, List, [], ◌∷◌, ◌++◌, Option, Some, None, filter_map, option_to_list, refl}
use Rattle.std.specs.List.{flat_map, range_with_len}
use Rattle.std.proofs.Common.{ap, sym, ◌∙◌, subst, arith, append_assoc, append-nil}
use Rattle.std.proofs.lemmas.Bool.{cases_order}
use Rattle.std.proofs.Common.{inl, inr}

module _ {X : Type 0} where
  pub filter_map-flat : {Y : Type 0} (f : Y → Option X) (ys : List Y) → filter_map f ys ≡ flat_map (λ y. option_to_list (f y)) ys
  filter_map-flat f [] = refl
  filter_map-flat f (y ∷ ys) =
      elim (f y) as (λ o. f y ≡ o → filter_map f (y ∷ ys) ≡ option_to_list (f y) ++ flat_map (λ y. option_to_list (f y)) ys) [
        | Some x ↦ λ e. rw e (ap (λ l. x ∷ l) (filter_map-flat f ys))
        | None ↦ λ e. rw e (filter_map-flat f ys)
      ] refl

  pub nothing-along : (F : ℕ → List X) (start count bound : ℕ) → start + count ≡ bound → ((w : ℕ) → start ≤ w → w < bound → F w ≡ []) → flat_map F (range_with_len start count) ≡ []
  nothing-along F start zero bound size none = refl
  nothing-along F start (suc count) bound size none =
      let here : F start ≡ [] = none start (omega arith) (omega (arith, size)) in
      rw here (nothing-along F (start + 1) count bound (omega (arith, size)) (λ w le lt. none w (omega (arith, le)) lt))

  module _ (F G : ℕ → List X) (b : ℕ) (x : X) where
    -- the lists at b and around it
    pub record OneGrows (bound : ℕ) : Type 0 where
      pub below : (w : ℕ) → w < b → G w ≡ F w
      pub here : G b ≡ F b ++ x ∷ []
      pub old_past : (w : ℕ) → b < w → w < bound → F w ≡ []
      pub new_past : (w : ℕ) → b < w → w < bound → G w ≡ []

    pub one-grows : (start count bound : ℕ) → start + count ≡ bound → start ≤ b → b < bound → OneGrows bound → flat_map G (range_with_len start count) ≡ flat_map F (range_with_len start count) ++ x ∷ []
    one-grows start zero bound size first last h = absurd (omega (arith, size, first, last))
    one-grows start (suc count) bound size first last h =
        elim (cases_order start b) [
          | inl same ↦
              let new = nothing-along G (start + 1) count bound (omega (arith, size)) (λ w le lt. h.new_past w (omega (arith, le, same)) lt) in
              let old = nothing-along F (start + 1) count bound (omega (arith, size)) (λ w le lt. h.old_past w (omega (arith, le, same)) lt) in
              let here : G start ≡ F start ++ x ∷ [] = subst (λ w. G w ≡ F w ++ x ∷ []) (sym same) h.here in
              rw (new, old, here) (append-nil (F start ++ x ∷ []) ∙ ap (λ l. l ++ x ∷ []) (sym (append-nil (F start))))
          | inr other ↦ elim other [
            | inl less ↦
                let more = one-grows (start + 1) count bound (omega (arith, size)) (omega (arith, less)) last h in
                ap (λ l. l ++ flat_map G (range_with_len (start + 1) count)) (h.below start less) ∙ ap (λ l. F start ++ l) more ∙ sym (append_assoc (F start) (flat_map F (range_with_len (start + 1) count)) (x ∷ []))
            | inr more ↦ absurd (omega (arith, first, more))
          ]
        ]
