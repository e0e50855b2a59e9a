-- A walk over places of a list where elements pass, each place behind the one before: when as many were met as there are, all were.
-- Letters: es is the list, p the test, f the kind of an element, facts what is gathered of the kinds.
use Rattle.std.proofs.Common.{◌≡◌, ◌≤◌, ◌<◌, ℕ, zero, suc, ◌+◌, ◌++◌, Bool, true, false, cond, List, [], ◌∷◌, length, take, filter, refl, sym, ap, ◌∙◌, arith, add-one, append-nil, map}
use Rattle.std.specs.Prelude.{◌&&◌, nat_le, slice_get, Option, Some, None, count_by, if◌then◌else◌}
use Rattle.std.proofs.lemmas.List.{length-append, length-map, take_all}
use Rattle.std.proofs.lemmas.Bool.{and_parts, leb-true}
use Rattle.std.proofs.lemmas.List.Sums.{length-filter}
use Rattle.directory.specs.DdmTypes.declared.answers.TxKind.{TxKind}
use Rattle.directory.specs.TreeModel.State.Lists.{names_item}
use Rattle.directory.specs.Listed.{is_of_item}
use Rattle.directory.proofs.EntryKinds.{entry-at, passing, pushed}

module _ {X : Type 0} (f : X → TxKind) (p : X → Bool) where
  -- what passes before a place is the front of what passes before a later one
  front : (a b : ℕ) (es : List X) → a ≤ b → (rest : List TxKind) × (passing f p (take b es) ≡ passing f p (take a es) ++ rest)
  front zero b es le = (passing f p (take b es), refl)
  front (suc a) zero es le = absurd (omega (arith, le))
  front (suc a) (suc b) [] le = ([], refl)
  front (suc a) (suc b) (e ∷ es) le =
      let later = front a b es (omega (arith, le)) in
      (later.0, with_first (p e) later.0 later.1)
    where
      with_first : (c : Bool) (rest : List TxKind) → passing f p (take b es) ≡ passing f p (take a es) ++ rest
          → map f (cond c (e ∷ filter p (take b es)) (filter p (take b es))) ≡ map f (cond c (e ∷ filter p (take a es)) (filter p (take a es))) ++ rest
      with_first true rest is = ap (λ ks. f e ∷ ks) is
      with_first false rest is = is

  no_rest : (rest : List TxKind) → length rest ≡ 0 → rest ≡ []
  no_rest [] e = refl
  no_rest (k ∷ rest) e = cc

  -- where they are as many they are the same
  same-front : (a b : ℕ) (es : List X) → a ≤ b → length (passing f p (take b es)) ≤ length (passing f p (take a es)) → passing f p (take b es) ≡ passing f p (take a es)
  same-front a b es le few =
      let parts = front a b es le in
      let long : length (passing f p (take b es)) ≡ length (passing f p (take a es)) + length parts.0 = ap length parts.1 ∙ length-append (passing f p (take a es)) parts.0 in
      let none : length parts.0 ≡ 0 = omega (arith, long, few) in
      parts.1 ∙ ap (λ r. passing f p (take a es) ++ r) (no_rest parts.0 none) ∙ append-nil (passing f p (take a es))

  front-few : (a b : ℕ) (es : List X) → a ≤ b → length (passing f p (take a es)) ≤ length (passing f p (take b es))
  front-few a b es le =
      let parts = front a b es le in
      let long : length (passing f p (take b es)) ≡ length (passing f p (take a es)) + length parts.0 = ap length parts.1 ∙ length-append (passing f p (take a es)) parts.0 in
      omega (arith, long)

  module _ {F : Type 0} (facts : List TxKind → F) (es : List X) where
    -- So many were met, all before the place `least`. Were they all there are before it, they would be what was gathered.
    pub record Walked (number least : ℕ) (now : F) : Type 0 where
      pub most : number ≤ length (passing f p (take least es))
      pub whole : number ≡ length (passing f p (take least es)) → now ≡ facts (passing f p (take least es))

    pub walk-begun : (now : F) → now ≡ facts [] → Walked 0 0 now
    walk-begun now is = record { most = omega arith; whole = λ e. is }

    pub walk-further : (number least place : ℕ) (before next : F) → Walked number least before → least ≤ place → place < length es
        → (e : X) → slice_get es place ≡ Some e → p e ≡ true → ((q : List TxKind) → before ≡ facts q → next ≡ facts (q ++ f e ∷ [])) → Walked (number + 1) (place + 1) next
    walk-further number least place before next walked behind inside e is passes told =
        let here = entry-at f p place es inside in
        let same_entry : Some here.0 ≡ Some e = sym here.1 ∙ is in
        let same : here.0 ≡ e = cc in
        let more : passing f p (take (place + 1) es) ≡ passing f p (take place es) ++ f e ∷ [] =
        ap (λ n. passing f p (take n es)) (add-one place) ∙ ap (passing f p) here.2 ∙ pushed f p (take place es) here.0
        ∙ ap (λ d. if p d then passing f p (take place es) ++ f d ∷ [] else passing f p (take place es)) same
        ∙ ap (λ b. if b then passing f p (take place es) ++ f e ∷ [] else passing f p (take place es)) passes in
        let long : length (passing f p (take (place + 1) es)) ≡ length (passing f p (take place es)) + 1 = ap length more ∙ length-append (passing f p (take place es)) (f e ∷ []) in
        let few = front-few least place es behind in
        record {
          most = omega (arith, walked.most, few, long);
          whole = λ all. told (passing f p (take place es)) (earlier all long few) ∙ ap facts (sym more);
        }
      where
        earlier : number + 1 ≡ length (passing f p (take (place + 1) es)) → length (passing f p (take (place + 1) es)) ≡ length (passing f p (take place es)) + 1
            → length (passing f p (take least es)) ≤ length (passing f p (take place es)) → before ≡ facts (passing f p (take place es))
        earlier all long few =
            let reached : number ≡ length (passing f p (take least es)) = omega (arith, all, long, few, walked.most) in
            let none_between : length (passing f p (take place es)) ≤ length (passing f p (take least es)) = omega (arith, all, long, walked.most) in
            walked.whole reached ∙ ap facts (sym (same-front least place es behind none_between))

    -- when as many were met as pass in all
    pub walk-ended : (number least : ℕ) (now : F) → Walked number least now → number ≡ count_by p es → now ≡ facts (passing f p es)
    walk-ended number least now walked all = whole_list
      where
        most : ℕ
        most = length es + least

        everything : take most es ≡ es
        everything = take_all most es (omega arith)

        long : length (passing f p (take most es)) ≡ count_by p es
        long = ap (λ ds. length (passing f p ds)) everything ∙ length-map (filter p es) f ∙ length-filter p es

        whole_list : now ≡ facts (passing f p es)
        whole_list =
            let few = front-few least most es (omega arith) in
            let reached : number ≡ length (passing f p (take least es)) = omega (arith, all, long, few, walked.most) in
            let none_behind : length (passing f p (take most es)) ≤ length (passing f p (take least es)) = omega (arith, all, long, walked.most) in
            walked.whole reached ∙ ap facts (sym (same-front least most es (omega arith) none_behind) ∙ ap (passing f p) everything)

-- ---- one entry more, where one of the item stands

module _ {X F : Type 0} (f : X → TxKind) (named : X → ℕ) (x : ℕ) (facts : List TxKind → F) (es : List X) where
  some-entry : (o : Option X) → is_of_item named x o ≡ true → (e : X) × (o ≡ Some e) × (names_item named x e ≡ true)
  some-entry None h = cc
  some-entry (Some e) h = (e, refl, h)

  within : (i : ℕ) (ds : List X) (e : X) → slice_get ds i ≡ Some e → i < length ds
  within zero [] e h = cc
  within (suc i) [] e h = cc
  within zero (d ∷ ds) e h = omega arith
  within (suc i) (d ∷ ds) e h = let rest = within i ds e h in omega (arith, rest)

  pub entry-more : (number least place stood : ℕ) (before next : F) → Walked f (names_item named x) facts es number least before
      → (nat_le least place && is_of_item named x (slice_get es place)) ≡ true
      → ((e : X) (q : List TxKind) → slice_get es place ≡ Some e → before ≡ facts q → next ≡ facts (if names_item named x e then q ++ f e ∷ [] else q))
      → stood ≡ place → Walked f (names_item named x) facts es (number + 1) (stood + 1) next
  entry-more number least place stood before next walked stands told same =
      let both = and_parts (nat_le least place) (is_of_item named x (slice_get es place)) stands in
      let here = some-entry (slice_get es place) both.1 in
      rw same (walk-further f (names_item named x) facts es number least place before next walked (leb-true least place both.0) (within place es here.0 here.1) here.0 here.1 here.2 (added here.0 here.1 here.2))
    where
      added : (e : X) → slice_get es place ≡ Some e → names_item named x e ≡ true → (q : List TxKind) → before ≡ facts q → next ≡ facts (q ++ f e ∷ [])
      added e is passes q gathered = told e q is gathered ∙ ap (λ b. facts (if b then q ++ f e ∷ [] else q)) passes
