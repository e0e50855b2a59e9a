-- A directory keeps its form when the bus above tells it something, when the bus below makes something of it, and when either takes
-- something from it.
use Rattle.std.proofs.Common.{◌≡◌, ℕ, ◌+◌, ◌≤◌, Bool, true, false, cond, List, ◌∷◌, Option, Some, None, refl, subst, arith}
use Rattle.std.specs.Prelude.{IfSome, not, nat_eq, nat_lt, filter, map}
use Rattle.std.specs.List.{AllByRecursion}
use Rattle.value_laws.specs.DdmTypes.declared.answers.TxKind.{TxKind}
use Rattle.value_laws.specs.DdmTypes.declared.answers.TxKind.TheVariants.{ReadTx, DataTx, EraseTx, ExclusiveTx, InjectTx}
use Rattle.value_laws.specs.DdmTypes.declared.keys.Stamp.{Stamp}
use Rattle.value_laws.specs.DdmTypes.Keys.{stamp_zero, stamp_at}
use Rattle.value_laws.specs.TreeModel.State.Kinds.{goes_up}
use Rattle.value_laws.specs.TreeModel.State.Lists.{first_of}
use Rattle.value_laws.specs.TreeModel.State.States.{is_held}
use Rattle.value_laws.specs.TreeModel.State.Values.{RequestValue, DownValue, DirValue}
use Rattle.value_laws.specs.TreeModel.State.Leaf.{blank, is_request, is_copy, copy_words, words_of_item}
use Rattle.value_laws.specs.TreeModel.State.Directory.{is_top, dir_hold, parked_words, pushed_down, pushed_request, pushed_reply, with_parked, without_parked, struck, stamp_of, counted, front_taken, dir_lost, dir_lose, dir_take_data, dir_take_exclusive, dir_answer, dir_take_inject, dir_give_up}
use Rattle.value_laws.specs.Values.{AreWords, CopyHasForm, RequestHasForm, DownHasForm, StampHasForm, DirHasForm, comes_down}
use Rattle.value_laws.proofs.Lists.{all-filter, all-map, all-more, all-pushed, all-first, all-without_first}
use Rattle.value_laws.proofs.LeafForm.{blank-here}

-- ---- stamps

pub zero-form : (most : ℕ) → StampHasForm most stamp_zero
zero-form most = record { s0 = omega arith; s1 = omega arith; s2 = omega arith; s3 = omega arith }

pub stamp-more : (most : ℕ) (s : Stamp) → StampHasForm most s → StampHasForm (most + 1) s
stamp-more most s low = record { s0 = omega (arith, low.s0); s1 = omega (arith, low.s1); s2 = omega (arith, low.s2); s3 = omega (arith, low.s3) }

one-below : (b : Bool) (most a c : ℕ) → a ≤ most → c ≤ most → cond b a c ≤ most
one-below true most a c first second = first
one-below false most a c first second = second

pub stamp_at-form : (most : ℕ) (s : Stamp) (level n : ℕ) → StampHasForm most s → n ≤ most → StampHasForm most (stamp_at s level n)
stamp_at-form most s level n low small = record {
  s0 = one-below (nat_eq level 0) most n s.s0 small low.s0;
  s1 = one-below (nat_eq level 1) most n s.s1 small low.s1;
  s2 = one-below (nat_eq level 2) most n s.s2 small low.s2;
  s3 = one-below (nat_lt level 3) most s.s3 n low.s3 small;
}

module _ (width most : ℕ) where
  pub stamp_of-form : (d : DirValue) → DirHasForm width most d → StampHasForm most (stamp_of d)
  stamp_of-form d has = stamp_at-form most d.epoch d.level d.count has.epoch has.count

  -- ---- a higher bound

  down-more : (e : DownValue) → DownHasForm width most e → DownHasForm width (most + 1) e
  down-more e has = record { kind = has.kind; words = has.words; stamp = stamp-more most e.stamp has.stamp }

  pub dir-more : (d : DirValue) → DirHasForm width most d → DirHasForm width (most + 1) d
  dir-more d has = record {
    sizes = has.sizes;
    count = omega (arith, has.count);
    epoch = stamp-more most d.epoch has.epoch;
    down = all-more (DownHasForm width most) (DownHasForm width (most + 1)) down-more d.down has.down;
    requests = has.requests;
    replies = has.replies;
    parked = has.parked;
  }

  -- the turn that is granted now counts one more
  pub counted-form : (d : DirValue) → DirHasForm width most d → DirHasForm width (most + 1) (counted d)
  counted-form d has =
      let more = dir-more d has in
      record { sizes = more.sizes; count = omega (arith, has.count); epoch = more.epoch; down = more.down; requests = more.requests; replies = more.replies; parked = more.parked }

  front-form : (d : DirValue) (e : DownValue) (rest : List DownValue) → DirHasForm width most d → d.down ≡ e ∷ rest → AllByRecursion (DownHasForm width (most + 1)) (e ∷ rest)
  front-form d e rest has front = subst (AllByRecursion (DownHasForm width (most + 1))) front (dir-more d has).down

  pub front-entry : (d : DirValue) (e : DownValue) (rest : List DownValue) → DirHasForm width most d → d.down ≡ e ∷ rest → DownHasForm width (most + 1) e
  front-entry d e rest has front = (front-form d e rest has front).0

  pub front_taken-form : (d : DirValue) (e : DownValue) (rest : List DownValue) → DirHasForm width most d → d.down ≡ e ∷ rest → DirHasForm width (most + 1) (front_taken e.stamp rest d)
  front_taken-form d e rest has front =
      let more = dir-more d has in
      let entries = front-form d e rest has front in
      record { sizes = more.sizes; count = omega (arith, has.count); epoch = by (is_top d) more.epoch entries.0.stamp; down = entries.1; requests = more.requests; replies = more.replies; parked = more.parked } where
        by : (b : Bool) → StampHasForm (most + 1) d.epoch → StampHasForm (most + 1) e.stamp → StampHasForm (most + 1) (cond b d.epoch e.stamp)
        by true own taken = own
        by false own taken = taken

  -- ---- its lists

  pub pushed_down-form : (kind : TxKind) (x : ℕ) (words : List ℕ) (s : Stamp) (d : DirValue) → comes_down kind ≡ true → AreWords width words → StampHasForm most s → DirHasForm width most d → DirHasForm width most (pushed_down kind x words s d)
  pushed_down-form kind x words s d comes are low has = record {
    sizes = has.sizes;
    count = has.count;
    epoch = has.epoch;
    down = all-pushed (DownHasForm width most) d.down (record { kind = kind; item = x; words = words; stamp = s }) has.down (record { kind = comes; words = are; stamp = low });
    requests = has.requests;
    replies = has.replies;
    parked = has.parked;
  }

  pub pushed_request-form : (kind : TxKind) (x : ℕ) (d : DirValue) → goes_up kind ≡ true → DirHasForm width most d → DirHasForm width most (pushed_request kind x d)
  pushed_request-form kind x d up has = record {
    sizes = has.sizes;
    count = has.count;
    epoch = has.epoch;
    down = has.down;
    requests = all-pushed RequestHasForm d.requests (record { kind = kind; item = x }) has.requests up;
    replies = has.replies;
    parked = has.parked;
  }

  pub pushed_reply-form : (x : ℕ) (words : List ℕ) (d : DirValue) → AreWords width words → DirHasForm width most d → DirHasForm width most (pushed_reply x words d)
  pushed_reply-form x words d are has = record {
    sizes = has.sizes;
    count = has.count;
    epoch = has.epoch;
    down = has.down;
    requests = has.requests;
    replies = all-pushed (CopyHasForm width) d.replies (record { item = x; words = words }) has.replies are;
    parked = has.parked;
  }

  pub with_parked-form : (x : ℕ) (words : List ℕ) (d : DirValue) → AreWords width words → DirHasForm width most d → DirHasForm width most (with_parked x words d)
  with_parked-form x words d are has = record {
    sizes = has.sizes;
    count = has.count;
    epoch = has.epoch;
    down = has.down;
    requests = has.requests;
    replies = has.replies;
    parked = all-pushed (CopyHasForm width) d.parked (record { item = x; words = words }) has.parked are;
  }

  pub without_parked-form : (x : ℕ) (d : DirValue) → DirHasForm width most d → DirHasForm width most (without_parked x d)
  without_parked-form x d has = record {
    sizes = has.sizes;
    count = has.count;
    epoch = has.epoch;
    down = has.down;
    requests = has.requests;
    replies = has.replies;
    parked = all-filter (CopyHasForm width) (λ c. not (is_copy x c)) d.parked has.parked;
  }

  -- the copy that is parked
  pub parked-form : (x : ℕ) (d : DirValue) → DirHasForm width most d → IfSome (parked_words x d) (AreWords width)
  unfolding words_of_item
  parked-form x d has = by (parked_words x d) refl where
    by : (o : Option (List ℕ)) → first_of (map copy_words (filter (is_copy x) d.parked)) ≡ o → IfSome o (AreWords width)
    by None is = tt
    by (Some words) is =
        all-first (AreWords width) (map copy_words (filter (is_copy x) d.parked)) words (all-map (CopyHasForm width) (AreWords width) copy_words (λ c are. are) (filter (is_copy x) d.parked) (all-filter (CopyHasForm width) (is_copy x) d.parked has.parked)) is

  struck-form : (kind : TxKind) (x : ℕ) (requests : List RequestValue) → AllByRecursion RequestHasForm requests → AllByRecursion RequestHasForm (struck kind x requests)
  unfolding struck
  struck-form kind x requests all = all-without_first RequestHasForm (is_request kind x) requests all

  -- ---- what the bus above tells it

  module _ (x : ℕ) (s : Stamp) (low : StampHasForm most s) (d : DirValue) (has : DirHasForm width most d) where
    blank-words : AreWords width (blank d.sizes.width)
    blank-words = blank-here width d.sizes.width has.sizes

    down-with : (kind : TxKind) (words : List ℕ) → comes_down kind ≡ true → AreWords width words → AllByRecursion (DownHasForm width most) (pushed_down kind x words s d).down
    down-with kind words comes are = (pushed_down-form kind x words s d comes are low has).down

    pub dir_lose-form : DirHasForm width most (dir_lose x s d)
    unfolding dir_lose
    dir_lose-form = record {
      sizes = has.sizes;
      count = has.count;
      epoch = has.epoch;
      down = by_down (is_held (dir_hold x d));
      requests = by_requests (is_held (dir_hold x d));
      replies = has.replies;
      parked = has.parked;
    } where
      by_down : (b : Bool) → AllByRecursion (DownHasForm width most) (cond b (dir_lost x s d).down d.down)
      by_down true = down-with EraseTx (blank d.sizes.width) refl blank-words
      by_down false = has.down

      by_requests : (b : Bool) → AllByRecursion RequestHasForm (cond b (struck EraseTx x d.requests) d.requests)
      by_requests true = struck-form EraseTx x d.requests has.requests
      by_requests false = has.requests

    pub dir_take_data-form : (words : List ℕ) → AreWords width words → DirHasForm width most (dir_take_data x words s d)
    unfolding dir_take_data
    dir_take_data-form words are = record { sizes = has.sizes; count = has.count; epoch = has.epoch; down = down-with DataTx words refl are; requests = has.requests; replies = has.replies; parked = has.parked }

    pub dir_take_exclusive-form : DirHasForm width most (dir_take_exclusive x s d)
    unfolding dir_take_exclusive
    dir_take_exclusive-form = record { sizes = has.sizes; count = has.count; epoch = has.epoch; down = down-with ExclusiveTx (blank d.sizes.width) refl blank-words; requests = has.requests; replies = has.replies; parked = has.parked }

    pub dir_answer-form : DirHasForm width most (dir_answer x s d)
    unfolding dir_answer
    dir_answer-form = record { sizes = has.sizes; count = has.count; epoch = has.epoch; down = down-with ReadTx (blank d.sizes.width) refl blank-words; requests = has.requests; replies = has.replies; parked = has.parked }

    pub dir_take_inject-form : (words : List ℕ) → AreWords width words → DirHasForm width most (dir_take_inject x words s d)
    unfolding dir_take_inject
    dir_take_inject-form words are = record { sizes = has.sizes; count = has.count; epoch = has.epoch; down = down-with InjectTx words refl are; requests = struck-form ReadTx x d.requests has.requests; replies = has.replies; parked = has.parked }

  pub dir_give_up-form : (x : ℕ) (d : DirValue) → DirHasForm width most d → DirHasForm width most (dir_give_up x d)
  dir_give_up-form x d has =
      let without = without_parked-form x d has in
      record { sizes = has.sizes; count = has.count; epoch = has.epoch; down = has.down; requests = has.requests; replies = has.replies; parked = without.parked }
