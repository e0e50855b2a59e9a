-- The rules of a directory's time are kept by a turn of its own bus and by one of the bus above.
use Rattle.std.proofs.Common.{◌≡◌, ℕ, ◌+◌, Bool, true, false, ◌⊎◌, inl, inr, List, [], ◌∷◌, ◌++◌, length, sym, subst, ◌∙◌, arith}
use Rattle.std.specs.List.{AllByRecursion}
use Rattle.std.proofs.lemmas.Bool.{ne_eqb, true≢false}
use Rattle.std.proofs.lemmas.List.{length-append}
use Rattle.order_laws.specs.DdmTypes.declared.keys.Stamp.{Stamp}
use Rattle.order_laws.specs.TreeModel.State.Values.{DownValue, DirValue}
use Rattle.order_laws.specs.TreeModel.State.Directory.{is_top}
use Rattle.order_laws.specs.TreeModel.State.Place.{Spot, spot_path}
use Rattle.order_laws.specs.TreeRules.Order.Moments.{less, moment_at}
use Rattle.order_laws.specs.TreeRules.Order.Time.{comes_later, stamp_ends}
use Rattle.order_lists.proofs.Filters.{each-weaker, each-both, each-append}
use Rattle.order_lists.proofs.Moments.{less-irreflexive, less-asymmetric, at_most-transitive, least-less}
use Rattle.order_lists.proofs.Queues.{MayFollow, Rises}
use Rattle.order_laws.proofs.Timed.Told.{Pushed, DirTold}
use Rattle.order_laws.proofs.Timed.Rows.{DownTurned, down_stays, down_grows, down_taken}

-- where a bus with this path has this present stamp, and a directory below it took over this stamp: an entry's stamp lies
-- between the two, and has numbers for the levels above the directory's own bus alone
pub record EntryTimes (above : List ℕ) (present epoch : Stamp) (e : DownValue) : Type 0 where
  pub past : less (moment_at above e.stamp) (moment_at above epoch) ≡ false
  pub not_ahead : less (moment_at above present) (moment_at above e.stamp) ≡ false
  pub ends : stamp_ends (length above + 1) e.stamp ≡ true

-- a read, an erase or an inject has a greater stamp than what was taken over
abbrev pub IsPast : List ℕ → Stamp → DownValue → Type 0
IsPast above epoch e = comes_later e.kind ≡ true → less (moment_at above epoch) (moment_at above e.stamp) ≡ true

-- the rules of its time; the last one, of commands, is asked where `strict` says so
pub record DirTimes (strict : Bool) (above : List ℕ) (present epoch : Stamp) (down : List DownValue) : Type 0 where
  pub taken : less (moment_at above present) (moment_at above epoch) ≡ false
  pub ends : stamp_ends (length above + 1) epoch ≡ true
  pub entries : AllByRecursion (EntryTimes above present epoch) down
  pub rises : Rises above down
  pub past : strict ≡ true → AllByRecursion (IsPast above epoch) down

module _ (strict : Bool) (above : List ℕ) where
  rises-push : (es : List DownValue) (x : DownValue) → Rises above es → AllByRecursion (λ e. MayFollow above e x) es → Rises above (es ++ x ∷ [])
  rises-push [] x r h = (tt, tt)
  rises-push (e ∷ es) x r h = (each-append (MayFollow above e) es (x ∷ []) r.0 (h.0, tt), rises-push es x r.1 h.1)

  -- ---- told something by the bus above, whose stamp rises

  module _ (old new epoch : Stamp) (down : List DownValue) (rise : less (moment_at above old) (moment_at above new) ≡ true) (d : DirTimes strict above old epoch down) where
    later : (a : List ℕ) → less (moment_at above old) a ≡ false → less (moment_at above new) a ≡ false
    later a h = at_most-transitive a (moment_at above old) (moment_at above new) h (less-asymmetric (moment_at above old) (moment_at above new) rise)

    past_all : (a : List ℕ) → less (moment_at above old) a ≡ false → less a (moment_at above new) ≡ true
    past_all a h = least-less a (moment_at above old) (moment_at above new) h rise

    entries : AllByRecursion (EntryTimes above new epoch) down
    entries = each-weaker _ _ (λ e (t : EntryTimes above old epoch e). record { past = t.past; not_ahead = later (moment_at above e.stamp) t.not_ahead; ends = t.ends }) down d.entries

    pub bus_rises : DirTimes strict above new epoch down
    bus_rises = record { taken = later (moment_at above epoch) d.taken; ends = d.ends; entries = entries; rises = d.rises; past = d.past }

    module _ (ends : stamp_ends (length above + 1) new ≡ true) (x : DownValue) (stamp : x.stamp ≡ new) where
      new_entry : EntryTimes above new epoch x
      new_entry = rw stamp (record {
        past = later (moment_at above epoch) d.taken;
        not_ahead = less-irreflexive (moment_at above new);
        ends = ends;
      })

      follows : AllByRecursion (λ e. MayFollow above e x) down
      follows = each-weaker _ _ (λ e (t : EntryTimes above old epoch e). record {
        falls_not = rw stamp (later (moment_at above e.stamp) t.not_ahead);
        later = λ l. rw stamp (past_all (moment_at above e.stamp) t.not_ahead);
      }) down d.entries

      pub told_entry : DirTimes strict above new epoch (down ++ x ∷ [])
      told_entry = record {
        taken = later (moment_at above epoch) d.taken;
        ends = d.ends;
        entries = each-append (EntryTimes above new epoch) down (x ∷ []) entries (new_entry, tt);
        rises = rises-push down x d.rises follows;
        past = λ s. each-append (IsPast above epoch) down (x ∷ []) (d.past s) ((λ l. rw stamp (past_all (moment_at above epoch) d.taken)), tt);
      }

  -- ---- a turn of its own bus

  module _ (present epoch : Stamp) (down : List DownValue) (d : DirTimes strict above present epoch down) where
    -- an entry with the present stamp above, of a kind that needn't come later
    pub own_entry : stamp_ends (length above + 1) present ≡ true → (x : DownValue) → x.stamp ≡ present → comes_later x.kind ≡ false → DirTimes strict above present epoch (down ++ x ∷ [])
    own_entry ends x stamp kind = record {
      taken = d.taken;
      ends = d.ends;
      entries = each-append (EntryTimes above present epoch) down (x ∷ []) d.entries (rw stamp (record { past = d.taken; not_ahead = less-irreflexive (moment_at above present); ends = ends }), tt);
      rises = rises-push down x d.rises (each-weaker _ _ (λ e (t : EntryTimes above present epoch e). record { falls_not = rw stamp t.not_ahead; later = λ l. absurd (true≢false (sym l ∙ kind)) }) down d.entries);
      past = λ s. each-append (IsPast above epoch) down (x ∷ []) (d.past s) ((λ l. absurd (true≢false (sym l ∙ kind))), tt);
    }

  -- the first entry is taken, and its stamp taken over
  pub own_taken : (present epoch : Stamp) (e : DownValue) (rest : List DownValue) → DirTimes strict above present epoch (e ∷ rest) → DirTimes strict above present e.stamp rest
  own_taken present epoch e rest d = record {
    taken = d.entries.0.not_ahead;
    ends = d.entries.0.ends;
    entries = each-both _ _ _ (λ f (t : EntryTimes above present epoch f) (m : MayFollow above e f). record { past = m.falls_not; not_ahead = t.not_ahead; ends = t.ends }) rest d.entries.1 d.rises.0;
    rises = d.rises.1;
    past = λ s. each-weaker _ _ (λ f (m : MayFollow above e f). m.later) rest d.rises.0;
  }

-- ---- as a turn leaves them

pub told-times : (strict : Bool) (above : List ℕ) (old new : Stamp) (d e : DirValue) → less (moment_at above old) (moment_at above new) ≡ true → stamp_ends (length above + 1) new ≡ true → DirTold new d e → DirTimes strict above old d.epoch d.down → DirTimes strict above new e.epoch e.down
told-times strict above old new d e rise ends told times = subst (λ o. DirTimes strict above new o e.down) (sym told.epoch) (go told.down) where
  go : (e.down ≡ d.down) ⊎ Pushed new d.down e.down → DirTimes strict above new d.epoch e.down
  go (inl same) = subst (DirTimes strict above new d.epoch) (sym same) (bus_rises strict above old new d.epoch d.down rise times)
  go (inr p) = subst (DirTimes strict above new d.epoch) (sym p.is) (told_entry strict above old new d.epoch d.down rise times ends p.entry p.stamp)

-- a directory below a bus isn't the top
not_top : (c : Spot) (d : DirValue) → d.level ≡ length (spot_path c) → is_top d ≡ false
not_top c d level = ne_eqb d.level 0 (λ e. (let n : length (spot_path c) ≡ length c.above + 1 = length-append c.above (c.number ∷ []) in omega (arith, level, n, e)))

pub own-times : (strict : Bool) (c : Spot) (d q : DirValue) → d.level ≡ length (spot_path c) → stamp_ends (length c.above + 1) c.present ≡ true → DownTurned c.present d q → DirTimes strict c.above c.present d.epoch d.down → DirTimes strict c.above c.present q.epoch q.down
own-times strict c d q level ends (down_stays down epoch) times = rw (down, epoch) times
own-times strict c d q level ends (down_grows e down stamp kind epoch) times = rw (down, epoch) (own_entry strict c.above c.present d.epoch d.down times ends e stamp kind)
own-times strict c d q level ends (down_taken e rest front down epoch) times = rw (down, epoch, not_top c d level) (own_taken strict c.above c.present d.epoch e rest (subst (DirTimes strict c.above c.present d.epoch) front times))

-- and its epoch doesn't fall
pub own-epoch : (strict : Bool) (c : Spot) (d q : DirValue) → d.level ≡ length (spot_path c) → DownTurned c.present d q → DirTimes strict c.above c.present d.epoch d.down → less (moment_at c.above q.epoch) (moment_at c.above d.epoch) ≡ false
own-epoch strict c d q level (down_stays down epoch) times = rw epoch (less-irreflexive (moment_at c.above d.epoch))
own-epoch strict c d q level (down_grows e down stamp kind epoch) times = rw epoch (less-irreflexive (moment_at c.above d.epoch))
own-epoch strict c d q level (down_taken e rest front down epoch) times = rw (epoch, not_top c d level) (let t : DirTimes strict c.above c.present d.epoch (e ∷ rest) = subst (DirTimes strict c.above c.present d.epoch) front times in t.entries.0.past)
