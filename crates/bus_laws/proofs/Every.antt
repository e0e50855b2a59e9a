-- Tests of small types: a test that passes at each value, computed.
use Rattle.std.specs.Prelude.{◌≡◌, Bool, true, false, ◌&&◌, List, [], ◌∷◌}
use Rattle.std.proofs.lemmas.Bool.{and_parts}
use Rattle.bus_laws.specs.DdmTypes.declared.answers.TxKind.{TxKind}
use Rattle.bus_laws.specs.DdmTypes.declared.answers.TxKind.TheVariants.{ReadTx, DataTx, EraseTx, ExclusiveTx, InjectTx, OutTx}
use Rattle.bus_laws.specs.DdmTypes.declared.sizes.Hold.{Hold}
use Rattle.tree_rules.specs.Bus.Item.{queue_fits, requests_fit}

-- the second test wherever the first passes; the second isn't computed elsewhere
abbrev pub when : Bool → (Bool → Bool) → Bool
when false f = true
when true f = f true

pub when-at : (b : Bool) (f : Bool → Bool) → when b f ≡ true → b ≡ true → f true ≡ true
when-at true f h e = h
when-at false f h e = cc

-- it passes at both
abbrev pub every_bool : (Bool → Bool) → Bool
every_bool f = f true && f false

-- it passes at all three
abbrev pub every_hold : (Hold → Bool) → Bool
every_hold f = f Hold.Invalid && (f Hold.Shared && f Hold.Exclusive)

pub every_bool-at : (f : Bool → Bool) → every_bool f ≡ true → (b : Bool) → f b ≡ true
every_bool-at f h true = (and_parts (f true) (f false) h).0
every_bool-at f h false = (and_parts (f true) (f false) h).1

pub every_hold-at : (f : Hold → Bool) → every_hold f ≡ true → (b : Hold) → f b ≡ true
every_hold-at f h Hold.Invalid = (and_parts (f Hold.Invalid) _ h).0
every_hold-at f h Hold.Shared = (and_parts (f Hold.Shared) _ (and_parts (f Hold.Invalid) _ h).1).0
every_hold-at f h Hold.Exclusive = (and_parts (f Hold.Shared) _ (and_parts (f Hold.Invalid) _ h).1).1

-- ---- the requests of one item

-- it passes at each list that the rules leave
abbrev pub every_requests : (List TxKind → Bool) → Bool
every_requests f = f [] && (f (ReadTx ∷ []) && f (EraseTx ∷ []))

pub every_requests-at : (f : List TxKind → Bool) → every_requests f ≡ true → (q : List TxKind) → requests_fit q ≡ true → f q ≡ true
every_requests-at f h [] fits = (and_parts (f []) _ h).0
every_requests-at f h (ReadTx ∷ []) fits = (and_parts (f (ReadTx ∷ [])) _ (and_parts (f []) _ h).1).0
every_requests-at f h (EraseTx ∷ []) fits = (and_parts (f (ReadTx ∷ [])) _ (and_parts (f []) _ h).1).1
every_requests-at f h (DataTx ∷ []) fits = cc
every_requests-at f h (ExclusiveTx ∷ []) fits = cc
every_requests-at f h (InjectTx ∷ []) fits = cc
every_requests-at f h (OutTx ∷ []) fits = cc
every_requests-at f h (k ∷ l ∷ ks) fits = cc

-- ---- the queue of one item: sixteen lists

-- nothing, or a read
abbrev read_only : (List TxKind → Bool) → Bool
read_only f = f [] && f (ReadTx ∷ [])

-- what may stand behind an erase
abbrev behind_erase : (List TxKind → Bool) → Bool
behind_erase f = read_only f && read_only (λ q. f (InjectTx ∷ q))

-- what may stand behind data
abbrev behind_data : (List TxKind → Bool) → Bool
behind_data f = read_only f && behind_erase (λ q. f (EraseTx ∷ q))

-- it passes at each of the sixteen
abbrev pub every_queue : (List TxKind → Bool) → Bool
every_queue f = read_only f && (read_only (λ q. f (InjectTx ∷ q)) && (behind_erase (λ q. f (EraseTx ∷ q)) && (behind_data (λ q. f (DataTx ∷ q)) && read_only (λ q. f (ExclusiveTx ∷ q)))))

module _ (f : List TxKind → Bool) where
  inject-tail : (q : List TxKind) → queue_fits (InjectTx ∷ q) ≡ true → read_only f ≡ true → f q ≡ true
  inject-tail [] fits h = (and_parts (f []) (f (ReadTx ∷ [])) h).0
  inject-tail (ReadTx ∷ []) fits h = (and_parts (f []) (f (ReadTx ∷ [])) h).1
  inject-tail (ReadTx ∷ k ∷ q) fits h = cc
  inject-tail (DataTx ∷ q) fits h = cc
  inject-tail (EraseTx ∷ q) fits h = cc
  inject-tail (ExclusiveTx ∷ q) fits h = cc
  inject-tail (InjectTx ∷ q) fits h = cc
  inject-tail (OutTx ∷ q) fits h = cc

  exclusive-tail : (q : List TxKind) → queue_fits (ExclusiveTx ∷ q) ≡ true → read_only f ≡ true → f q ≡ true
  exclusive-tail [] fits h = (and_parts (f []) (f (ReadTx ∷ [])) h).0
  exclusive-tail (ReadTx ∷ []) fits h = (and_parts (f []) (f (ReadTx ∷ [])) h).1
  exclusive-tail (ReadTx ∷ k ∷ q) fits h = cc
  exclusive-tail (DataTx ∷ q) fits h = cc
  exclusive-tail (EraseTx ∷ q) fits h = cc
  exclusive-tail (ExclusiveTx ∷ q) fits h = cc
  exclusive-tail (InjectTx ∷ q) fits h = cc
  exclusive-tail (OutTx ∷ q) fits h = cc

module _ (f : List TxKind → Bool) where
  erase-tail : (q : List TxKind) → queue_fits (EraseTx ∷ q) ≡ true → behind_erase f ≡ true → f q ≡ true
  erase-tail [] fits h = (and_parts (f []) (f (ReadTx ∷ [])) (and_parts (read_only f) _ h).0).0
  erase-tail (ReadTx ∷ []) fits h = (and_parts (f []) (f (ReadTx ∷ [])) (and_parts (read_only f) _ h).0).1
  erase-tail (ReadTx ∷ k ∷ q) fits h = cc
  erase-tail (InjectTx ∷ q) fits h = inject-tail (λ q. f (InjectTx ∷ q)) q fits (and_parts (read_only f) _ h).1
  erase-tail (DataTx ∷ q) fits h = cc
  erase-tail (EraseTx ∷ q) fits h = cc
  erase-tail (ExclusiveTx ∷ q) fits h = cc
  erase-tail (OutTx ∷ q) fits h = cc

module _ (f : List TxKind → Bool) where
  data-tail : (q : List TxKind) → queue_fits (DataTx ∷ q) ≡ true → behind_data f ≡ true → f q ≡ true
  data-tail [] fits h = (and_parts (f []) (f (ReadTx ∷ [])) (and_parts (read_only f) _ h).0).0
  data-tail (ReadTx ∷ []) fits h = (and_parts (f []) (f (ReadTx ∷ [])) (and_parts (read_only f) _ h).0).1
  data-tail (ReadTx ∷ k ∷ q) fits h = cc
  data-tail (EraseTx ∷ q) fits h = erase-tail (λ q. f (EraseTx ∷ q)) q fits (and_parts (read_only f) _ h).1
  data-tail (DataTx ∷ q) fits h = cc
  data-tail (InjectTx ∷ q) fits h = cc
  data-tail (ExclusiveTx ∷ q) fits h = cc
  data-tail (OutTx ∷ q) fits h = cc

module _ (f : List TxKind → Bool) (h : every_queue f ≡ true) where
  reads : read_only f ≡ true
  reads = (and_parts (read_only f) _ h).0

  injects : read_only (λ q. f (InjectTx ∷ q)) ≡ true
  injects = (and_parts (read_only (λ q. f (InjectTx ∷ q))) _ (and_parts (read_only f) _ h).1).0

  behind : (behind_erase (λ q. f (EraseTx ∷ q)) && (behind_data (λ q. f (DataTx ∷ q)) && read_only (λ q. f (ExclusiveTx ∷ q)))) ≡ true
  behind = (and_parts (read_only (λ q. f (InjectTx ∷ q))) _ (and_parts (read_only f) _ h).1).1

  erases : behind_erase (λ q. f (EraseTx ∷ q)) ≡ true
  erases = (and_parts (behind_erase (λ q. f (EraseTx ∷ q))) _ behind).0

  last : (behind_data (λ q. f (DataTx ∷ q)) && read_only (λ q. f (ExclusiveTx ∷ q))) ≡ true
  last = (and_parts (behind_erase (λ q. f (EraseTx ∷ q))) _ behind).1

  pub every_queue-at : (q : List TxKind) → queue_fits q ≡ true → f q ≡ true
  every_queue-at [] fits = (and_parts (f []) (f (ReadTx ∷ [])) reads).0
  every_queue-at (ReadTx ∷ []) fits = (and_parts (f []) (f (ReadTx ∷ [])) reads).1
  every_queue-at (ReadTx ∷ k ∷ q) fits = cc
  every_queue-at (InjectTx ∷ q) fits = inject-tail (λ q. f (InjectTx ∷ q)) q fits injects
  every_queue-at (EraseTx ∷ q) fits = erase-tail (λ q. f (EraseTx ∷ q)) q fits erases
  every_queue-at (DataTx ∷ q) fits = data-tail (λ q. f (DataTx ∷ q)) q fits (and_parts (behind_data (λ q. f (DataTx ∷ q))) _ last).0
  every_queue-at (ExclusiveTx ∷ q) fits = exclusive-tail (λ q. f (ExclusiveTx ∷ q)) q fits (and_parts (behind_data (λ q. f (DataTx ∷ q))) _ last).1
  every_queue-at (OutTx ∷ []) fits = cc
  every_queue-at (OutTx ∷ k ∷ q) fits = cc
