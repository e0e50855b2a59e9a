-- What is read of a directory is what is spelled of it.
use Rattle.std.specs.Prelude.{◌≡◌, ℕ, ◌-◌, Bool, not, nat_lt, ◌&&◌, List, length, Ok, refl}
use Rattle.std.specs.List.{list_any}
use Rattle.spelling_laws.specs.TreeModel.State.Values.{CopyValue, DirValue}
use Rattle.spelling_laws.specs.TreeModel.State.Leaf.{is_copy}
use Rattle.spelling_laws.specs.TreeModel.State.Directory.{is_top}
use Rattle.spelling_laws.specs.StateReading.Reading.{Read}
use Rattle.spelling_laws.specs.StateReading.Parts as reading
use Rattle.spelling_laws.specs.StateReading.Parts.{listed, read_records, read_down, read_request, read_copy, read_dir}
use Rattle.spelling_laws.specs.StateWords.Parts.{dir_words, down_words, request_words, item_and_words}
use Rattle.spelling_laws.specs.Spells.{Spells}
use Rattle.spelling_laws.proofs.Lists.{stamp-read, copy-read, request-read, down-read}
use Rattle.spelling_laws.proofs.Records.{records-read}
use Rattle.spelling_laws.proofs.Steps.{is_count, is_to, step, word-step, list-read, ended, spells-both}

abbrev pub any_item : ℕ → ℕ → List CopyValue → Bool
any_item n x cs = nat_lt x n

abbrev pub other_item : ℕ → ℕ → List CopyValue → Bool
other_item n x cs = nat_lt x n && not (list_any (is_copy x) cs)

-- of a directory that was read
pub record DirRead (d : DirValue) (k : ℕ) (ws : List ℕ) (q : Read DirValue) : Type 0 where
  pub spells : Spells k ws (dir_words q.value) q.at q.rest
  pub bus : q.value.bus ≡ d.bus
  pub level : q.value.level ≡ d.level
  pub sizes : q.value.sizes ≡ d.sizes

pub dir-read : (n kids : ℕ) (d : DirValue) (k : ℕ) (ws : List ℕ) (q : Read DirValue) → read_dir n kids d k ws ≡ Ok q → DirRead d k ws q
unfolding read_dir dir_words
dir-read n kids d k ws q e =
    word-step is_count k ws _ q e (λ count k1 ws1 w1 p1 e.
    step (reading.stamp_words d.level k1 ws1) _ q e (λ epoch stamped e.
    step (read_records n kids (is_top d) epoch.at epoch.rest) _ q e (λ items recorded e.
    step (listed d.sizes.down_room (read_down n d.level d.sizes.width) items.at items.rest) _ q e (λ down is_down e.
    step (listed d.sizes.request_room (read_request n) down.at down.rest) _ q e (λ requests is_requests e.
    step (listed d.sizes.reply_room (read_copy d.sizes.width (any_item n)) requests.at requests.rest) _ q e (λ replies is_replies e.
    step (listed d.sizes.parking_room (read_copy d.sizes.width (other_item n)) replies.at replies.rest) _ q e (λ parked is_parked e.
    word-step (is_to (d.sizes.parking_room - length parked.value)) parked.at parked.rest _ q e (λ reserved k8 ws8 w8 p8 e.
    ended (DirRead d k ws) (record {
      value = record d { items = items.value.items; down = down.value; requests = requests.value; replies = replies.value; parked = parked.value; reserved = reserved; count = count; epoch = epoch.value };
      at = k8;
      rest = ws8;
    }) q
    (record {
      spells =
          spells-both w1 (spells-both (spells-both (spells-both (spells-both (spells-both (spells-both
          (stamp-read d.level k1 ws1 epoch stamped)
          ((records-read n kids (is_top d) epoch.at epoch.rest items recorded).spells))
          (list-read down_words (read_down n d.level d.sizes.width) (down-read n d.level d.sizes.width) d.sizes.down_room items.at items.rest down is_down))
          (list-read request_words (read_request n) (request-read n) d.sizes.request_room down.at down.rest requests is_requests))
          (list-read item_and_words (read_copy d.sizes.width (any_item n)) (copy-read d.sizes.width (any_item n)) d.sizes.reply_room requests.at requests.rest replies is_replies))
          (list-read item_and_words (read_copy d.sizes.width (other_item n)) (copy-read d.sizes.width (other_item n)) d.sizes.parking_room replies.at replies.rest parked is_parked))
          w8);
      bus = refl;
      level = refl;
      sizes = refl;
    }) e))))))))
