-- What one entry of a list puts, by the words that are read of it.
-- Letters: w0 are the words before it, and w1, w2 .. those that are left after each step.
use Rattle.std.proofs.Common.{◌≡◌, ℕ, ◌+◌, ◌<◌, arith, List, ◌∷◌, ◌++◌, codes, drop, length, slice_index, take, Some, ap, subst, ◌∙◌, take_at, drop_at}
use Rattle.film_parts.specs.DdmText.Adds.{Adds, ◌▸◌}
use Rattle.film_parts.specs.DdmTypes.declared.answers.TxKind.{TxKind}
use Rattle.film_parts.specs.DdmTypes.declared.sizes.LeafState.{LeafState}
use Rattle.film_parts.specs.DdmTypes.declared.keys.Stamp.{Stamp}
use Rattle.film_parts.specs.TreeModel.State.Kinds.{kind_number}
use Rattle.film_parts.specs.TreeModel.State.Values.{BufferValue, CopyValue, DownValue, RequestValue}
use Rattle.film_parts.specs.StateWords.Numbers.{state_number, stamp_words}
use Rattle.film_parts.specs.Forms.{IsWideStanding}
use Rattle.film_parts.specs.StateWords.Parts.{StandingValue, standing_words, buffer_words, down_words, item_and_words, request_words}
use Rattle.film_parts.specs.Puts.{Puts}
use Rattle.film_parts.proofs.ListSteps.{Split, split}
use Rattle.std.specs.List.{AllByRecursion}
use Rattle.film_model.specs.Directory.{down_text, down_words as told_words, told_stamp}
use Rattle.film_model.specs.Leaf.{buffer_text, copy_text, entry_words, request_text}
use Rattle.film_model.specs.Part.{number_text, stamp_text}
use Rattle.text_model.specs.Report.{letter_text, word_texts}
use Rattle.text_model.specs.Words.{kind_text}

-- the words of an item, and those after them
pub front : (ws words rest : List ℕ) (width : ℕ) → ws ≡ words ++ rest → length words ≡ width → take width ws ≡ words
front ws words rest width is wide = ap (take width) is ∙ take_at words rest width wide

pub behind : (ws words rest : List ℕ) (width : ℕ) → ws ≡ words ++ rest → length words ≡ width → drop width ws ≡ rest
behind ws words rest width is wide = ap (drop width) is ∙ drop_at words rest width wide

module _ {a b c d : List ℕ} (w0 w1 w2 rest : List ℕ) where
  pub copy_put : (cv : CopyValue) (width : ℕ) → w0 ≡ item_and_words cv ++ rest → length cv.words ≡ width
      → Adds a b (codes " |") → w1 ≡ drop 1 w0 → Adds b c (number_text (slice_index w0 0)) → w2 ≡ drop width w1 → Adds c d (word_texts (take width w1))
      → Puts a d (codes " |" ++ copy_text cv) w2 rest
  unfolding copy_text
  copy_put cv width is wide bar l1 number l2 words =
      let w1_is : w1 ≡ cv.words ++ rest = l1 ∙ ap (drop 1) is in
      let item : Adds b c (number_text cv.item) = subst (λ (w : List ℕ). Adds b c (number_text (slice_index w 0))) is number in
      let copy : Adds c d (word_texts cv.words) = subst (λ (w : List ℕ). Adds c d (word_texts w)) (front w1 cv.words rest width w1_is wide) words in
      record { added = bar ▸ (item ▸ copy); left = l2 ∙ behind w1 cv.words rest width w1_is wide }

-- the kind and the item of a request
pub request_put : {a b c d e : List ℕ} (w0 w1 w2 rest : List ℕ) (r : RequestValue) (n : ℕ) (kind : TxKind) → w0 ≡ request_words r ++ rest
    → Adds a b (codes " |") → Adds b c (codes " ") → n ≡ slice_index w0 0 → w1 ≡ drop 1 w0 → ((k : TxKind) → n ≡ kind_number k → kind ≡ k) → Adds c d (kind_text kind)
    → w2 ≡ drop 1 w1 → Adds d e (number_text (slice_index w1 0)) → Puts a e (codes " |" ++ request_text r) w2 rest
unfolding request_text
request_put {a} {b} {c} {d} {e} w0 w1 w2 rest r n kind is bar space n_is l1 by kind_told l2 number =
    let w1_is : w1 ≡ r.item ∷ rest = l1 ∙ ap (drop 1) is in
    let kind_is : kind ≡ r.kind = by r.kind (n_is ∙ ap (λ (w : List ℕ). slice_index w 0) is) in
    let told : Adds c d (kind_text r.kind) = subst (λ (k : TxKind). Adds c d (kind_text k)) kind_is kind_told in
    let item : Adds d e (number_text r.item) = subst (λ (w : List ℕ). Adds d e (number_text (slice_index w 0))) w1_is number in
    record { added = bar ▸ (space ▸ told ▸ item); left = l2 ∙ ap (drop 1) w1_is }

-- the item, the state and the words of an entry of a buffer
pub buffered_put : {a b c d e f : List ℕ} (w0 w1 w2 w3 rest : List ℕ) (v : BufferValue) (width n : ℕ) (state : LeafState) (copy : List ℕ) → w0 ≡ buffer_words v ++ rest → length v.words ≡ width
    → Adds a b (codes " |") → w1 ≡ drop 1 w0 → Adds b c (number_text (slice_index w0 0)) → Adds c d (codes " ")
    → n ≡ slice_index w1 0 → w2 ≡ drop 1 w1 → ((s : LeafState) → n ≡ state_number s → state ≡ s) → Adds d e (letter_text (Some state))
    → copy ≡ take width w2 → w3 ≡ drop width w2 → Adds e f (entry_words state copy) → Puts a f (codes " |" ++ buffer_text v) w3 rest
unfolding buffer_text
buffered_put {a} {b} {c} {d} {e} {f} w0 w1 w2 w3 rest v width n state copy is wide bar l1 number space n_is l2 by letter copy_is l3 words =
    let w1_is : w1 ≡ state_number v.state ∷ v.words ++ rest = l1 ∙ ap (drop 1) is in
    let w2_is : w2 ≡ v.words ++ rest = l2 ∙ ap (drop 1) w1_is in
    let state_is : state ≡ v.state = by v.state (n_is ∙ ap (λ (w : List ℕ). slice_index w 0) w1_is) in
    let item : Adds b c (number_text v.item) = subst (λ (w : List ℕ). Adds b c (number_text (slice_index w 0))) is number in
    let told : Adds d e (letter_text (Some v.state)) = subst (λ (s : LeafState). Adds d e (letter_text (Some s))) state_is letter in
    let entry : Adds e f (entry_words v.state v.words) =
    subst (λ (s : LeafState). Adds e f (entry_words s v.words)) state_is (subst (λ (w : List ℕ). Adds e f (entry_words state w)) (copy_is ∙ front w2 v.words rest width w2_is wide) words) in
    record { added = bar ▸ (item ▸ space ▸ told ▸ entry); left = l3 ∙ behind w2 v.words rest width w2_is wide }

-- the kind, the item, the stamp and the words of an entry of a down list
pub down_put : {a b c d e f g : List ℕ} (w0 w1 w2 w3 w4 rest : List ℕ) (v : DownValue) (level width n : ℕ) (kind : TxKind) (copy : List ℕ) → w0 ≡ down_words v ++ rest → length v.words ≡ width
    → Adds a b (codes " |") → Adds b c (codes " ") → n ≡ slice_index w0 0 → w1 ≡ drop 1 w0 → ((k : TxKind) → n ≡ kind_number k → kind ≡ k) → Adds c d (kind_text kind)
    → w2 ≡ drop 1 w1 → Adds d e (number_text (slice_index w1 0)) → ((s : Stamp) (more : List ℕ) → w2 ≡ stamp_words s ++ more → Puts e f (told_stamp level s) w3 more)
    → copy ≡ take width w3 → w4 ≡ drop width w3 → Adds f g (told_words kind copy) → Puts a g (codes " |" ++ down_text level v) w4 rest
unfolding down_text
down_put {a} {b} {c} {d} {e} {f} {g} w0 w1 w2 w3 w4 rest v level width n kind copy is wide bar space n_is l1 by kind_told l2 number stamp copy_is l4 words =
    let w1_is : w1 ≡ v.item ∷ stamp_words v.stamp ++ (v.words ++ rest) = l1 ∙ ap (drop 1) is in
    let w2_is : w2 ≡ stamp_words v.stamp ++ (v.words ++ rest) = l2 ∙ ap (drop 1) w1_is in
    let kind_is : kind ≡ v.kind = by v.kind (n_is ∙ ap (λ (w : List ℕ). slice_index w 0) is) in
    let told : Adds c d (kind_text v.kind) = subst (λ (k : TxKind). Adds c d (kind_text k)) kind_is kind_told in
    let item : Adds d e (number_text v.item) = subst (λ (w : List ℕ). Adds d e (number_text (slice_index w 0))) w1_is number in
    let stamped = stamp v.stamp (v.words ++ rest) w2_is in
    let brought : Adds f g (told_words v.kind v.words) =
    subst (λ (k : TxKind). Adds f g (told_words k v.words)) kind_is (subst (λ (w : List ℕ). Adds f g (told_words kind w)) (copy_is ∙ front w3 v.words rest width stamped.left wide) words) in
    record { added = bar ▸ (space ▸ told ▸ item ▸ stamped.added ▸ brought); left = l4 ∙ behind w3 v.words rest width stamped.left wide }

-- an entry in a way, by how many words it is spelled in
pub standing_split : (width place : ℕ) (ss : List StandingValue) → place < length ss → AllByRecursion (IsWideStanding width) ss → Split (λ s. length (standing_words s) ≡ 3 + width) place ss
standing_split width place ss inside form =
    let one = split (IsWideStanding width) place ss inside form in
    record { x = one.x; is = one.is; holds = omega (arith, one.holds) }

-- the numbers of the buses above, out of the next four
pub stamp_put : {a b : List ℕ} (w0 w1 rest numbers : List ℕ) (level : ℕ) (s : Stamp) → w0 ≡ stamp_words s ++ rest → numbers ≡ take 4 w0 → w1 ≡ drop 4 w0
    → Adds a b (stamp_text (take level numbers)) → Puts a b (told_stamp level s) w1 rest
unfolding told_stamp
stamp_put {a} {b} w0 w1 rest numbers level s is numbers_are l1 added =
    record { added = subst (λ (ns : List ℕ). Adds a b (stamp_text (take level ns))) (numbers_are ∙ ap (take 4) is) added; left = l1 ∙ ap (drop 4) is }
