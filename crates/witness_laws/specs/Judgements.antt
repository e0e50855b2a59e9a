-- What the checker comes to, by what an accepted witness is and what each refusal says.
-- Letters: s is an image and the harts' start.
-- To be believed: it is what is claimed of every text.
use Rattle.std.specs.Prelude.{◌≡◌, ◌↔◌, ℕ, List, Ok, Err}
use Rattle.witness_check.specs.Start.{Setting, check_of}
use Rattle.witness_check.specs.Witness.{IsAccepted, IsRefused}
use Rattle.witness_check.specs.declared.refusal.CheckRefusal.{CheckRefusal}

-- it comes to a number exactly where the text is accepted with so many lines
abbrev pub NumbersAreOfAcceptedTexts : Type 0
NumbersAreOfAcceptedTexts = (s : Setting) (text : List ℕ) (lines : ℕ) → (check_of s text ≡ Ok lines) ↔ IsAccepted s text lines

-- it comes to a refusal only where that refusal is so
abbrev pub RefusalsAreSo : Type 0
RefusalsAreSo = (s : Setting) (text : List ℕ) (refusal : CheckRefusal) → check_of s text ≡ Err refusal → IsRefused s text refusal
