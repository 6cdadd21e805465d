-- What an exported call keeps, in each case of its answer. Assumes nothing.
use Prim.Native.Nat.{ℕ}
use mathlib.Core.Path.{◌≡◌, refl, sym, ap, subst, ◌∙◌}
use mathlib.Core.Bool.{Bool, true, false}
use mathlib.Core.List.{List}
use lib.ListN.{length}
use Rattle.definitions.specs.Sheet.{Sheet}
use Rattle.definitions.specs.Reader.{sheet, read}
use Rattle.definitions.specs.Answers as Call
use Rattle.definitions.specs.Bytes.{stored, read_back}
use Rattle.bounds.proofs.InBytes.{InBytes, bytes-read-back}
use Rattle.sheet_read.specs.Summary as Summary
use Rattle.sheet_read.specs.Summary.{summary_of}
use Rattle.sheet_loaded.proofs.Reading.{refused-is}
use Rattle.exports.specs.Answer.{Answer, refused_at, refused, gives, IfGiven, Outputs, outputs, Kept, ReadsBack, by_call, on_reading, unless_short}

-- numbers that a byte holds are read back
pub reads-back : (numbers old new : List ℕ) → InBytes numbers → new ≡ stored numbers old → ReadsBack numbers old new
reads-back numbers old new h e = record { left = e; read_back = ap (read_back (length numbers)) e ∙ bytes-read-back numbers old h }

-- what follows from what is said of a result that is given
pub if-given : {A : Type 0} (a : Answer A) (P Q : A → Type 0) → ((x : A) → a ≡ gives x → P x → Q x) → IfGiven a P → IfGiven a Q
if-given (refused_at number word) P Q f h = tt
if-given (refused number) P Q f h = tt
if-given (gives x) P Q f h = f x refl h

module _ {A L : Type 0} (Written : A → (old new : L) → Type 0) (old : Outputs L) where
  -- an answer that is known to be another keeps what that keeps
  pub kept-as : {answered same : Answer A} {r : ℕ} {new : Outputs L} → answered ≡ same → Kept Written same old r new → Kept Written answered old r new
  kept-as {r = r} {new = new} e K = subst (λ (x : Answer A). Kept Written x old r new) (sym e) K

  -- ---- where a lent list may be too short; t is whether one was found so

  module _ (answered : Answer A) (short : Bool) (t : Bool) (told : t ≡ short) where
    pub kept-short : t ≡ true → Kept Written (unless_short short answered) old 13 (outputs 0 old.room)
    kept-short h = kept-as (ap (λ (x : Bool). unless_short x answered) (sym told ∙ h)) (record { result = refl; word = refl; untouched = refl; written = tt })

    pub kept-roomy : t ≡ false → {r : ℕ} {new : Outputs L} → Kept Written answered old r new → Kept Written (unless_short short answered) old r new
    kept-roomy h K = kept-as (ap (λ (x : Bool). unless_short x answered) (sym told ∙ h)) K

  -- ---- a call on the sheet that bytes are

  module _ (bytes : List ℕ) (call : Sheet → List ℕ → Call.Answer A) where
    -- the reader refuses the bytes
    pub kept-unread : (number word : ℕ) → Summary.refused number word ≡ summary_of (read bytes) → Kept Written (on_reading call (read bytes)) old number (outputs word old.room)
    kept-unread number word e = kept-as (ap (on_reading call) (refused-is bytes number word e)) (record { result = refl; word = refl; untouched = refl; written = tt })

    module _ (s : Sheet) (tour : List ℕ) (e : read bytes ≡ sheet s tour) (new : L) where
      -- the call is refused
      pub kept-refused : (number : ℕ) → call s tour ≡ Call.refused number → new ≡ old.room → Kept Written (on_reading call (read bytes)) old number (outputs old.word new)
      kept-refused number h same = kept-as (ap (on_reading call) e ∙ ap by_call h) (record { result = refl; word = refl; untouched = same; written = tt })

      -- or gives its result
      pub kept-given : (x : A) → call s tour ≡ Call.gives x → Written x old.room new → Kept Written (on_reading call (read bytes)) old 0 (outputs old.word new)
      kept-given x h w = kept-as (ap (on_reading call) e ∙ ap by_call h) (record { result = refl; word = refl; untouched = tt; written = w })
