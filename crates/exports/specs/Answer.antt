-- What an exported call answers over the bytes and the lists that it is lent, and what every such call keeps. Definitions only.
use Rattle.std.specs.Prelude.{ℕ, ◌≡◌, Bool, true, false, List, length}
use Rattle.definitions.specs.Sheet.{Sheet}
use Rattle.definitions.specs.Reader as Reader
use Rattle.definitions.specs.Answers as Call
use Rattle.definitions.specs.Bytes.{stored, read_back}

-- refused at a word, as the reader refuses the bytes; refused by the call; or its result
pub data Answer (A : Type 0) : Type 0 where
  -- number, and word index from 0
  refused_at : (number word : ℕ) → Answer A
  refused : (number : ℕ) → Answer A
  gives : A → Answer A

-- ---- what a call does with its answer

-- it returns 0, or the number of the refusal
abbrev pub number_of : {A : Type 0} → Answer A → ℕ
number_of (refused_at number word) = number
number_of (refused number) = number
number_of (gives result) = 0

-- it writes the word of a refusal, which stays as it was where there is none
abbrev pub word_of : {A : Type 0} → Answer A → (old : ℕ) → ℕ
word_of (refused_at number word) old = word
word_of (refused number) old = old
word_of (gives result) old = old

abbrev pub IfRefused : {A : Type 0} → Answer A → Type 0 → Type 0
IfRefused (refused_at number word) P = P
IfRefused (refused number) P = P
IfRefused (gives result) P = Unit {0}

abbrev pub IfGiven : {A : Type 0} → Answer A → (A → Type 0) → Type 0
IfGiven (refused_at number word) P = Unit {0}
IfGiven (refused number) P = Unit {0}
IfGiven (gives result) P = P result

-- ---- the contract that the calls share

-- what a call is lent to write, as it is before or after the call: the word of a refusal, and room for the result
pub record Outputs (L : Type 0) : Type 0 where
  pub word : ℕ
  pub room : L

abbrev pub outputs : {L : Type 0} → ℕ → L → Outputs L
outputs word room = record { word = word; room = room }

-- the number r that is returned, and the outputs as they are left; Written says how a result stands in them
pub record Kept {A L : Type 0} (Written : A → (old new : L) → Type 0) (answered : Answer A) (old : Outputs L) (r : ℕ) (new : Outputs L)
    : Type 0 where
  pub result : r ≡ number_of answered
  pub word : new.word ≡ word_of answered old.word
  pub untouched : IfRefused answered (new.room ≡ old.room)
  pub written : IfGiven answered (λ x. Written x old.room new.room)

-- numbers in bytes at the front of a list, with what stands behind them as it was: reading them back gives the same numbers
pub record ReadsBack (numbers old new : List ℕ) : Type 0 where
  pub left : new ≡ stored numbers old
  pub read_back : read_back (length numbers) new ≡ numbers

-- ---- the answer on the sheet that bytes are

abbrev pub by_call : {A : Type 0} → Call.Answer A → Answer A
by_call (Call.refused number) = refused number
by_call (Call.gives result) = gives result

abbrev pub on_reading : {A : Type 0} → (Sheet → List ℕ → Call.Answer A) → Reader.Reading → Answer A
on_reading call (Reader.sheet s tour) = by_call (call s tour)
on_reading call (Reader.refused_at number word) = refused_at number word

-- 13 at word 0 before all else, where a lent list is too short
abbrev pub unless_short : {A : Type 0} → Bool → Answer A → Answer A
unless_short true answered = refused_at 13 0
unless_short false answered = answered
