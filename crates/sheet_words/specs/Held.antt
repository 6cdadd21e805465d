-- What the code's structs and enums hold, as the records of crates/definitions. Definitions only.
use Rattle.std.specs.Prelude.{ℕ, Bool, true, cond, List, [], set, eqb, Option, None, Some}
use Rattle.definitions.specs.Words as D
use Rattle.definitions.specs.Reader as Reader
use Rattle.sheet_words.specs.declared.Word.{Word}
use Rattle.sheet_words.specs.declared.state.State.{State}
use Rattle.sheet_words.specs.declared.check.Checked.{Checked}
use Rattle.sheet_words.specs.declared.check.Checked.TheVariants.{Accepted, Refused}

abbrev pub held_word : Word → D.Word
held_word w = record { kind = w.kind; value = w.value }

-- where there is no word: a kind that no word has
abbrev pub no_word : D.Word
no_word = D.word 16 0

-- the code's state beside the calls of the tour so far, of which the code has notes, and the distances whose times have yet to come, which
-- the code finds among the words
abbrev pub state_with : List ℕ → List ℕ → State → Reader.State
state_with called facing s =
    record { last = held_word s.last; row = s.row; places = s.places; coming = s.coming; called = called; facing = facing }

-- for the tests that do not ask which those are
abbrev pub state_of : State → Reader.State
state_of s = state_with [] [] s

-- the notes of the customers called, behind one more word
abbrev pub notes_with : List Bool → D.Word → List Bool
notes_with called w = cond (eqb w.kind 0xE) (set called w.value true) called

abbrev pub outcome_of : Checked → Reader.Outcome
outcome_of Accepted = Reader.accepted
outcome_of (Refused number word) = Reader.refused number word
