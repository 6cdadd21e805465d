-- The refusals in words. Definitions only.
use Rattle.std.specs.Prelude.{ℕ, cond, List, [], ◌∷◌, eqb}
use Prim.Native.String.{String}
use Rattle.definitions.specs.Listing.{text}

-- a line of the table below: the refusal of this number
pub record Meaning : Type 0 where
  pub number : ℕ
  pub words : List ℕ

abbrev pub meaning : ℕ → String → Meaning
meaning n w = record { number = n; words = text w }

-- the one table of what the numbers mean: library/lizsomdur.h, the Rust package and docs/SHEET.md have the same words (tools/words)
unfoldable pub meanings : List Meaning
meanings =
    meaning 1 "a number out of range, more than 128 calls, or a call that is no customer"
    ∷ meaning 2 "ready above due, or earliest above latest"
    ∷ meaning 3 "F counts wrongly, or something stands behind it"
    ∷ meaning 4 "lateness pay, on a sheet for an improver"
    ∷ meaning 5 "run ends that fall or miss the number of calls, or in a mark an empty run or a wrong break place"
    ∷ meaning 11 "a kind that may not stand here"
    ∷ meaning 12 "the words end before F"
    ∷ meaning 13 "a lent list too short"
    ∷ meaning 21 "a repeated customer, whom an earlier E word has called"
    ∷ meaning 22 "distance and time disagree on closure"
    ∷ meaning 23 "a closed leg, on a sheet for an improver"
    ∷ []

abbrev pub words_in : List Meaning → ℕ → List ℕ
words_in [] n = []
words_in (m ∷ ms) n = cond (eqb n m.number) m.words (words_in ms n)

-- what the refusal of number n means; nothing for a number that is none
abbrev pub meaning_of : ℕ → List ℕ
meaning_of n = words_in meanings n
