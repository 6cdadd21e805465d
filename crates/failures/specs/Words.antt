-- The words of an error's text. Definitions only.
use Rattle.std.specs.Prelude.{ℕ, List, ◌++◌, ◌≡◌, ◌≢◌, ◌⊎◌, codes}

-- what stands before an error's number
abbrev pub number_lead : List ℕ
number_lead = codes " (os error "

-- what stands before the number, or the whole text where it has none
abbrev pub IsWordsOf : List ℕ → List ℕ → Type 0
IsWordsOf said words =
    ((rest : List ℕ) × (said ≡ words ++ (number_lead ++ rest)))
    ⊎ ((words ≡ said) × ((front rest : List ℕ) → said ≢ front ++ (number_lead ++ rest)))
