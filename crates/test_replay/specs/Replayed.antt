-- What a record shows, by its kind. Definitions only.
use Rattle.std.specs.Prelude.{ℕ, Bool, false, cond, ◌||◌, List, [], ◌∷◌, eqb}
use Prim.Native.Char.{code}
use Rattle.definitions.specs.Listing.{listing}
use Rattle.test_records.specs.declared.seen.Seen.{Seen}
use Rattle.test_records.specs.declared.seen.Seen.TheVariants.{Unlike}
use Rattle.test_records.specs.Seen.{seen_of}
use Rattle.test_runs.specs.Alike.{same_list}
use Rattle.test_lists.specs.Answers.{runs_alike}

abbrev pub one_of : ℕ → ℕ → ℕ → Bool
one_of kind a b = eqb kind a || eqb kind b

-- a sheet, whose answer is its listing
abbrev pub of_sheet : ℕ → Bool
of_sheet kind = one_of kind (code "s") (code "S")

-- a run list
abbrev pub of_runs : ℕ → Bool
of_runs kind = one_of kind (code "r") (code "R")

-- the recorded answer is wrong on purpose
abbrev pub is_wrong : ℕ → Bool
is_wrong kind = one_of kind (code "S") (code "R")

-- the recorded answer is the computed one; no other kind of question has an answer
abbrev pub answer_alike : ℕ → List ℕ → List ℕ → Bool
answer_alike kind asked recorded =
    cond (of_sheet kind) (same_list (listing asked) recorded) (cond (of_runs kind) (runs_alike asked recorded) false)

-- the first byte of a question says its kind
unfoldable pub seen_in : List ℕ → List ℕ → Seen
seen_in [] recorded = Unlike
seen_in (kind ∷ asked) recorded = seen_of (is_wrong kind) (answer_alike kind asked recorded)
