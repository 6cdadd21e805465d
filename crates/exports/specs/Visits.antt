-- The contract of the call that tells the timeline of a run, over the bytes and the lists that it is lent. Definitions only.
use Rattle.std.specs.Prelude.{ℕ, ◌≡◌, cond, List, [], ◌∷◌, map, Float, length}
use Rattle.basics.specs.Options.{present, value_or}
use Rattle.whole.specs.Whole.{fl}
use Rattle.definitions.specs.Reader.{read}
use Rattle.definitions.specs.Room.{short, written}
use Rattle.definitions.specs.Timeline.{Timeline, rest_of}
use Rattle.bytes_visits.specs.Rows.{times_of, loads_of, numbers_of, figures_of}
use Rattle.bytes_visits.specs.Told.{Lists, lists, told_on}
use Rattle.exports.specs.Answer.{Answer, Outputs, outputs, Kept, on_reading, unless_short}

-- the rows of the timeline; how many calls are visited and violations told, and the call of the break, or 0; the totals, and when the break
-- starts, or 0
pub record VisitsRoom : Type 0 where
  pub lists : Lists
  pub counts : List ℕ
  pub totals : List Float

abbrev pub visits_outputs
    : (word : ℕ) (times : List Float) (loads violations : List ℕ) (figures : List Float) (counts : List ℕ) (totals : List Float)
    → Outputs VisitsRoom
visits_outputs word times loads violations figures counts totals =
    outputs word record { lists = lists times loads violations figures; counts = counts; totals = totals }

-- ---- the complete answer

-- each list has room for a run of 128 calls: three times and two loads for each call, and a number and three figures for each violation, of
-- which there are four more at the most
abbrev pub visits_needs : List ℕ
visits_needs = 384 ∷ 256 ∷ 132 ∷ 396 ∷ []

abbrev pub rooms_of : Lists → List ℕ
rooms_of l = length l.times ∷ length l.loads ∷ length l.numbers ∷ length l.figures ∷ []

-- the timeline of the run on the sheet that the bytes are, with its break at this place
abbrev pub visits_answer : (bytes run : List ℕ) (place : ℕ) → VisitsRoom → Answer Timeline
visits_answer bytes run place lent =
    unless_short (short visits_needs (rooms_of lent.lists)) (on_reading (λ s tour. told_on s run place) (read bytes))

-- ---- the contract

abbrev pub counts_of : Timeline → List ℕ
counts_of t = length t.stops ∷ length t.violations ∷ cond (present (rest_of t.stops)) t.totals.place 0 ∷ []

abbrev pub totals_of : Timeline → List ℕ
totals_of t =
    t.totals.distance ∷ t.totals.duration ∷ t.totals.lateness ∷ t.totals.pay ∷ value_or 0 (rest_of t.stops) ∷ []

-- a timeline at the front of the lists, with its counts and totals
pub record VisitsWritten (t : Timeline) (old new : VisitsRoom) : Type 0 where
  pub times : new.lists.times ≡ written (map fl (times_of t)) old.lists.times
  pub loads : new.lists.loads ≡ written (loads_of t) old.lists.loads
  pub violations : new.lists.numbers ≡ written (numbers_of t) old.lists.numbers
  pub figures : new.lists.figures ≡ written (map fl (figures_of t)) old.lists.figures
  pub counts : new.counts ≡ counts_of t
  pub totals : new.totals ≡ map fl (totals_of t)

abbrev pub VisitsKept : (bytes run : List ℕ) (place : ℕ) (old : Outputs VisitsRoom) (r : ℕ) (new : Outputs VisitsRoom) → Type 0
VisitsKept bytes run place old r new = Kept VisitsWritten (visits_answer bytes run place old.room) old r new
