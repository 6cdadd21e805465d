-- How many answers were replayed, and which of them are not as they should be. Definitions only.
use Rattle.std.specs.Prelude.{ℕ, ◌+◌, ◌≤◌, Bool, true, false, cond, eqb}
use Rattle.test_records.specs.declared.seen.Seen.{Seen}
use Rattle.test_records.specs.declared.seen.Seen.TheVariants.{Alike, Unlike, Noticed, Missed, End, CutShort, TooLong}
use Rattle.test_records.specs.declared.tally.Tally.{Tally}
use Rattle.test_records.specs.declared.tally.Weight.{Weight}

-- no more answers are replayed in one run
abbrev pub most_answers : ℕ
most_answers = 1000000000000

abbrev pub nothing_yet : Tally
nothing_yet = record { answers = 0; wrong = 0; noticed = 0; unlike = 0; first = 0 }

-- what an answer adds to each count, and whether it is not as it should be
abbrev pub weight : (wrong noticed unlike : ℕ) → Bool → Weight
weight wrong noticed unlike amiss = record { wrong = wrong; noticed = noticed; unlike = unlike; amiss = amiss }

abbrev pub weight_of : Seen → Weight
weight_of Alike = weight 0 0 0 false
weight_of Unlike = weight 0 0 1 true
weight_of Noticed = weight 1 1 0 false
weight_of Missed = weight 1 0 0 true
weight_of End = weight 0 0 0 false
weight_of CutShort = weight 0 0 0 false
weight_of TooLong = weight 0 0 0 false

-- the first answer that is not as it should be: this one, where it is so and none was before
abbrev pub first_of : ℕ → ℕ → Bool → ℕ
first_of first answer amiss = cond amiss (cond (eqb first 0) answer first) first

-- one answer more
unfoldable pub counted_with : Tally → Seen → Tally
counted_with t seen =
    let w = weight_of seen in
    record {
      answers = t.answers + 1;
      wrong = t.wrong + w.wrong;
      noticed = t.noticed + w.noticed;
      unlike = t.unlike + w.unlike;
      first = first_of t.first (t.answers + 1) w.amiss;
    }

-- the numbers are those of a run
pub record InRun (t : Tally) : Type 0 where
  pub many : t.answers ≤ most_answers
  pub some-wrong : t.wrong ≤ t.answers
  pub some-noticed : t.noticed ≤ t.answers
  pub some-unlike : t.unlike ≤ t.answers
