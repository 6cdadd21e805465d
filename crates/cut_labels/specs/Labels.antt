-- The labels of a run that has taken its break, one for each call at which it was taken, as they stand in lists of numbers; the labels with
-- a call more, and the best way home. Definitions only.
use Rattle.std.specs.Prelude.{ℕ, zero, suc, ◌<◌, ◌≤◌, ◌≡◌, List, [], ◌∷◌, ◌++◌, length, get_or, Float, Option, None, Some}
use Rattle.std.specs.Float.{nan}
use Rattle.basics.specs.Options.{◌>>=◌}
use Rattle.cut_theory.specs.Tab.{cells}
use Rattle.definitions.specs.Sheet.{BreakOf, CustomerOf}
use Rattle.clock.specs.declared.schedule.Label.{Label}
use Rattle.clock.specs.declared.schedule.Scheduled.{Scheduled}
use Rattle.clock.specs.Serving.{serve_f, carry_f}
use Rattle.clock.specs.Least.{KeptF, kept_home_f, excused_home_f, pick_f}

-- ---- the lists

pub record Lists : Type 0 where
  pub times : List Float
  pub lates : List Float
  pub pays : List Float
  pub places : List ℕ

abbrev pub lists : List Float → List Float → List Float → List ℕ → Lists
lists times lates pays places = record { times = times; lates = lates; pays = pays; places = places }

-- each has all its cells
pub record Full (x : Lists) : Type 0 where
  pub times_long : length x.times ≡ cells
  pub lates-long : length x.lates ≡ cells
  pub pays-long : length x.pays ≡ cells
  pub places-long : length x.places ≡ cells

-- label number k, from 0
unfoldable pub label_at : Lists → ℕ → Label
label_at x k =
    record {
      time = get_or x.times k nan;
      lateness = get_or x.lates k nan;
      cost = get_or x.pays k nan;
      place = get_or x.places k 0;
    }

-- the first n labels
unfoldable pub labels_in : Lists → ℕ → List Label
labels_in x zero = []
labels_in x (suc n) = labels_in x n ++ label_at x n ∷ []

-- ---- labels that may be none

-- what there is, as a list
abbrev pub listed : Option Label → List Label
listed None = []
listed (Some l) = l ∷ []

-- what f makes of each label, where it makes one
unfoldable pub kept : (Label → Option Label) → List Label → List Label
kept f [] = []
kept f (l ∷ ls) = listed (f l) ++ kept f ls

-- ---- what the code does with the lists

-- a label, if there is one, is put behind the first n; r are there then
pub record Put (n : ℕ) (o : Option Label) (old new : Lists) (r : ℕ) : Type 0 where
  pub full : Full new
  pub most : r ≤ suc n
  pub are : labels_in new r ≡ labels_in old n ++ listed o
  pub behind : (k : ℕ) → n < k → label_at new k ≡ label_at old k

-- each of n labels has served call number k, a travel time away, or is left out; r are left
pub record Carried (c : CustomerOf Float) (k : ℕ) (travel : Float) (n : ℕ) (old new : Lists) (r : ℕ) : Type 0 where
  pub full : Full new
  pub fewer : r ≤ n
  pub are : labels_in new r ≡ kept (serve_f c None k travel) (labels_in old n)

-- the same, with the break taken here from the label before it behind them
pub record Served (c : CustomerOf Float) (b : BreakOf Float) (k : ℕ) (travel : Float) (before : Option Label) (n : ℕ)
    (old new : Lists) (r : ℕ) : Type 0 where
  pub full : Full new
  pub most : r ≤ suc n
  pub are : labels_in new r ≡ kept (serve_f c None k travel) (labels_in old n) ++ listed (carry_f c (Some b) k travel before)

-- ---- the best way home

module _ (limits : KeptF) (distance back : Float) where
  -- without a break
  abbrev pub unbroken_f : BreakOf Float → Option Label → Option Scheduled
  unbroken_f b o = o >>= excused_home_f b limits distance back

  -- after those before, each of these labels
  unfoldable pub best_from : Option Scheduled → List Label → Option Scheduled
  best_from best [] = best
  best_from best (l ∷ ls) = best_from (pick_f best (kept_home_f limits distance back l)) ls

  abbrev pub best_f : BreakOf Float → Option Label → List Label → Option Scheduled
  best_f b before ls = best_from (unbroken_f b before) ls
