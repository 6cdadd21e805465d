-- The plan of a sheet in whole numbers, for either placement: the cut, and when the breaks of its runs start. Definitions only.
use Rattle.std.specs.Prelude.{ℕ, ◌≤◌, ◌≡◌, List, [], ◌∷◌, map, Float, length}
use Rattle.basics.specs.Options.{value_or}
use Rattle.whole.specs.Whole.{fl}
use Rattle.cut_theory.specs.Tab.{most_cut}
use Rattle.definitions.specs.Sheet.{Sheet}
use Rattle.definitions.specs.Clock.{start_of}
use Rattle.definitions.specs.Placement.{Placement}
use Rattle.definitions.specs.Drop.{Result, split_by}
use Rattle.definitions.specs.Marker.{with_places}
use Rattle.definitions.specs.Room.{written}
use Rattle.definitions.specs.Bytes.{stored}
use Rattle.definitions.specs.RunList.{runs_of}
use Rattle.split_tw.specs.declared.answer.SplitResult.{SplitResult}
use Rattle.sheet_plan.specs.Cut.{CutLists, cut_lists, CutLeft}

-- the cutting of `split_tw`, and when the break of each run starts, 0 where it has none
pub record Plan : Type 0 where
  pub cut : Result
  pub starts : List ℕ

abbrev pub starts_of : Sheet → Result → List ℕ
starts_of s x = map (λ r. value_or 0 (start_of s r)) (with_places (runs_of x.served x.ends) x.places)

unfoldable pub plan : Placement → Sheet → List ℕ → Plan
plan p s tour = let x = split_by p s tour in record { cut = x; starts = starts_of s x }

-- how many calls are served, runs made and calls dropped
abbrev pub counts_of : Plan → List ℕ
counts_of p = length p.cut.served ∷ length p.cut.ends ∷ length p.cut.dropped ∷ []

-- cost and distance
abbrev pub totals_of : Plan → List Float
totals_of p = fl p.cut.cost ∷ fl p.cut.distance ∷ []

-- the lists that a plan is written to, as they are before or after it
pub record PlanLists : Type 0 where
  pub cut : CutLists
  pub places : List ℕ
  pub starts : List Float

abbrev pub plan_lists : (served ends places : List ℕ) (starts : List Float) (dropped : List ℕ) → PlanLists
plan_lists served ends places starts dropped = record { cut = cut_lists served ends dropped; places = places; starts = starts }

-- each list has room for the longest tour
abbrev pub Roomy : PlanLists → Type 0
Roomy l =
    (most_cut ≤ length l.cut.served) × (most_cut ≤ length l.cut.ends) × (most_cut ≤ length l.places)
    × (most_cut ≤ length l.starts) × (most_cut ≤ length l.cut.dropped)

-- what a plan comes to, and the lists as it leaves them: each run has a place and a start
pub record Left (p : Plan) (r : SplitResult) (old new : PlanLists) : Type 0 where
  pub cut : CutLeft p.cut r old.cut new.cut
  pub places_count : r.runs ≡ length p.cut.places
  pub starts-count : r.runs ≡ length (map fl p.starts)
  pub places-left : new.places ≡ written p.cut.places old.places
  pub starts-left : new.starts ≡ written (map fl p.starts) old.starts

-- the same where its lists, but for the starts, are in bytes
pub record LeftInBytes (p : Plan) (r : SplitResult) (old new : PlanLists) : Type 0 where
  pub counts : r.served ∷ r.runs ∷ r.dropped ∷ [] ≡ counts_of p
  pub totals : r.cost ∷ r.distance ∷ [] ≡ totals_of p
  pub served-left : new.cut.served ≡ stored p.cut.served old.cut.served
  pub ends-left : new.cut.ends ≡ stored p.cut.ends old.cut.ends
  pub places-left : new.places ≡ stored p.cut.places old.places
  pub starts-left : new.starts ≡ written (map fl p.starts) old.starts
  pub dropped-left : new.cut.dropped ≡ stored p.cut.dropped old.cut.dropped
