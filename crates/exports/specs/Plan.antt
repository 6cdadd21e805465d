-- The contract of the plan calls, over the bytes and the lists that they are lent. Definitions only.
use Rattle.std.specs.Prelude.{ℕ, ◌≡◌, List, [], ◌∷◌, map, Float, length}
use Rattle.whole.specs.Whole.{fl}
use Rattle.cut_theory.specs.Tab.{most_cut}
use Rattle.definitions.specs.Placement.{Placement}
use Rattle.definitions.specs.Reader.{read}
use Rattle.definitions.specs.Room.{short, written}
use Rattle.definitions.specs.Answers as Call
use Rattle.sheet_plan.specs.Plan.{Plan, plan, counts_of, totals_of, PlanLists, plan_lists}
use Rattle.exports.specs.Answer.{Answer, Outputs, outputs, Kept, ReadsBack, on_reading, unless_short}

-- the plan's lists; how many calls are served, runs made and calls dropped; cost and distance
pub record PlanRoom : Type 0 where
  pub lists : PlanLists
  pub counts : List ℕ
  pub totals : List Float

abbrev pub plan_outputs : (word : ℕ) (served ends breaks : List ℕ) (starts : List Float) (dropped counts : List ℕ) (totals : List Float)
    → Outputs PlanRoom
plan_outputs word served ends breaks starts dropped counts totals =
    outputs word record { lists = plan_lists served ends breaks starts dropped; counts = counts; totals = totals }

-- ---- the complete answer

-- each list has room for the longest tour
abbrev pub plan_needs : List ℕ
plan_needs = most_cut ∷ most_cut ∷ most_cut ∷ most_cut ∷ most_cut ∷ []

abbrev pub rooms_of : PlanLists → List ℕ
rooms_of l = length l.cut.served ∷ length l.cut.ends ∷ length l.places ∷ length l.starts ∷ length l.cut.dropped ∷ []

-- the plan of the sheet that the bytes are, for either placement of its breaks
abbrev pub plan_answer : Placement → (bytes : List ℕ) → PlanRoom → Answer Plan
plan_answer p bytes lent =
    unless_short (short plan_needs (rooms_of lent.lists)) (on_reading (λ s tour. Call.gives (plan p s tour)) (read bytes))

-- ---- the contract

-- a plan at the front of the lists, in bytes but for the starts, with its counts and totals
pub record PlanWritten (p : Plan) (old new : PlanRoom) : Type 0 where
  pub served : ReadsBack p.cut.served old.lists.cut.served new.lists.cut.served
  pub ends : ReadsBack p.cut.ends old.lists.cut.ends new.lists.cut.ends
  pub breaks : ReadsBack p.cut.places old.lists.places new.lists.places
  pub starts : new.lists.starts ≡ written (map fl p.starts) old.lists.starts
  pub dropped : ReadsBack p.cut.dropped old.lists.cut.dropped new.lists.cut.dropped
  pub counts : new.counts ≡ counts_of p
  pub totals : new.totals ≡ totals_of p

abbrev pub PlanKept : Placement → (bytes : List ℕ) (old : Outputs PlanRoom) (r : ℕ) (new : Outputs PlanRoom) → Type 0
PlanKept p bytes old r new = Kept PlanWritten (plan_answer p bytes old.room) old r new
