-- The contract of the marker. Definitions only.
use Rattle.std.specs.Prelude.{ℕ, ◌≡◌, true, List, map, Float, Option, None, Some}
use Rattle.basics.specs.Options.{present}
use Rattle.definitions.specs.Sheet.{Sheet, lateness_pay}
use Rattle.definitions.specs.Run.{Run}
use Rattle.definitions.specs.RunList.{runs_of}
use Rattle.definitions.specs.Marker as Whole
use Rattle.definitions.specs.Marker.{with_places, verdict_number, verdict_values}
use Rattle.definitions.specs.Placement.{Placement, by_clock, by_pay}
use Rattle.definitions.specs.Drop.{split_by}
use Rattle.definitions.specs.Marks.{Says}
use Rattle.definitions.specs.Lent.{Lent, marking}
use Rattle.definitions.specs.Answers.{mark_by_of}
use Rattle.whole.specs.Whole.{fl}
use Rattle.whole.specs.Value.{value}
use Rattle.marker.specs.declared.verdict.Verdict.{Verdict}
use Rattle.marker.specs.declared.verdict.Verdict.TheVariants.{Cheaper}
use Rattle.marker.specs.Image.{fl_verdict}
use Rattle.marker.specs.Figures.{number_in, values_in}
use Rattle.call_cuts.specs.declared.marking.Marking.{Marking}
use Rattle.call_cuts.specs.declared.marking.Marking.TheVariants as Cases
use Rattle.call_cuts.specs.Marking.{mark_lent, mark_in}
use Rattle.planner.specs.Calls.{LentSheet, on, meant, Refused}

-- ---- the answer

-- the number by which it refuses
abbrev pub mark_refusal : Marking → Option ℕ
mark_refusal (Cases.Refused number) = Some number
mark_refusal (Cases.Verdict verdict) = None

abbrev pub IfMarked : Marking → (Verdict → Type 0) → Type 0
IfMarked (Cases.Refused number) P = Unit {0}
IfMarked (Cases.Verdict verdict) P = P verdict

-- a verdict that holds one of whole numbers, of which P is true
abbrev pub HoldsOne : Verdict → (Whole.Verdict → Type 0) → Type 0
HoldsOne v P = (w : Whole.Verdict) × (v ≡ fl_verdict w) × P w

-- by its number and values it is the verdict w
pub record ByFigures (v : Verdict) (w : Whole.Verdict) : Type 0 where
  pub number : number_in v ≡ verdict_number w
  pub values : values_in v ≡ map fl (verdict_values w)

-- by the clock, where the verdict is Cheaper there is lateness pay and a break; by least pay it never is
abbrev pub CheaperOnly : Placement → Sheet → Verdict → Type 0
CheaperOnly by_clock s v = (by : Float) → v ≡ Cheaper by → (lateness_pay s ≡ true) × (present s.head.rest ≡ true)
CheaperOnly by_pay s v = (by : Float) → v ≡ Cheaper by → ⊥

-- ---- the contract

-- the runs that calls, run ends and break places make
abbrev pub runs_given : (calls ends breaks : List ℕ) → List Run
runs_given calls ends breaks = with_places (runs_of calls ends) breaks

-- all that is lent
abbrev pub mark_on : LentSheet → (tour calls ends breaks : List ℕ) → Lent Float
mark_on q tour calls ends breaks = on q mark_lent tour calls ends breaks

-- against the planner's cutting by this placement
module _ (p : Placement) (q : LentSheet) (tour calls ends breaks : List ℕ) where
  abbrev lent : Lent Float
  lent = mark_on q tour calls ends breaks

  -- a verdict says so of the runs
  abbrev pub SaysSo : Whole.Verdict → Type 0
  SaysSo w = Says (meant q) (split_by p (meant q) tour) (runs_given calls ends breaks) w

  -- of the answer
  pub record MarkContract (r : Marking) : Type 0 where
    -- the complete answer
    pub result : r ≡ mark_in (mark_by_of value p lent)
    -- by which number it is refused, if by one
    pub refused : Refused marking lent (mark_refusal r)
    -- what the verdict says of the runs
    pub says : IfMarked r (λ v. HoldsOne v SaysSo)
    -- no other verdict says so of them
    pub no_other : IfMarked r (λ v. (w : Whole.Verdict) → SaysSo w → v ≡ fl_verdict w)
    -- its number and values
    pub figures : IfMarked r (λ v. ByFigures v (Whole.mark_by p (meant q) tour (runs_given calls ends breaks)))
    -- when it is Cheaper
    pub cheaper : IfMarked r (CheaperOnly p (meant q))
