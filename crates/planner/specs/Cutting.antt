-- The contract of a cutting. Definitions only.
use Rattle.std.specs.Prelude.{ℕ, ◌≡◌, List, length, take, Float, Option, None, Some}
use Rattle.definitions.specs.Sheet.{Sheet}
use Rattle.definitions.specs.Drop.{Result, split, split_by}
use Rattle.definitions.specs.Lent.{Lent, cutting}
use Rattle.definitions.specs.Room.{written}
use Rattle.definitions.specs.Bytes.{numbers_of}
use Rattle.definitions.specs.Answers.{Answer, front, answer}
use Rattle.definitions.specs.Placement.{Placement, by_clock}
use Rattle.definitions.specs.Clauses.{Legal, Sum, Least, Tied, Drops, Served, Partition, bare}
use Rattle.whole.specs.Value.{value}
use Rattle.split_tw.specs.declared.answer.SplitResult.{SplitResult}
use Rattle.call_cuts.specs.declared.cutting.Cut.{Cut}
use Rattle.call_cuts.specs.declared.cutting.Cut.TheVariants as Cases
use Rattle.call_cuts.specs.Cutting.{cut_lent, cut_in}
use Rattle.planner.specs.Calls.{LentSheet, on, meant, Refused, Untouched}

-- ---- the answer

-- the number by which it refuses
abbrev pub cut_refusal : Cut → Option ℕ
cut_refusal (Cases.Refused number) = Some number
cut_refusal (Cases.Cut counts) = None

abbrev pub IfCut : Cut → (SplitResult → Type 0) → Type 0
IfCut (Cases.Refused number) P = Unit {0}
IfCut (Cases.Cut counts) P = P counts

-- a float that is a whole number, of which P holds
abbrev pub Means : Float → (ℕ → Type 0) → Type 0
Means x P = (n : ℕ) × (value x ≡ Some n) × P n

-- ---- the numbers in the lists that are written: served customers, run ends, dropped positions

pub record CutOutput : Type 0 where
  pub served : List ℕ
  pub ends : List ℕ
  pub dropped : List ℕ

-- which are lent in bytes
abbrev pub cut_output : (served ends dropped : List ℕ) → CutOutput
cut_output served ends dropped = record { served = numbers_of served; ends = numbers_of ends; dropped = numbers_of dropped }

-- as much of each as is counted
abbrev pub counted : SplitResult → CutOutput → CutOutput
counted c x = cut_output (take c.served x.served) (take c.runs x.ends) (take c.dropped x.dropped)

-- ---- the contract

-- all that is lent, with the lengths of the lists
abbrev pub cut_on : LentSheet → List ℕ → CutOutput → Lent Float
cut_on q tour old = on q cut_lent tour (length old.served) (length old.ends) (length old.dropped)

abbrev pub cut_answer : (Sheet → List ℕ → Result) → LentSheet → List ℕ → CutOutput → Answer Result
cut_answer cut q tour old = answer value cutting (λ s. cut s tour) (cut_on q tour old)

-- for a placement of the breaks, a way to cut, and what it looks at of a sheet
module _ (p : Placement) (cut : Sheet → List ℕ → Result) (looks_at : Sheet → Sheet) (q : LentSheet) (tour : List ℕ) (old : CutOutput) where
  abbrev answered : Answer Result
  answered = cut_answer cut q tour old

  abbrev looked : Sheet
  looked = looks_at (meant q)

  -- of the answer, and of the lists as they are left
  pub record CutContract (r : Cut) (new : CutOutput) : Type 0 where
    -- the complete answer
    pub result : r ≡ cut_in answered
    pub served-left : new.served ≡ written (front (λ x. x.served) answered) old.served
    pub ends-left : new.ends ≡ written (front (λ x. x.ends) answered) old.ends
    pub dropped-left : new.dropped ≡ written (front (λ x. x.dropped) answered) old.dropped
    -- by which number it is refused, if by one; nothing is written then
    pub refused : Refused cutting (cut_on q tour old) (cut_refusal r)
    pub untouched : Untouched (cut_refusal r) old new
    -- the runs returned are a legal cutting of the served calls
    pub legal : IfCut r (λ c. let x = counted c new in Legal p looked x.served x.ends)
    -- their costs add up to the cost returned
    pub sum : IfCut r (λ c. let x = counted c new in Means c.cost (λ n. Sum p looked x.served x.ends n))
    -- no other legal cutting of the served calls costs less: by the clock as `Least` says, by least pay whatever its break places, lateness
    -- pay or not
    pub least : IfCut r (λ c. let x = counted c new in Means c.cost (λ n. Least p looked x.served n))
    -- of equal cost the earlier cut point is kept
    pub ties : IfCut r (λ c. let x = counted c new in Tied p looked x.served x.ends)
    -- the positions held in the end (none where the call is refused): their calls are the served ones
    pub held : List ℕ
    pub served-are : IfCut r (λ c. Served tour held (counted c new).served)
    -- each dropped call ends the shortest beginning, of the calls then held, that has no legal cutting
    pub drops : IfCut r (λ c. Drops looked tour held (counted c new).dropped)
    -- each position of the tour is held or dropped, and none is both
    pub partition : IfCut r (λ c. Partition tour held (counted c new).dropped)

-- by loads and closed legs alone: windows, limits and break are not looked at, and so there is no break to place
abbrev pub SplitContract : LentSheet → List ℕ → CutOutput → Cut → CutOutput → Type 0
SplitContract q tour old r new = CutContract by_clock split bare q tour old r new

-- by all that the sheet has
abbrev pub SplitTwContract : Placement → LentSheet → List ℕ → CutOutput → Cut → CutOutput → Type 0
SplitTwContract p q tour old r new = CutContract p (split_by p) (λ s. s) q tour old r new
