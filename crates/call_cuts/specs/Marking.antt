-- What the marker answers over what it is lent: the enum's case for each case of the complete answer of crates/definitions, each figure
-- held in a float. Definitions only.
use Rattle.std.specs.Prelude.{ℕ, List, [], Float}
use Rattle.definitions.specs.Lent.{Lent}
use Rattle.definitions.specs.Marker as Whole
use Rattle.definitions.specs.Answers.{Answer, refused, gives, mark_by_of}
use Rattle.whole.specs.Value.{value}
use Rattle.models.specs.declared.customer.Customer.{Customer}
use Rattle.models.specs.declared.head.Head.{Head}
use Rattle.models.specs.declared.placement.Placement.{Placement}
use Rattle.refuse_order.specs.Lent.{sheet_of, lent_of}
use Rattle.placements.specs.Chosen.{placement_of}
use Rattle.split_tw.specs.SplitTw.{split_tw_f}
use Rattle.marker.specs.declared.verdict.Verdict as Code
use Rattle.marker.specs.RunMark.{ground_of}
use Rattle.marker.specs.Marks.{mark_f}
use Rattle.marker.specs.Image.{fl_verdict}
use Rattle.call_cuts.specs.Stored.{timed_of}
use Rattle.call_cuts.specs.declared.marking.Marking.{Marking}
use Rattle.call_cuts.specs.declared.marking.Marking.TheVariants.{Refused, Verdict}

-- the sheet, the tour, and the runs given with their break places; nothing is written
abbrev pub mark_lent : Head → List Customer → List Float → List Float → (tour calls ends places : List ℕ) → Lent Float
mark_lent head customers distances times tour calls ends places = lent_of (sheet_of head customers distances times) tour calls ends places []

abbrev pub mark_in : Answer Whole.Verdict → Marking
mark_in (refused number) = Refused number
mark_in (gives verdict) = Verdict (fl_verdict verdict)

-- with whatever customers
abbrev pub mark_for : Head → List Float → List Float → (tour calls ends places : List ℕ) → Placement → List Customer → Marking
mark_for head distances times tour calls ends places placement cs =
    mark_in (mark_by_of value (placement_of placement) (mark_lent head cs distances times tour calls ends places))

-- ---- as the code reckons it

-- on floats: the mark against the planner's own cut of the tour
abbrev pub marked_f : Head → List Customer → List Float → List Float → (tour calls ends places : List ℕ) → Placement → Code.Verdict
marked_f head customers distances times tour calls ends places placement =
    let cut = split_tw_f (timed_of head customers distances times placement) tour in
    mark_f (ground_of customers distances times head) cut.served cut.cost calls ends places
