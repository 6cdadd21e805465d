-- What is proved of the definitions, for every sheet. (Their computed cases are in crates/definitions; that what `encode` writes is read back, and only that is accepted, is in crates/round_trip.)
-- Legs that can be driven.
pub mod Roads
-- The break: serving is monotone in time, and the clock is as good as any place.
pub mod Serving
pub mod Places
pub mod Legality
-- The break where the least is paid for lateness.
pub mod Picking
pub mod LeastPay
pub mod Labels
-- The cutting: least, attained, of equals the earliest, by the generic theory.
pub mod Recurrence
pub mod Bridge
pub mod Least
-- The drop rule, and demand 3 as a whole.
pub mod Shortest
pub mod Dropping
pub mod Pricing
pub mod Placing
pub mod Ties
pub mod Promised
pub mod RunListLaws
pub mod Sentences
-- The two placements of the break beside each other.
pub mod Beside
-- Without window, limit and break.
pub mod Plain
pub mod Agreement
pub mod Bare
-- Without wheelchair places.
pub mod SeatsAlone
-- Without a closed leg.
pub mod OpenSplit
-- Refusals in order, whatever stands in the list.
pub mod InOrder
-- What an accepted call is known to be; a tour with a customer twice; the reader's leftmost bad word, and the one that it names by 21; a number as text.
pub mod Ranges
pub mod Repeats
pub mod Again
pub mod Accepted
pub mod Leftmost
pub mod NamedRepeat
pub mod Decimal
-- The marker and the visits.
pub mod GivenRuns
pub mod Marking
pub mod Faults
pub mod GivenMarks
pub mod OwnMark
-- When breaks start.
pub mod BreakStarts
pub mod Visiting
pub mod Violations
-- The improvers.
pub mod Sums
pub mod SortLaws
pub mod LegLaws
pub mod TwoOptLaws
pub mod EliminationLaws
pub mod EliminationBound
pub mod Improving
-- Demand 3 and the marks pin their answers, and what wrong planners would return does not keep them.
pub mod OneAnswer
pub mod OneMark
pub mod WrongPlanners
