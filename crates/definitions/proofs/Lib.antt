-- The definitions computed on examples: a wrong definition fails one of them. (What holds for every sheet is in crates/theorems.)
-- The bench cases, the edge of the break, and case m's listing.
pub mod Bench
pub mod Cases
pub mod EdgeCases
pub mod ListingCases
-- The reader, and the refusals of the other calls.
pub mod ReaderCases
pub mod RefusalCases
pub mod AnswerCases
-- Evaluation, visits and marker.
pub mod EvaluationCases
pub mod VisitCases
pub mod MarkCases
-- The break where the least is paid for lateness.
pub mod PlacementCases
-- The improvers.
pub mod ImproverCases
-- What these do not tell apart: sheets without numbers that are alike by chance, and the range of each number.
pub mod FurtherSheets
pub mod FurtherCases
pub mod RangeCases
-- Wheelchair places beside seats.
pub mod WheelchairCases
-- Legs without a road.
pub mod RoadCases
-- Numbers in bytes.
pub mod ByteCases
-- Laws of loads.
pub mod LoadLaws
