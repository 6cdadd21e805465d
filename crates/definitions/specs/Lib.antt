-- What the planner means, in whole numbers, in the order of the scope document: what a reader must believe.
-- The sheet, and what its numbers may be.
pub mod Domain
pub mod Load
pub mod Sheet
-- A run: windows, limits, the break at a given call, by the clock, and with the least lateness pay.
pub mod Window
pub mod Limits
pub mod Run
pub mod Clock
pub mod Placement
pub mod Evaluation
-- Run lists; the cutting, which calls are dropped, and demand 3.
pub mod RunList
pub mod Cutting
pub mod Drop
pub mod Promise
-- Visits; the marker, and what its marks mean.
pub mod Visits
pub mod Timeline
pub mod Marker
pub mod Marks
-- Demand 3 over what a caller is given.
pub mod Clauses
-- The two improvers.
pub mod Sort
pub mod Improver
pub mod TwoOpt
pub mod Elimination
-- The sheet in words, and the reader.
pub mod Words
pub mod Encoding
pub mod Refusal
pub mod Room
pub mod Bytes
pub mod Reader
-- What the other calls are lent, and when they refuse.
pub mod Lent
pub mod Refusals
-- The complete answer of each public call, and the listing.
pub mod Answers
pub mod Listing
