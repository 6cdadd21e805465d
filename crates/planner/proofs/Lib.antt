-- What a contract says of a refusal, and of lists in bytes.
pub mod Refusing
pub mod InBytes
-- The evaluations of a run.
pub mod RunKept
-- The cutting of a tour.
pub mod CutKept
-- The improvers.
pub mod ImproversKept
-- The marker.
pub mod MarkKept
-- The visits of a run.
pub mod RouteKept
-- The reader.
pub mod ReadKept
