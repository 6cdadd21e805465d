-- The stops of a run: their visits, and when the break starts.
pub mod Stops
-- With the break where the clock puts it.
pub mod AtTheClock
-- The code's loop and its answer.
pub mod Beginning
pub mod Assembling
-- On a sheet within the limits the timeline is that of the definitions.
pub mod Agreeing
pub mod TimelineExact
