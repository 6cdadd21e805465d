-- Reading a call's record, what each record asks for, and the load of calls.
pub mod Reading
pub mod Demands
pub mod Loading
-- The clock, and the way with no break, as a run grows by a call.
pub mod Growing
pub mod Driving
-- On whole numbers within the limits all that is that of the definitions.
pub mod ClockExact
pub mod RouteExact
pub mod ChecksExact
