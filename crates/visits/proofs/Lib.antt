-- The walk through the calls, and the list of violations.
pub mod Walking
pub mod Checking
pub mod Assembling
-- On a sheet within the limits all that is that of the definitions.
pub mod Resting
pub mod VisitsExact
pub mod BuildExact
pub mod Figures
