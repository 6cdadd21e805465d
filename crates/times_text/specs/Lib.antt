-- What the contracts of the timelines' text cite.
pub mod Runs
