-- The drops call by call, in the tour's order.
pub mod Onward
-- A call too heavy alone never stays.
pub mod Barred
-- To drop such calls first changes nothing.
pub mod First
-- What the loops keep, and what is held of the calls that fit alone.
pub mod Writing
pub mod Light
