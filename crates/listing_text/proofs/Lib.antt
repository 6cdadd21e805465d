-- What the proofs of the listing share: the text of a plan's lists, and that of bytes.
pub mod PlanPrinted
pub mod Listed
pub mod FirstBytes
