-- Labels that are gone stay gone.
pub mod Gone
-- On whole numbers within the limits serving a call and the end of a run are those of the definitions.
pub mod ServingExact
pub mod HomeExact
