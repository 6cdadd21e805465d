-- What the reader's answer says, and what the arrays hold then.
pub mod Reading
pub mod Loading
pub mod HeadHeld
