-- What the code's structs and enums hold, in the words of the definitions.
pub mod Held
