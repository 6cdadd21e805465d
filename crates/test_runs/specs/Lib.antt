-- What the contracts of the recorded answers cite.
pub mod Alike
pub mod Along
pub mod Words
pub mod Runs
