-- What several crates say of tests, of answers that may be none, and of lists: each word once.
pub mod Tests
pub mod Options
pub mod Lists
