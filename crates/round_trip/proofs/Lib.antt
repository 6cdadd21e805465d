-- What the words of a sheet say, kind by kind, and that the reader takes them.
pub mod ByKind
pub mod Says
pub mod Good
pub mod Accepts
-- What `encode` writes is read back, and only that is accepted; in words, and in bytes.
pub mod ReadsBack
pub mod Inverts
pub mod OnlySheets
pub mod Bytes
pub mod Files
-- How many bytes decide.
pub mod Enough
