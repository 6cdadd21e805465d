-- The laws of these words, each once.
pub mod TestLaws
pub mod OptionLaws
pub mod ResultLaws
pub mod ListLaws
pub mod Parts
