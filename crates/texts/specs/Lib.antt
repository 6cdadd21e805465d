-- What the programs read and print, beside the listing: definitions in whole numbers.
-- A cutting as text, as the listing prints it.
pub mod CuttingText
-- The refusals in words.
pub mod Meaning
-- A sheet as text that a person can write.
pub mod SheetText
-- The mark of a cutting in words.
pub mod MarkText
-- The timelines of a cutting's runs, in words.
pub mod TimesText
