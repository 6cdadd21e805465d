-- The texts computed on examples.
pub mod CuttingTextCases
pub mod SheetTextCases
-- A plan's text, given back as a cutting, is read as the plan's runs and marked Best; so is the listing of every accepted sheet.
pub mod CuttingSteps
pub mod CuttingBack
pub mod OwnText
pub mod ListedBack
-- Accepted words, shown as text and written again, are the same words.
pub mod SheetSteps
pub mod SheetLeads
pub mod SheetShown
-- What is known of the run ends that are read.
pub mod ReadRuns
-- Marks in words on examples; the listing of every accepted sheet is printed as best.
pub mod MarkTextCases
pub mod ListedMarked
-- Timelines in words on examples.
pub mod TimesTextCases
