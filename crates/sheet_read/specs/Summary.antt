-- What the reading of a sheet says before its parts are written: its head and how many of each part it has, or a refusal. Definitions only.
use Rattle.std.specs.Prelude.{ℕ, Float, length}
use Rattle.definitions.specs.Sheet.{HeadOf}
use Rattle.definitions.specs.Reader as Reader
use Rattle.definitions.specs.Reader.{sheet, refused_at}
use Rattle.models.specs.Image.{fl_sheet}
use Rattle.models.specs.Records.{head_of}
use Rattle.sheet_read.specs.declared.read.Contents.{Contents}
use Rattle.sheet_read.specs.declared.read.Reading.{Reading}
use Rattle.sheet_read.specs.declared.read.Reading.TheVariants.{Sheet, Refused}

-- the head, and how many of each part
pub record Counted : Type 0 where
  pub head : HeadOf Float
  pub customers : ℕ
  pub distances : ℕ
  pub times : ℕ
  pub calls : ℕ

pub data Summary : Type 0 where
  holds : Counted → Summary
  -- number, and word index from 0
  refused : ℕ → ℕ → Summary

abbrev pub summary_of : Reader.Reading → Summary
summary_of (sheet s tour) =
    holds
    (record {
      head = (fl_sheet s).head;
      customers = length s.customers;
      distances = length s.legs.distances;
      times = length s.legs.times;
      calls = length tour;
    })
summary_of (refused_at number word) = refused number word

-- what the code's answer holds
abbrev pub held_counts : Contents → Counted
held_counts c = record { head = head_of c.head; customers = c.customers; distances = c.distances; times = c.times; calls = c.calls }

abbrev pub held_summary : Reading → Summary
held_summary (Sheet c) = holds (held_counts c)
held_summary (Refused number word) = refused number word
