-- A record by its parts. Definitions only.
use Rattle.std.specs.Prelude.{ℕ, ◌≤◌, List, get_or}
use Rattle.definitions.specs.Words.{little_endian}
use Rattle.test_records.specs.declared.record.Part.{Part}
use Rattle.test_records.specs.declared.record.Part.TheVariants as P
use Rattle.test_records.specs.declared.record.Record.{Record}
use Rattle.test_records.specs.declared.record.Record.TheVariants as R

-- the length that four bytes say
abbrev pub length_in : List ℕ → ℕ
length_in head = little_endian (get_or head 0 0) (get_or head 1 0) (get_or head 2 0) (get_or head 3 0)

-- a part that was read has at most so many bytes
abbrev pub PartWithin : ℕ → Part → Type 0
PartWithin most (P.Whole n) = n ≤ most
PartWithin most P.End = Unit {0}
PartWithin most P.CutShort = Unit {0}
PartWithin most P.TooLong = Unit {0}

-- so have question and answer of a record that was read
abbrev pub RecordWithin : ℕ → ℕ → Record → Type 0
RecordWithin asked answered (R.Whole n m) = (n ≤ asked) × (m ≤ answered)
RecordWithin asked answered R.End = Unit {0}
RecordWithin asked answered R.CutShort = Unit {0}
RecordWithin asked answered R.TooLong = Unit {0}

-- a question of n bytes with its answer; without one the record is cut short
abbrev pub with_answer : ℕ → Part → Record
with_answer n (P.Whole m) = R.Whole n m
with_answer n P.End = R.CutShort
with_answer n P.CutShort = R.CutShort
with_answer n P.TooLong = R.TooLong
