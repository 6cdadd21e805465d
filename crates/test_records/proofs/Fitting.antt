-- The lengths of a record that was read are within its buffers. Assumes nothing.
use Prim.Native.Nat.{ℕ, ◌≤◌}
use Rattle.test_records.specs.declared.record.Part.{Part}
use Rattle.test_records.specs.declared.record.Part.TheVariants.{Whole, End, CutShort, TooLong}
use Rattle.test_records.specs.Records.{PartWithin, RecordWithin, with_answer}

pub with-answer-within : (n asked answered : ℕ) (answer : Part) → n ≤ asked → PartWithin answered answer → RecordWithin asked answered (with_answer n answer)
with-answer-within n asked answered (Whole m) h k = (h, k)
with-answer-within n asked answered End h k = tt
with-answer-within n asked answered CutShort h k = tt
with-answer-within n asked answered TooLong h k = tt
