-- What a record shows. Definitions only.
use Rattle.std.specs.Prelude.{Bool, true, false, cond}
use Rattle.test_records.specs.declared.seen.Seen.{Seen}
use Rattle.test_records.specs.declared.seen.Seen.TheVariants.{Alike, Unlike, Noticed, Missed, End, CutShort, TooLong}

-- by whether the recorded answer is wrong on purpose, and whether it is the computed one
abbrev pub seen_of : Bool → Bool → Seen
seen_of wrong alike = cond wrong (cond alike Missed Noticed) (cond alike Alike Unlike)

-- an answer was compared
abbrev pub is_answer : Seen → Bool
is_answer Alike = true
is_answer Unlike = true
is_answer Noticed = true
is_answer Missed = true
is_answer End = false
is_answer CutShort = false
is_answer TooLong = false
