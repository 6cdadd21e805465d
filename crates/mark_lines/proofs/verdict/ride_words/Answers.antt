-- `verdict::ride_words` meets its contract. Assumes nothing.
use native.Mathlib.Omega.{arith}
use Rattle.mark_lines.specs.Verdicts.{words_f}
use Rattle.mark_lines.proofs.verdict.ride_words.Goals as goal

pub returns-in-BreakTooLate : goal.returns-in-BreakTooLate
unfolding words_f
returns-in-BreakTooLate c =
    let late-break = c in
    let v = late-break in
    let w = late-break.late_break.ensures in
    record { text = λ served calls planned. rw c.in-BreakTooLate.is w.text; short = omega (arith, w.short) }

pub returns-in-WindowMissed : goal.returns-in-WindowMissed
unfolding words_f
returns-in-WindowMissed c =
    let missed-window = c in
    let v2 = missed-window in
    let w = missed-window.missed_window.ensures in
    record { text = λ served calls planned. rw c.in-WindowMissed.is w.text; short = omega (arith, w.short) }

pub returns-in-BreakMissing : goal.returns-in-BreakMissing
unfolding words_f
returns-in-BreakMissing c =
    let missing-break = c in
    let v3 = missing-break in
    let w = missing-break.missing_break.ensures in
    record { text = λ served calls planned. rw c.in-BreakMissing.is w.text; short = omega (arith, w.short) }

pub returns-in-TooFar : goal.returns-in-TooFar
unfolding words_f
returns-in-TooFar c =
    let over-limit = c in
    let v4 = over-limit in
    let w = over-limit.over_limit.ensures in
    record { text = λ served calls planned. rw c.in-TooFar.is w.text; short = omega (arith, w.short) }

pub returns-in-TooLong : goal.returns-in-TooLong
unfolding words_f
returns-in-TooLong c =
    let over-limit2 = c in
    let v5 = over-limit2 in
    let w = over-limit2.over_limit-in-TooLong.ensures in
    record { text = λ served calls planned. rw c.in-TooLong.is w.text; short = omega (arith, w.short) }
