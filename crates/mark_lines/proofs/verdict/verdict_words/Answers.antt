-- `verdict::verdict_words` meets its contract. Assumes nothing.
use native.Mathlib.Omega.{arith}
use Rattle.mark_lines.specs.Verdicts.{words_f}
use Rattle.mark_lines.proofs.verdict.verdict_words.Goals as goal

pub returns-in-OtherCalls : goal.returns-in-OtherCalls
unfolding words_f
returns-in-OtherCalls c =
    let other-words = c in
    let v = other-words in
    let w = other-words.other_words.ensures in
    record { text = rw c.in-OtherCalls.is w.text; short = omega (arith, w.short) }

pub returns-in-Overload : goal.returns-in-Overload
unfolding words_f
returns-in-Overload c =
    let load-words = c in
    let v2 = load-words in
    let w = load-words.load_words.ensures in
    record { text = rw c.in-Overload.is w.text; short = omega (arith, w.short) }

pub returns-in-WheelchairOverload : goal.returns-in-WheelchairOverload
unfolding words_f
returns-in-WheelchairOverload c =
    let load-words2 = c in
    let v3 = load-words2 in
    let w = load-words2.load_words-in-WheelchairOverload.ensures in
    record { text = rw c.in-WheelchairOverload.is w.text; short = omega (arith, w.short) }

pub returns-in-RoadClosed : goal.returns-in-RoadClosed
unfolding words_f
returns-in-RoadClosed c =
    let leg-words = c in
    let v4 = leg-words in
    let w = leg-words.leg_words.ensures in
    record { text = rw c.in-RoadClosed.is w.text; short = omega (arith, w.short) }

pub returns-in-Best : goal.returns-in-Best
unfolding words_f
returns-in-Best c =
    let numbered = c in
    let whole_part = numbered in
    let enum_told = whole_part in
    let w = numbered.numbered.ensures in
    record { text = rw c.in-Best.is (rw whole_part.whole_part.ensures at w.text); short = omega (arith, w.short) }

pub returns-in-Dearer : goal.returns-in-Dearer
unfolding words_f
returns-in-Dearer c =
    let cost-words = c in
    let v5 = cost-words in
    let w = cost-words.cost_words.ensures in
    record { text = rw c.in-Dearer.is w.text; short = omega (arith, w.short) }

pub returns-in-Cheaper : goal.returns-in-Cheaper
unfolding words_f
returns-in-Cheaper c =
    let cost-words2 = c in
    let v6 = cost-words2 in
    let w = cost-words2.cost_words-in-Cheaper.ensures in
    record { text = rw c.in-Cheaper.is w.text; short = omega (arith, w.short) }
