-- `read::read_cutting` meets its contract. The loop reads on from the state that the lists say. Assumes nothing.
use Prim.Native.Nat.{suc, ◌+◌, ◌<◌}
use native.Mathlib.Omega.{arith}
use mathlib.Core.Path.{refl, sym, ap, subst, ◌∙◌}
use mathlib.Core.List.{◌++◌}
use lib.ListN.{length, get_or}
use Rattle.definitions.specs.Listing.{end_of_line}
use Rattle.texts.specs.CuttingText.{State, is_line_end, bad_at, walk, read_cutting}
use Rattle.cutting_text.specs.declared.read.TextSoFar.{TextSoFar}
use Rattle.std.specs.Prelude.{Option}
use Rattle.cutting_text.specs.TextSoFar.{state_of, stepped_of, More}
use Rattle.cutting_text.proofs.Stepped.{known, read-on, read-stuck, moved, at-most-either}
use Rattle.cutting_text.proofs.read.read_cutting.Goals as goal

pub loop-b-init : goal.loop-b-init
unfolding read_cutting
loop-b-init c =
    let a = c.args in
    let z = c.start-r.ensures.nothing in (
      omega (arith, z.0),
      omega (arith, z.1),
      omega arith,
      omega arith,
      refl,
      refl,
      refl,
      ap (λ (s : State). walk 1 1 s (a.bytes.now ++ end_of_line)) (c.start-r.ensures.begun a.calls.now a.ends.now a.places.now),
    )

pub returns-in_default : goal.returns-in_default
returns-in_default c =
    let l = c.loop-b in
    let bytes = c.args.bytes.now in
    let s = state_of l.r l.calls l.ends l.places in
    let n = c.next in
    let h : l.b-index < length bytes = omega arith in
    let told = known (λ (t : (Option TextSoFar)). stepped_of t n.new.calls n.new.ends n.new.places) c.in_default.is n.ensures.said in
    record { said = ap (bad_at l.line l.column) (c.wanted.ensures s) ∙ sym (read-stuck l.line l.column s bytes l.b-index h told) ∙ l.invariant.7; few = tt }

pub loop-b-preserved : goal.loop-b-preserved
loop-b-preserved c =
    let l = c.loop-b in
    let bytes = c.args.bytes.now in
    let s = state_of l.r l.calls l.ends l.places in
    let n = c.next in
    let q = c.in-Some.q in
    let calls = n.new.calls in
    let ends = n.new.ends in
    let places = n.new.places in
    let m = subst (λ (t : (Option TextSoFar)). More 1 1 l.r t) c.in-Some.is n.ensures.few in
    let h : l.b-index < length bytes = omega arith in
    let lines = c.line_after-line.ensures in
    let columns = c.column_after-column.ensures in
    let more = at-most-either (is_line_end (get_or bytes l.b-index 0)) in (
      omega (arith, m.0, l.invariant.0),
      omega (arith, m.1, l.invariant.1),
      omega (arith, lines, more (suc l.line) l.line (suc (l.b-index + 1)) (omega (arith, l.invariant.2)) (omega (arith, l.invariant.2))),
      omega (arith, columns, more 1 (suc l.column) (suc (l.b-index + 1)) (omega arith) (omega (arith, l.invariant.3))),
      omega (arith, c.next.auto.calls, l.invariant.4),
      omega (arith, c.next.auto.ends, l.invariant.5),
      omega (arith, c.next.auto.places, l.invariant.6),
      moved lines columns (state_of q calls ends places) bytes l.b-index
          ∙ sym (read-on l.line l.column s bytes l.b-index h (state_of q calls ends places)
          (known (λ (t : (Option TextSoFar)). stepped_of t calls ends places) c.in-Some.is n.ensures.said))
          ∙ l.invariant.7,
    )
