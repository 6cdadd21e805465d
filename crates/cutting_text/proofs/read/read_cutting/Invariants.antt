-- `read::read_cutting` meets its contract. The loop reads on from the state that the lists say. Assumes nothing.
use Prim.Native.Nat.{suc, ◌≤◌}
use mathlib.Core.Path.{◌≡◌}
use mathlib.Core.List.{◌++◌}
use lib.ListN.{length, drop}
use Rattle.definitions.specs.Listing.{end_of_line}
use Rattle.texts.specs.CuttingText.{walk, read_cutting}
use Rattle.cutting_text.specs.TextSoFar.{state_of}
use Rattle.cutting_text.proofs.read.read_cutting.Given as goal

abbrev pub invariant-loop-b : goal.invariant-loop-b
invariant-loop-b l =
    (l.r.calls ≤ l.b-index)
    × (l.r.runs ≤ l.b-index)
    × (l.line ≤ suc l.b-index)
    × (l.column ≤ suc l.b-index)
    × (length l.calls ≡ length l.initial.calls)
    × (length l.ends ≡ length l.initial.ends)
    × (length l.places ≡ length l.initial.places)
    × (walk l.line l.column (state_of l.r l.calls l.ends l.places) (drop l.b-index l.bytes ++ end_of_line) ≡ read_cutting l.bytes)
