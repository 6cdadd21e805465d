-- What is printed of bytes that were read, and of the plan as the cut leaves it. Assumes nothing.
use Prim.Native.Nat.{ℕ, ◌≤◌}
use native.Mathlib.Omega.{arith}
use mathlib.Core.Path.{◌≡◌, sym, ap, ◌∙◌}
use mathlib.Core.List.{List}
use lib.ListN.{length, take}
use Rattle.whole.specs.Whole.{fl}
use Rattle.definitions.specs.Sheet.{Sheet}
use Rattle.definitions.specs.Placement.{by_clock}
use Rattle.definitions.specs.Drop.{split_by}
use Rattle.definitions.specs.Refusals.{WithinCalls}
use Rattle.definitions.specs.Reader.{Reading, sheet, read}
use Rattle.bounds.proofs.Inside.{few-calls}
use Rattle.sheet_read.specs.Summary as Summary
use Rattle.sheet_read.specs.Summary.{summary_of}
use Rattle.sheet_loaded.proofs.Reading.{refused-is}
use Rattle.split_tw.specs.declared.answer.SplitResult.{SplitResult}
use Rattle.sheet_plan.specs.Cut.{CutLists, CutLeft}
use Rattle.sheet_plan.proofs.CutHeld.{served-are, dropped-are}
use Rattle.sheet_plan.proofs.PlanRoom.{served-and-dropped}
use Rattle.marker.specs.declared.verdict.Verdict.{Verdict}
use Rattle.mark_lines.specs.Verdicts.{verdict_text_f}
use Rattle.texts.specs.CuttingText.{CuttingRead, read_cutting}
use Rattle.texts.specs.MarkText.{sheet_refused, cutting_text, sheet_text, mark_text}

-- ---- any bytes

pub refused-sheet : (bytes cutting : List ℕ) (number word : ℕ) → Summary.refused number word ≡ summary_of (read bytes) → sheet_refused number word ≡ mark_text bytes cutting
unfolding mark_text
refused-sheet bytes cutting number word e = sym (ap (λ (r : Reading). sheet_text r cutting) (refused-is bytes number word e))

pub marked-is : (bytes cutting : List ℕ) (s : Sheet) (tour : List ℕ) → read bytes ≡ sheet s tour → (r : CuttingRead) → read_cutting cutting ≡ r → cutting_text s tour r ≡ mark_text bytes cutting
unfolding mark_text
marked-is bytes cutting s tour e r f = sym (ap (λ (x : Reading). sheet_text x cutting) e ∙ ap (cutting_text s tour) f)

-- ---- the plan's lists

module _ (s : Sheet) (tour : List ℕ) {r : SplitResult} {old new : CutLists} (C : CutLeft (split_by by_clock s tour) r old new) where
  pub dropped-few : WithinCalls s tour → length (take r.dropped new.dropped) ≤ 128
  dropped-few within = omega (arith, ap length (dropped-are C), few-calls s tour within, served-and-dropped by_clock s tour)

  pub cut-text : (calls : List ℕ) (v : Verdict) → let x = split_by by_clock s tour in
      verdict_text_f tour (take r.served new.served) (take r.dropped new.dropped) r.cost calls v ≡ verdict_text_f tour x.served x.dropped (fl x.cost) calls v
  cut-text calls v = λ i. verdict_text_f tour (served-are C i) (dropped-are C i) (C.cost-is i) calls v
