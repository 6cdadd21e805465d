-- `text::byte_text` meets its contract. Assumes nothing.
use native.Mathlib.Omega.{arith}
use mathlib.Core.Path.{refl, sym, ap, ◌∙◌}
use mathlib.Core.List.{List}
use Prim.Native.Nat.{ℕ}
use lib.ListN.{length, replicate}
use lib.Seq.{length-take-le}
use Rattle.texts.specs.CuttingText.{runs}
use Rattle.texts.specs.TimesText.{runs_times}
use Rattle.mark_lines.proofs.Shown.{put_as}
use Rattle.times_text.proofs.EndBytes.{ends-stored, bytes-told}
use Rattle.times_text.proofs.text.byte_text.Goals as goal

pub slice_bounds-sheet_text-end : goal.slice_bounds-sheet_text-end
slice_bounds-sheet_text-end c =
    let narrow = c in
    let past-start = narrow in
    let start = past-start in
    let a = start.args in
    sym (length-take-le (length a.ends.now) narrow.narrow.new.bytes (omega arith))

pub returns : goal.returns
returns c =
    let sheet-text = c in
    let narrow = sheet-text in
    let past-start = narrow in
    let start = past-start in
    let a = start.args in
    let t = sheet-text.sheet_text.ensures in
    let calls = a.calls.now in
    let ends = a.ends.now in
    let places = a.places.now in
    let new = narrow.narrow.new.bytes in record {
      text = λ s tour e.
          put_as (ap (λ (l : List ℕ). runs_times s tour (runs calls l places)) (ends-stored (length ends) ends (replicate 16385 0) new refl (omega arith) narrow.narrow.ensures)
          ∙ bytes-told s tour calls places ends start.requires.ends_in.0)
          (t.text s tour e);
      short = t.short;
    }
