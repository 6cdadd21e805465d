-- The listing of an accepted sheet, given back as a cutting, is printed as best, with the plan's cost. Assumes nothing.
use Prim.Native.Nat.{ℕ}
use mathlib.Core.Path.{◌≡◌, ap, ◌∙◌}
use mathlib.Core.List.{List, ◌++◌, append-nil}
use Rattle.definitions.specs.Sheet.{Sheet}
use Rattle.definitions.specs.Drop.{split_tw}
use Rattle.definitions.specs.Reader.{Reading, read, sheet}
use Rattle.definitions.specs.Listing.{end_of_line, listing}
use Rattle.texts.specs.MarkText.{figure, verdict_words, runs_cost, answer_text, cutting_text, sheet_text, mark_text}
use Rattle.texts.proofs.ListedBack.{listing-read, listing-best}
use Rattle.round_trip.proofs.Bytes.{AllBytes}

pub listing-marked : (bs : List ℕ) (s : Sheet) (tour : List ℕ) → AllBytes bs → read bs ≡ sheet s tour → mark_text bs (listing bs) ≡ figure "best" (split_tw s tour).cost ++ end_of_line
unfolding mark_text verdict_words
listing-marked bs s tour bytes accepted =
    let x = split_tw s tour in
    let back = listing-read bs s tour bytes accepted in
    let best = listing-best bs s tour bytes accepted x.served x.ends x.places back in
    ap (λ (r : Reading). sheet_text r (listing bs)) accepted
    ∙ ap (cutting_text s tour) back
    ∙ ap (answer_text tour x x.served (runs_cost s x.served x.ends x.places)) best
    ∙ append-nil (figure "best" x.cost ++ end_of_line)
