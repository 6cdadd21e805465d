-- The listing of an accepted sheet, given back as a cutting, is read as the plan's runs and marked Best. Assumes nothing.
use Prim.Native.Nat.{ℕ}
use mathlib.Core.Path.{◌≡◌, ap, sym, ◌∙◌}
use mathlib.Core.List.{List}
use Rattle.std.specs.Prelude.{Some}
use Rattle.definitions.specs.Sheet.{Sheet}
use Rattle.definitions.specs.Placement.{by_clock}
use Rattle.definitions.specs.Drop.{split_tw}
use Rattle.definitions.specs.Marker.{best}
use Rattle.definitions.specs.Reader.{Reading, read, sheet}
use Rattle.definitions.specs.Answers.{gives, mark_of}
use Rattle.definitions.specs.Listing.{plan_text, reading_text, listing}
use Rattle.texts.specs.CuttingText.{runs, read_cutting}
use Rattle.texts.specs.MarkText.{lent_runs}
use Rattle.texts.proofs.OwnText.{own_read, own-text-marked}
use Rattle.round_trip.proofs.Bytes.{AllBytes}
use Rattle.round_trip.proofs.Files.{IsFile, only-files}

module _ (bs : List ℕ) (s : Sheet) (tour : List ℕ) (bytes : AllBytes bs) (accepted : read bs ≡ sheet s tour) where
  abbrev F : IsFile bs s tour
  F = only-files bs s tour bytes accepted

  listed : read_cutting (listing bs) ≡ read_cutting (plan_text s tour (split_tw s tour))
  unfolding listing
  listed = ap (λ (r : Reading). read_cutting (reading_text r)) accepted

  pub listing-read : let x = split_tw s tour in read_cutting (listing bs) ≡ runs x.served x.ends x.places
  listing-read = listed ∙ own_read by_clock s tour F.within F.calls F.once

  pub listing-best : (calls ends places : List ℕ) → read_cutting (listing bs) ≡ runs calls ends places → mark_of Some (lent_runs s tour calls ends places) ≡ gives best
  listing-best calls ends places e = own-text-marked by_clock s tour F.within F.calls F.once calls ends places (sym listed ∙ e)
