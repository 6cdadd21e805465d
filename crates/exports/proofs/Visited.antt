-- What the call that tells a timeline keeps, in each case of its answer. Assumes nothing.
use Prim.Native.Nat.{ℕ}
use native.Mathlib.Omega.{arith}
use mathlib.Core.Path.{◌≡◌, refl, sym, ap, subst, ◌∙◌}
use mathlib.Core.Bool.{Bool, true, false}
use mathlib.Core.List.{List, [], ◌∷◌}
use lib.Dec.{ltb}
use lib.ListN.{length}
use borrow.Author.Tests.{ltb-false}
use Rattle.basics.specs.Tests.{Falses}
use Rattle.basics.proofs.TestLaws.{falses}
use Rattle.definitions.specs.Sheet.{Sheet}
use Rattle.definitions.specs.Reader.{sheet, read}
use Rattle.definitions.specs.Room.{short}
use Rattle.definitions.specs.Timeline.{Timeline}
use Rattle.definitions.specs.Answers as Call
use Rattle.sheet_read.specs.Summary as Summary
use Rattle.sheet_read.specs.Summary.{summary_of}
use Rattle.bytes_visits.specs.declared.told.Told.{Told}
use Rattle.bytes_visits.specs.declared.run.Visiting.{Visiting}
use Rattle.bytes_visits.specs.declared.run.Visiting.TheVariants as Visitings
use Rattle.bytes_visits.specs.Told.{Lists, lists, Roomy, told_on, told_of, visiting_in, ToldIn}
use Rattle.exports.specs.Answer.{Answer, Outputs, outputs, on_reading}
use Rattle.exports.specs.Visits.{VisitsRoom, visits_needs, rooms_of, VisitsWritten, VisitsKept}
use Rattle.exports.proofs.Answering.{kept-short, kept-roomy, kept-unread, kept-refused, kept-given}

-- lists that are not too short have the room
pub roomy-lists : (l : Lists) (t : Bool) → t ≡ short visits_needs (rooms_of l) → t ≡ false → Roomy l
roomy-lists l t told h =
    let tests = ltb (length l.times) 384 ∷ ltb (length l.loads) 256 ∷ ltb (length l.numbers) 132 ∷ ltb (length l.figures) 396 ∷ [] in
    let f : Falses tests = falses tests (sym told ∙ h) in
    record {
      times-room = ltb-false (length l.times) 384 f.0;
      loads-room = ltb-false (length l.loads) 256 f.1.0;
      numbers-room = ltb-false (length l.numbers) 132 f.1.1.0;
      figures-room = ltb-false (length l.figures) 396 f.1.1.1.0;
    }

-- ---- the cases of the code's answer

refused-in : (a : Call.Answer Timeline) (n : ℕ) → Visitings.Refused n ≡ visiting_in a → a ≡ Call.refused n
refused-in (Call.refused m) n e = let h : n ≡ m = cc in ap Call.refused (sym h)
refused-in (Call.gives v) n e = let z : ◌≡◌ {A = ℕ} 0 1 = cc in absurd (omega arith)

given-in : (a : Call.Answer Timeline) (x : Told) → Visitings.Told x ≡ visiting_in a → (t : Timeline) × (a ≡ Call.gives t) × (x ≡ told_of t)
given-in (Call.refused m) x e = let z : ◌≡◌ {A = ℕ} 0 1 = cc in absurd (omega arith)
given-in (Call.gives t) x e = (t, refl, cc)

-- ---- what the call keeps; t is whether a list was found too short

module _ (bytes run : List ℕ) (place : ℕ) (old : Outputs VisitsRoom) (t : Bool) (told : t ≡ short visits_needs (rooms_of old.room.lists)) where
  abbrev call : Sheet → List ℕ → Call.Answer Timeline
  call s tour = told_on s run place

  abbrev on-sheet : Answer Timeline
  on-sheet = on_reading call (read bytes)

  abbrev shortness : Bool
  shortness = short visits_needs (rooms_of old.room.lists)

  pub visits-short : t ≡ true → VisitsKept bytes run place old 13 (outputs 0 old.room)
  visits-short h = kept-short VisitsWritten old on-sheet shortness t told h

  module _ (h : t ≡ false) where
    pub visits-unread : (number word : ℕ) → Summary.refused number word ≡ summary_of (read bytes) → VisitsKept bytes run place old number (outputs word old.room)
    visits-unread number word e = kept-roomy VisitsWritten old on-sheet shortness t told h (kept-unread VisitsWritten old bytes call number word e)

    module _ (s : Sheet) (tour : List ℕ) (e : read bytes ≡ sheet s tour) (r : Visiting) (new : Lists) (T : ToldIn (told_on s run place) old.room.lists r new) where
      -- refused: nothing is written
      same_lists : (number : ℕ) → told_on s run place ≡ Call.refused number → new ≡ old.room.lists
      same_lists number q =
          go (told_on s run place) q T
        where
          go : (a : Call.Answer Timeline) → a ≡ Call.refused number → ToldIn a old.room.lists r new → new ≡ old.room.lists
          go (Call.refused m) q K = λ i. lists (K.times-left i) (K.loads-left i) (K.numbers-left i) (K.figures-left i)
          go (Call.gives x) q K = let z : ◌≡◌ {A = ℕ} 0 1 = cc in absurd (omega arith)

      pub visits-refused : (number : ℕ) → r ≡ Visitings.Refused number
          → VisitsKept bytes run place old number (outputs old.word (record { lists = new; counts = old.room.counts; totals = old.room.totals }))
      visits-refused number q =
          let answered = refused-in (told_on s run place) number (sym q ∙ T.answer) in
          let same = same_lists number answered in
          kept-roomy VisitsWritten old on-sheet shortness t told h
          (kept-refused VisitsWritten old bytes call s tour e _ number answered (ap (λ (l : Lists). record { lists = l; counts = old.room.counts; totals = old.room.totals }) same))

      pub visits-given : (x : Told) → r ≡ Visitings.Told x
          → VisitsKept bytes run place old 0
          (outputs old.word
          (record { lists = new; counts = x.visits ∷ x.violations ∷ x.place ∷ []; totals = x.distance ∷ x.duration ∷ x.lateness ∷ x.lateness_cost ∷ x.start ∷ [] }))
      visits-given x q =
          let (line, answered, same) = given-in (told_on s run place) x (sym q ∙ T.answer) in
          let room : VisitsRoom = record { lists = new; counts = x.visits ∷ x.violations ∷ x.place ∷ []; totals = x.distance ∷ x.duration ∷ x.lateness ∷ x.lateness_cost ∷ x.start ∷ [] } in
          kept-roomy VisitsWritten old on-sheet shortness t told h
          (kept-given VisitsWritten old bytes call s tour e room line answered (written-so line answered x same))
        where
          written-so : (line : Timeline) → told_on s run place ≡ Call.gives line → (x : Told) → x ≡ told_of line
              → VisitsWritten line old.room
              (record { lists = new; counts = x.visits ∷ x.violations ∷ x.place ∷ []; totals = x.distance ∷ x.duration ∷ x.lateness ∷ x.lateness_cost ∷ x.start ∷ [] })
          written-so line answered x same =
              let K = subst (λ (a : Call.Answer Timeline). ToldIn a old.room.lists r new) answered T in
              record {
                times = K.times-left;
                loads = K.loads-left;
                violations = K.numbers-left;
                figures = K.figures-left;
                counts = ap (λ (y : Told). y.visits ∷ y.violations ∷ y.place ∷ []) same;
                totals = ap (λ (y : Told). y.distance ∷ y.duration ∷ y.lateness ∷ y.lateness_cost ∷ y.start ∷ []) same;
              }
