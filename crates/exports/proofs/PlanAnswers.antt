-- What a plan call keeps, in each case of its answer. Assumes nothing.
use Prim.Native.Nat.{ℕ, ◌≤◌}
use mathlib.Core.Path.{◌≡◌, refl, sym, ◌∙◌}
use mathlib.Core.Bool.{Bool, true, false}
use mathlib.Core.List.{List, [], ◌∷◌}
use lib.Dec.{ltb}
use borrow.Author.Tests.{ltb-false}
use Rattle.basics.specs.Tests.{Falses}
use Rattle.basics.proofs.TestLaws.{falses}
use Rattle.cut_theory.specs.Tab.{most_cut}
use Rattle.definitions.specs.Sheet.{Sheet}
use Rattle.definitions.specs.Words.{words_of, left_over}
use Rattle.definitions.specs.Reader.{sheet, read}
use Rattle.definitions.specs.Placement.{Placement}
use Rattle.definitions.specs.Drop.{split_by}
use Rattle.definitions.specs.Room.{short}
use Rattle.definitions.specs.Answers as Call
use Rattle.round_trip.proofs.OnlySheets.{only-sheets}
use Rattle.bounds.proofs.Inside.{few-calls}
use Rattle.bounds.proofs.InBytes.{CutInBytes, calls-in-bytes, split-by-in-bytes}
use Rattle.sheet_read.specs.Summary as Summary
use Rattle.sheet_read.specs.Summary.{summary_of}
use Rattle.split_tw.specs.declared.answer.SplitResult.{SplitResult}
use Rattle.sheet_plan.specs.Plan.{Plan, plan, PlanLists, LeftInBytes}
use Rattle.exports.specs.Answer.{Answer, Outputs, outputs, on_reading}
use Rattle.exports.specs.Plan.{PlanRoom, plan_needs, rooms_of, PlanWritten, PlanKept}
use Rattle.exports.proofs.Answering.{reads-back, kept-short, kept-roomy, kept-unread, kept-given}

-- lists that are not too short have the room
pub roomy : (a b c d e : ℕ) (t : Bool) → t ≡ short plan_needs (a ∷ b ∷ c ∷ d ∷ e ∷ []) → t ≡ false → (most_cut ≤ a) × (most_cut ≤ b) × (most_cut ≤ c) × (most_cut ≤ d) × (most_cut ≤ e)
roomy a b c d e t told h =
    let tests = ltb a most_cut ∷ ltb b most_cut ∷ ltb c most_cut ∷ ltb d most_cut ∷ ltb e most_cut ∷ [] in
    let f : Falses tests = falses tests (sym told ∙ h) in
    (ltb-false a most_cut f.0, ltb-false b most_cut f.1.0, ltb-false c most_cut f.1.1.0, ltb-false d most_cut f.1.1.1.0, ltb-false e most_cut f.1.1.1.1.0)

abbrev plan_of : Placement → Sheet → List ℕ → Call.Answer Plan
plan_of p s tour = Call.gives (plan p s tour)

-- t is whether a list was found too short
module _ (p : Placement) (bytes : List ℕ) (old : Outputs PlanRoom) (t : Bool) (told : t ≡ short plan_needs (rooms_of old.room.lists)) where
  abbrev on-sheet : Answer Plan
  on-sheet = on_reading (plan_of p) (read bytes)

  pub plan-short : t ≡ true → PlanKept p bytes old 13 (outputs 0 old.room)
  plan-short h = kept-short PlanWritten old on-sheet (short plan_needs (rooms_of old.room.lists)) t told h

  module _ (h : t ≡ false) where
    pub plan-unread : (number word : ℕ) → Summary.refused number word ≡ summary_of (read bytes) → PlanKept p bytes old number (outputs word old.room)
    plan-unread number word e = kept-roomy PlanWritten old on-sheet (short plan_needs (rooms_of old.room.lists)) t told h (kept-unread PlanWritten old bytes (plan_of p) number word e)

    -- the plan: all but the word is written
    module _ (s : Sheet) (tour : List ℕ) (e : read bytes ≡ sheet s tour) where
      -- each number of the cut is one that a byte holds
      small : CutInBytes (split_by p s tour)
      unfolding read
      small =
          let I = only-sheets (words_of bytes) (left_over bytes) s tour e in
          split-by-in-bytes p tour (calls-in-bytes s I.within tour I.calls) (few-calls s tour I.calls) s

      module _ {r : SplitResult} {new : PlanLists} (L : LeftInBytes (plan p s tour) r old.room.lists new) where
        abbrev room : PlanRoom
        room = record { lists = new; counts = r.served ∷ r.runs ∷ r.dropped ∷ []; totals = r.cost ∷ r.distance ∷ [] }

        written : PlanWritten (plan p s tour) old.room room
        unfolding plan
        written =
            let x = split_by p s tour in
            let lists = old.room.lists in
            record {
              served = reads-back x.served lists.cut.served new.cut.served small.served L.served-left;
              ends = reads-back x.ends lists.cut.ends new.cut.ends small.ends L.ends-left;
              breaks = reads-back x.places lists.places new.places small.places L.places-left;
              starts = L.starts-left;
              dropped = reads-back x.dropped lists.cut.dropped new.cut.dropped small.dropped L.dropped-left;
              counts = L.counts;
              totals = L.totals;
            }

        pub plan-given : PlanKept p bytes old 0 (outputs old.word room)
        plan-given =
            kept-roomy PlanWritten old on-sheet (short plan_needs (rooms_of old.room.lists)) t told h
            (kept-given PlanWritten old bytes (plan_of p) s tour e room (plan p s tour) refl written)
