-- The plan of a sheet that is held, as it is left in lists of bytes: what is counted in the arrays is stored. Assumes nothing.
use Prim.Native.Nat.{ℕ, ◌≤◌, min}
use native.Mathlib.Omega.{arith}
use mathlib.Core.Path.{◌≡◌, refl, subst, ◌∙◌}
use mathlib.Core.List.{List}
use lib.ListN.{length, take}
use Rattle.cut_theory.specs.Tab.{most_cut}
use Rattle.definitions.specs.Sheet.{Sheet}
use Rattle.definitions.specs.Placement.{Placement}
use Rattle.definitions.specs.Drop.{split_by}
use Rattle.definitions.specs.Room.{written}
use Rattle.definitions.specs.Bytes.{stored}
use Rattle.bounds.proofs.InBytes.{split-by-few}
use Rattle.byte_lists.proofs.Narrowed.{narrowed, all-narrowed}
use Rattle.split_tw.specs.declared.answer.SplitResult.{SplitResult}
use Rattle.sheet_plan.specs.Plan.{plan, PlanLists, Roomy, Left, LeftInBytes}
use Rattle.sheet_plan.proofs.PlanRuns.{places-many}

-- what `narrow` leaves of n numbers of an array
abbrev narrowed_to : ℕ → List ℕ → List ℕ → List ℕ
narrowed_to n numbers old = stored (take (min n (length old)) numbers) old

-- they are a list that was written to it, which has room
one_list : (n : ℕ) (l array numbers old new : List ℕ) → n ≡ length l → numbers ≡ written l array → length l ≤ most_cut → most_cut ≤ length old
    → new ≡ narrowed_to n numbers old → new ≡ stored l old
one_list n l array numbers old new many holds few room e = e ∙ narrowed n l array numbers old many holds ∙ all-narrowed l old (omega (arith, few, room))

module _ (p : Placement) (s : Sheet) (tour : List ℕ) (few : length tour ≤ most_cut) {r : SplitResult} {zeros arrays : PlanLists} (L : Left (plan p s tour) r zeros arrays)
    (old new : PlanLists) (room : Roomy old) where
  -- the starts are written as they are
  pub left-in-bytes : zeros.starts ≡ old.starts → new.starts ≡ arrays.starts
      → new.cut.served ≡ narrowed_to r.served arrays.cut.served old.cut.served
      → new.cut.ends ≡ narrowed_to r.runs arrays.cut.ends old.cut.ends
      → new.places ≡ narrowed_to r.runs arrays.places old.places
      → new.cut.dropped ≡ narrowed_to r.dropped arrays.cut.dropped old.cut.dropped
      → LeftInBytes (plan p s tour) r old new
  unfolding plan
  left-in-bytes from to served ends places dropped =
      let x = split_by p s tour in
      let C = L.cut in
      let f = split-by-few tour p s in
      record {
        counts = rw (C.served-count, C.runs-count, C.dropped-count) refl;
        totals = rw (C.cost-is, C.distance_is) refl;
        served-left =
            one_list r.served x.served zeros.cut.served arrays.cut.served old.cut.served new.cut.served C.served-count C.served-left
            (omega (arith, few, f.served)) room.0 served;
        ends-left =
            one_list r.runs x.ends zeros.cut.ends arrays.cut.ends old.cut.ends new.cut.ends C.runs-count C.ends-left
            (omega (arith, few, f.ends)) room.1 ends;
        places-left =
            one_list r.runs x.places zeros.places arrays.places old.places new.places L.places_count L.places-left
            (omega (arith, few, f.ends, places-many p s tour)) room.2 places;
        starts-left = rw (to, ← from) L.starts-left;
        dropped-left =
            one_list r.dropped x.dropped zeros.cut.dropped arrays.cut.dropped old.cut.dropped new.cut.dropped C.dropped-count C.dropped-left
            (omega (arith, few, f.dropped)) room.4 dropped;
      }

-- a plan of the calls that are the tour
pub of-tour : (p : Placement) (s : Sheet) {l tour : List ℕ} {r : SplitResult} {old new : PlanLists} → l ≡ tour → LeftInBytes (plan p s l) r old new
    → LeftInBytes (plan p s tour) r old new
of-tour p s {r = r} {old = old} {new = new} e L = subst (λ (l : List ℕ). LeftInBytes (plan p s l) r old new) e L
