-- The answer of a cutting and what it writes, for any way to cut: refused with nothing written, or the counts of the lists that are written. Assumes nothing.
use Prim.Native.Nat.{ℕ, ◌≤◌}
use native.Mathlib.Omega.{arith}
use mathlib.Core.Path.{◌≡◌, refl, ap, ◌∙◌}
use mathlib.Core.List.{List, [], ◌∷◌}
use lib.ListN.{length}
use lib.Ieee.{Float}
use Rattle.cut_stops.specs.Stops.{Below64}
use Rattle.cut_exact.proofs.Exact.{below_64}
use Rattle.cut_theory.specs.Tab.{most_cut}
use Rattle.definitions.specs.Sheet.{Sheet, own}
use Rattle.definitions.specs.Drop.{Result}
use Rattle.definitions.specs.Lent.{Lent, cutting}
use Rattle.definitions.specs.Bytes.{stored}
use Rattle.definitions.specs.Answers.{Answer, refused, gives, front, answer}
use Rattle.bounds.proofs.InBytes.{CutFew}
use Rattle.theorems.proofs.Accepted.{Accepted, accepted-few}
use Rattle.whole.specs.Value.{value}
use Rattle.models.specs.Image.{fl_sheet}
use Rattle.models.specs.declared.customer.Customer.{Customer}
use Rattle.models.specs.declared.head.Head.{Head}
use Rattle.models.specs.declared.placement.Placement.{Placement}
use Rattle.lending.specs.Padding.{padded}
use Rattle.byte_lists.proofs.Narrowed.{all-narrowed}
use Rattle.refuse_order.specs.Lent.{sheet_of, Gathered}
use Rattle.refuse_order.specs.Order.{Refuses, Images}
use Rattle.split_tw.specs.Answer.{ResultF, Counted}
use Rattle.cut_exact.proofs.Image.{fl_result}
use Rattle.split_tw.specs.declared.answer.SplitResult.{SplitResult}
use Rattle.call_cuts.specs.declared.cutting.Cut.{Cut}
use Rattle.call_cuts.specs.declared.cutting.Cut.TheVariants as Cases
use Rattle.call_shared.specs.Answers.{Answers}
use Rattle.call_cuts.specs.Stored.{CutLists, stored_in, CutStored}
use Rattle.call_cuts.specs.Cutting.{cut_lent, counts_of, cut_in, Cuts}
use Rattle.call_shared.proofs.Accepting.{lent_sheet, meant}
use Rattle.call_shared.proofs.CallAnswers.{accepted-here, refused-call, accepted-call}

-- the code's counts are those of the lists
counted : (x : ResultF) (c : SplitResult) → Counted x c.served c.runs c.dropped c.cost c.distance → (y : Result) → x ≡ fl_result y
    → c ≡ counts_of y
counted x c h y e =
    (λ i. record { served = h.served-count i; runs = h.runs-count i; dropped = h.dropped-count i; cost = h.cost-is i; distance = h.distance_is i })
    ∙ ap
    (λ (z : ResultF). record { served = length z.served; runs = length z.ends; dropped = length z.dropped; cost = z.cost; distance = z.distance }) e

-- what a cutting is asked
pub record Asked : Type 0 where
  pub head : Head
  pub array : List Customer
  pub count : ℕ
  pub distances : List Float
  pub times : List Float
  pub tour : List ℕ
  -- the cut by loads alone has no break to place
  pub placement : Placement

module _ (Q : Asked) where
  -- with those customers
  abbrev pub meant_with : List Customer → Sheet
  meant_with cs = meant Q.head cs Q.distances Q.times

  abbrev pub Matches : List Customer → Type 0
  Matches cs = own (lent_sheet Q.head cs Q.distances Q.times) ≡ fl_sheet (meant_with cs)

  module _ (L : CutLists) where
    abbrev pub rooms : List ℕ
    rooms = length L.served ∷ length L.ends ∷ length L.dropped ∷ []

    abbrev pub lent_with : List Customer → Lent Float
    lent_with cs = cut_lent Q.head cs Q.distances Q.times Q.tour (length L.served) (length L.ends) (length L.dropped)

-- the answer, and the lists as they are left
abbrev pub CutsTo : Asked → CutLists → (List Customer → Answer Result) → Cut → CutLists → Type 0
CutsTo Q L answered r L' =
    Cuts answered Q.count Q.array L.served L.ends L.dropped r L'.served L'.ends L'.dropped

module _ (Q : Asked) (L : CutLists) (number : ℕ) (refuses : Refuses cutting (lent_with Q L) Q.count Q.array number) where
  -- an accepted tour is not too long, and its calls are places
  pub tour-fits : number ≡ 0 → length Q.array ≡ 64 → (length Q.tour ≤ most_cut) × Below64 Q.tour
  tour-fits z full =
      let cs = padded Q.count Q.array in
      let a = accepted-here cutting Q.head Q.array Q.count Q.distances Q.times Q.tour [] [] [] (rooms Q L) number refuses z full in
      (accepted-few value cutting (lent_with Q L cs) a, below_64 (meant_with Q cs) a.within Q.tour a.tour)

  module _ (cut : Sheet → Result) where
    abbrev answered : List Customer → Answer Result
    answered cs = answer value cutting cut (lent_with Q L cs)

    pub refused-cut : (number ≡ 0 → ⊥) → CutsTo Q L answered (Cases.Refused number) L
    refused-cut h =
        record {
          answer = by cut_in;
          served-left = by (λ a. stored (front (λ x. x.served) a) L.served);
          ends-left = by (λ a. stored (front (λ x. x.ends) a) L.ends);
          dropped-left = by (λ a. stored (front (λ x. x.dropped) a) L.dropped);
        }
      where
        by : {R : Type 0} (of : Answer Result → R) → Answers (λ cs. of (answered cs)) Q.count Q.array (of (refused number))
        by of =
            refused-call cutting Q.head Q.array Q.count Q.distances Q.times Q.tour [] [] [] (rooms Q L) number refuses of cut h

    -- x is what the code has reckoned, and on every sheet that is meant it holds the cut
    abbrev Holding : ResultF → Type 0
    Holding x =
        (cs : List Customer) → Gathered cs Q.count Q.array → Accepted value cutting (lent_with Q L cs) → Matches Q cs
        → x ≡ fl_result (cut (meant_with Q cs))

    -- for each list of the cut y there is room
    abbrev Room : Result → Type 0
    Room y = (length y.served ≤ length L.served) × (length y.ends ≤ length L.ends) × (length y.dropped ≤ length L.dropped)

    pub given-cut : Images (λ cs. sheet_of Q.head cs Q.distances Q.times) Q.count Q.array number → number ≡ 0
        → ((s : Sheet) → CutFew (length Q.tour) (cut s)) → (x : ResultF) → Holding x
        → (c : SplitResult) (L' : CutLists) → CutStored x c L L' → CutsTo Q L answered (Cases.Cut c) L'
    given-cut images z few x exact c L' told =
        record {
          answer = by cut_in (Cases.Cut c) (λ y h room. ap Cases.Cut (counted x c told.counts y h));
          served-left = list (λ y. y.served) (λ w. w.served) (λ y. refl) L.served L'.served told.served-stored (λ y room. room.0);
          ends-left = list (λ y. y.ends) (λ w. w.ends) (λ y. refl) L.ends L'.ends told.ends-stored (λ y room. room.1);
          dropped-left = list (λ y. y.dropped) (λ w. w.dropped) (λ y. refl) L.dropped L'.dropped told.dropped-stored (λ y room. room.2);
        }
      where
        by : {R : Type 0} (of : Answer Result → R) (r : R) → ((y : Result) → x ≡ fl_result y → Room y → r ≡ of (gives y))
            → Answers (λ cs. of (answered cs)) Q.count Q.array r
        by of r same =
            accepted-call cutting Q.head Q.array Q.count Q.distances Q.times Q.tour [] [] [] (rooms Q L) number refuses of cut images z r
            (λ cs G a held.
            let f = few (meant_with Q cs) in
            same (cut (meant_with Q cs)) (exact cs G a held)
            (omega (arith, f.served, a.results.0), omega (arith, f.ends, a.results.1.0), omega (arith, f.dropped, a.results.1.1.0)))

        -- one of its lists
        list : (of : Result → List ℕ) (of_f : ResultF → List ℕ) → ((y : Result) → of_f (fl_result y) ≡ of y) → (old new : List ℕ) → new ≡ stored_in (of_f x) old
            → ((y : Result) → Room y → length (of y) ≤ length old) → Answers (λ cs. stored (front of (answered cs)) old) Q.count Q.array new
        list of of_f same old new left room =
            by (λ a. stored (front of a) old) new
            (λ y h r. left ∙ ap (λ (w : ResultF). stored_in (of_f w) old) h ∙ ap (λ (l : List ℕ). stored_in l old) (same y) ∙ all-narrowed (of y) old (room y r))
