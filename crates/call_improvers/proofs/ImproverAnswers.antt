-- The answer of an improver, whichever it is, from what it is told of the sheet that is meant. Assumes nothing.
use Prim.Native.Nat.{ℕ, min}
use mathlib.Core.Path.{◌≡◌, ap, ◌∙◌}
use mathlib.Core.Bool.{true}
use mathlib.Core.List.{List, [], map}
use lib.ListN.{length, take}
use lib.Ieee.{Float}
use Rattle.basics.proofs.TestLaws.{not-false}
use Rattle.definitions.specs.Domain.{is_places}
use Rattle.definitions.specs.Sheet.{Sheet, own}
use Rattle.definitions.specs.Lent.{Lent, Call}
use Rattle.definitions.specs.Room.{written}
use Rattle.definitions.specs.Answers.{Answer, refused, gives, answer}
use Rattle.theorems.proofs.Accepted.{Accepted}
use Rattle.bounds.proofs.Inside.{sized}
use Rattle.whole.specs.Value.{value}
use Rattle.models.specs.Image.{fl_sheet}
use Rattle.models.specs.Records.{customer_of}
use Rattle.models.specs.declared.customer.Customer.{Customer}
use Rattle.models.specs.declared.head.Head.{Head}
use Rattle.lending.specs.Padding.{padded}
use Rattle.byte_lists.proofs.Widened.{zeros}
use Rattle.refuse_order.specs.Lent.{sheet_for, lent_for}
use Rattle.refuse_order.specs.Order.{Refuses, Images}
use Rattle.evaluation.specs.Records.{Tables, LimitsF, lent, limits_of}
use Rattle.evaluation.specs.Image.{Image}
use Rattle.improve_base.specs.Leg.{AllOpen}
use Rattle.improve_base.specs.Search.{SearchF, search_f, told}
use Rattle.improve_base.proofs.LegExact.{tables-open}
use Rattle.call_shared.specs.Answers.{Answers}
use Rattle.call_shared.proofs.Accepting.{lent_sheet, meant, limits-held, tables-hold}
use Rattle.call_shared.proofs.CallAnswers.{accepted-here, calls-read, refused-call, accepted-call}
use Rattle.call_shared.proofs.Padded.{gathered-from}

-- what an improver is asked: the array of records in place of the customers lent, their number, and the calls
pub record Asked : Type 0 where
  pub head : Head
  pub array : List Customer
  pub count : ℕ
  pub distances : List Float
  pub times : List Float
  pub calls : List ℕ

module _ (Q : Asked) where
  -- what is lent with those customers, these run ends and room for so many results
  abbrev pub lent_with : (ends rooms : List ℕ) → List Customer → Lent Float
  lent_with ends rooms = lent_for (sheet_for Q.head Q.distances Q.times) [] Q.calls ends [] rooms

  abbrev pub tables_in : Tables
  tables_in = lent Q.array Q.distances Q.times Q.head.places

  -- the sheet that is meant
  abbrev pub meant_with : List Customer → Sheet
  meant_with cs = meant Q.head cs Q.distances Q.times

  -- the numbers lent are those of the sheet that is meant
  abbrev pub Matches : List Customer → Type 0
  Matches cs = own (lent_sheet Q.head cs Q.distances Q.times) ≡ fl_sheet (meant_with cs)

  -- what the code is told of the sheet
  abbrev pub told_f : LimitsF → SearchF
  told_f = search_f (map customer_of Q.array) Q.head.places

  abbrev pub Refused : Call → (ends rooms : List ℕ) → ℕ → Type 0
  Refused k ends rooms number = Refuses k (lent_with ends rooms) Q.count Q.array number

  -- as the code of the improvers asks for the tables
  abbrev pub Open : Type 0
  Open = AllOpen Q.distances × AllOpen Q.times

  abbrev pub Imaged : ℕ → Type 0
  Imaged number = Images (sheet_for Q.head Q.distances Q.times) Q.count Q.array number

module _ (k : Call) (Q : Asked) (ends rooms : List ℕ) (number : ℕ) (refuses : Refused Q k ends rooms number) where
  -- what is lent with the array's own customers is accepted, so that the lists are as the improver needs them
  pub improver-accepted : number ≡ 0 → length Q.array ≡ 64 → Accepted value k (lent_with Q ends rooms (padded Q.count Q.array))
  improver-accepted z full =
      accepted-here k Q.head Q.array Q.count Q.distances Q.times [] Q.calls ends [] rooms number refuses z full

  -- its calls all stand in an array that they are read into
  pub improver-read : number ≡ 0 → length Q.array ≡ 64 → (held : List ℕ) (n : ℕ) → n ≡ min (length Q.calls) (length zeros)
      → held ≡ written (take (length zeros) Q.calls) zeros → take n held ≡ Q.calls
  improver-read = calls-read k Q.head Q.array Q.count Q.distances Q.times [] Q.calls ends [] rooms number refuses

  -- and its tables close no leg
  pub improver-open : k.improves ≡ true → Imaged Q number → number ≡ 0 → length Q.array ≡ 64 → Open Q
  improver-open improves images z full =
      let cs = padded Q.count Q.array in
      let G = gathered-from Q.array full Q.count in
      let a = improver-accepted z full in
      let placed = not-false (is_places Q.head.places) a.ranged.places in
      let I = tables-hold Q.head cs Q.distances Q.times Q.count Q.array G (images z cs G) placed a.customers in
      tables-open (meant_with Q cs) (sized (meant_with Q cs) a.within) (a.drivable improves) (tables_in Q) I a.within.closed-alike

  module _ {A R : Type 0} (result : Sheet → A) (of : Answer A → R) where
    -- of the customers lent
    abbrev whole-answer : List Customer → R
    whole-answer cs = of (answer value k result (lent_with Q ends rooms cs))

    pub refused-improver : (number ≡ 0 → ⊥) → Answers whole-answer Q.count Q.array (of (refused number))
    refused-improver h =
        refused-call k Q.head Q.array Q.count Q.distances Q.times [] Q.calls ends [] rooms number refuses of result h

    -- r is reckoned from what the code is told, and by what is told of every sheet that is meant it is the answer
    pub given-improver : Imaged Q number → number ≡ 0 → (search : SearchF) → search ≡ told_f Q (limits_of Q.head.limits)
        → (r : R) (by : SearchF → R) → r ≡ by search
        → ((cs : List Customer) → Accepted value k (lent_with Q ends rooms cs) → Matches Q cs → Image (meant_with Q cs) (tables_in Q)
        → by (told (meant_with Q cs) (tables_in Q)) ≡ of (gives (result (meant_with Q cs))))
        → Answers whole-answer Q.count Q.array r
    given-improver images z search is r by reckoned exact =
        accepted-call k Q.head Q.array Q.count Q.distances Q.times [] Q.calls ends [] rooms number refuses of result images z r
        (λ cs G a held.
        let limits = limits-held Q.head cs Q.distances Q.times Q.count Q.array G held in
        let placed = not-false (is_places Q.head.places) a.ranged.places in
        let I = tables-hold Q.head cs Q.distances Q.times Q.count Q.array G held placed a.customers in
        reckoned ∙ ap by is ∙ ap (λ (l : LimitsF). by (told_f Q l)) limits ∙ exact cs a held I)
