-- The answer of a call of any kind: by the number that the checks give, refused, or the whole-number answer on the sheet that is meant. Assumes nothing.
use Prim.Native.Nat.{ℕ, ◌≤◌, min}
use mathlib.Core.Path.{◌≡◌, sym, ap, ◌∙◌}
use mathlib.Core.List.{List}
use Rattle.std.specs.Prelude.{None}
use lib.ListN.{length, take}
use lib.Ieee.{Float}
use borrow.Author.Tests.{ltb-false}
use Rattle.definitions.specs.Domain.{most_calls}
use Rattle.definitions.specs.Sheet.{Sheet, own}
use Rattle.definitions.specs.Lent.{Lent, whole_sheet, Call}
use Rattle.definitions.specs.Refusals.{refusal_of}
use Rattle.definitions.specs.Room.{written}
use Rattle.definitions.specs.Answers.{Answer, refused, gives, answer}
use Rattle.theorems.proofs.Accepted.{Accepted, accepted-within}
use Rattle.theorems.proofs.Ranges.{calls-in-range}
use Rattle.whole.specs.Value.{value}
use Rattle.models.specs.Image.{fl_sheet}
use Rattle.models.specs.declared.customer.Customer.{Customer}
use Rattle.models.specs.declared.head.Head.{Head}
use Rattle.lending.specs.Padding.{padded}
use Rattle.byte_lists.proofs.Widened.{zeros, all_there}
use Rattle.refuse_order.specs.Lent.{sheet_of, lent_of, Gathered}
use Rattle.refuse_order.specs.Order.{Refuses, Images}
use Rattle.call_shared.specs.Answers.{Answers}
use Rattle.call_shared.proofs.Padded.{gathered-from}
use Rattle.call_shared.proofs.Accepting.{accepts, given-exact, refused-by, lent_sheet, meant}

module _
    (k : Call) (head : Head) (array : List Customer) (count : ℕ) (distances times : List Float) (tour calls ends breaks rooms : List ℕ) (number : ℕ)
    (refuses : Refuses k (λ cs. lent_of (sheet_of head cs distances times) tour calls ends breaks rooms) count array number)
  where
    -- what is lent with those customers
    abbrev lent_with : List Customer → Lent Float
    lent_with cs = lent_of (sheet_of head cs distances times) tour calls ends breaks rooms

    free : number ≡ 0 → (cs : List Customer) → Gathered cs count array → refusal_of value k (lent_with cs) ≡ None
    free z cs G = accepts k (lent_with cs) (sym z ∙ refuses cs G)

    pub accepted : number ≡ 0 → (cs : List Customer) → Gathered cs count array → Accepted value k (lent_with cs)
    accepted z cs G = accepted-within value k (lent_with cs) (free z cs G)

    -- each array is gathered from some customers: of such the call is accepted, with at most 128 calls
    pub accepted-here : number ≡ 0 → length array ≡ 64 → Accepted value k (lent_with (padded count array))
    accepted-here z full = accepted z (padded count array) (gathered-from array full count)

    pub few-called : number ≡ 0 → length array ≡ 64 → length calls ≤ most_calls
    unfolding whole_sheet
    few-called z full = ltb-false most_calls (length calls) (calls-in-range head.places calls (accepted-here z full).calls).few

    -- so they all stand in an array that they are read into
    pub calls-read : number ≡ 0 → length array ≡ 64 → (held : List ℕ) (n : ℕ) → n ≡ min (length calls) (length zeros) → held ≡ written (take (length zeros) calls) zeros
        → take n held ≡ calls
    calls-read z full held n counted read = all_there calls zeros held n counted read (few-called z full)

    module _ {A R : Type 0} (of : Answer A → R) (result : Sheet → A) where
      -- of the customers lent
      abbrev whole-answer : List Customer → R
      whole-answer cs = of (answer value k result (lent_with cs))

      pub refused-call : (number ≡ 0 → ⊥) → Answers whole-answer count array (of (refused number))
      refused-call h cs G = ap of (sym (refused-by k (lent_with cs) result number (refuses cs G) h))

      -- r is the answer on the sheet that is meant
      pub accepted-call : Images (λ cs. sheet_of head cs distances times) count array number → number ≡ 0 → (r : R)
          → ((cs : List Customer) → Gathered cs count array → Accepted value k (lent_with cs)
          → own (lent_sheet head cs distances times) ≡ fl_sheet (meant head cs distances times)
          → r ≡ of (gives (result (meant head cs distances times))))
          → Answers whole-answer count array r
      accepted-call images z r exact cs G = exact cs G (accepted z cs G) (images z cs G) ∙ ap of (sym (given-exact k (lent_with cs) result (free z cs G)))
