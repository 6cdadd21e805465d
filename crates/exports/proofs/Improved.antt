-- What the improvers' calls keep: refused by the reader, refused by the call, or the runs that are left. Assumes nothing.
use Prim.Native.Nat.{ℕ}
use native.Mathlib.Omega.{arith}
use mathlib.Core.Path.{◌≡◌, refl, sym, ap, subst, ◌∙◌}
use mathlib.Core.List.{List, [], ◌∷◌}
use Rattle.definitions.specs.Sheet.{Sheet}
use Rattle.definitions.specs.Reader.{sheet, read}
use Rattle.definitions.specs.Answers as Call
use Rattle.definitions.specs.Answers.{front, Improved, Eliminated}
use Rattle.definitions.specs.Bytes.{stored}
use Rattle.bounds.proofs.InBytes.{InBytes}
use Rattle.sheet_read.specs.Summary as Summary
use Rattle.sheet_read.specs.Summary.{summary_of}
use Rattle.route_elimination.specs.declared.route_elimination.Left.{Left}
use Rattle.call_improvers.specs.declared.reversing.ImprovedRun.{ImprovedRun}
use Rattle.call_improvers.specs.declared.reversing.Reversed.{Reversed}
use Rattle.call_improvers.specs.declared.reversing.Reversed.TheVariants as Reverseds
use Rattle.call_improvers.specs.declared.eliminating.Elimination.{Elimination}
use Rattle.call_improvers.specs.declared.eliminating.Elimination.TheVariants as Eliminations
use Rattle.call_improvers.specs.Reversing.{improved_run_of, reversed_in}
use Rattle.call_improvers.specs.Eliminating.{left_of, elimination_in}
use Rattle.bytes_improve.specs.Improve.{Runs, runs, reversed_on, eliminated_on, RunLeft, RunsLeft}
use Rattle.bytes_improve.proofs.Improved.{reversed-in-bytes, left-calls-in-bytes, left-ends-in-bytes}
use Rattle.exports.specs.Answer.{Outputs, outputs}
use Rattle.exports.specs.Improve.{ReverseLists, reverse_outputs, reverse_answer, ReverseWritten, ReverseKept, EliminateLists, eliminate_outputs, eliminate_answer, EliminateWritten, EliminateKept}
use Rattle.exports.proofs.Answering.{reads-back, kept-unread, kept-refused, kept-given}

-- ---- reversal

reverse-refused-in : (a : Call.Answer Improved) (n : ℕ) → Reverseds.Refused n ≡ reversed_in a → a ≡ Call.refused n
reverse-refused-in (Call.refused m) n e = let h : n ≡ m = cc in ap Call.refused (sym h)
reverse-refused-in (Call.gives x) n e = let z : ◌≡◌ {A = ℕ} 0 1 = cc in absurd (omega arith)

reverse-given-in : (a : Call.Answer Improved) (x : ImprovedRun) → Reverseds.Improved x ≡ reversed_in a → (y : Improved) × (a ≡ Call.gives y) × (x ≡ improved_run_of y)
reverse-given-in (Call.refused m) x e = let z : ◌≡◌ {A = ℕ} 0 1 = cc in absurd (omega arith)
reverse-given-in (Call.gives y) x e = (y, refl, cc)

module _ (bytes run : List ℕ) (old : Outputs ReverseLists) where
  abbrev reversing : Sheet → List ℕ → Call.Answer Improved
  reversing s tour = reversed_on s run old.room.calls

  pub reverse-unread : (number word : ℕ) → Summary.refused number word ≡ summary_of (read bytes) → ReverseKept bytes run old number (outputs word old.room)
  unfolding reverse_answer
  reverse-unread number word e = kept-unread ReverseWritten old bytes reversing number word e

  module _ (s : Sheet) (tour : List ℕ) (e : read bytes ≡ sheet s tour) (r : Reversed) (calls : List ℕ) (L : RunLeft (reversing s tour) old.room.calls r calls) where
    calls_by : (a : Call.Answer Improved) → reversing s tour ≡ a → calls ≡ stored (front (λ x. x.calls) a) old.room.calls
    calls_by a h = L.calls-left ∙ ap (λ (b : Call.Answer Improved). stored (front (λ x. x.calls) b) old.room.calls) h

    pub reverse-refused : (number : ℕ) → r ≡ Reverseds.Refused number → ReverseKept bytes run old number (reverse_outputs old.word calls old.room.distance)
    unfolding reverse_answer
    reverse-refused number h =
        let z = reverse-refused-in (reversing s tour) number (sym h ∙ L.answer) in
        let same = calls_by (Call.refused number) z in
        let new = (reverse_outputs old.word calls old.room.distance).room in
        kept-refused ReverseWritten old bytes reversing s tour e new number z (λ i. record { calls = same i; distance = old.room.distance })

    pub reverse-given : (x : ImprovedRun) → r ≡ Reverseds.Improved x → ReverseKept bytes run old 0 (reverse_outputs old.word calls x.distance)
    unfolding reverse_answer
    reverse-given x h =
        let y = reverse-given-in (reversing s tour) x (sym h ∙ L.answer) in
        let small = subst (λ (a : Call.Answer Improved). InBytes (front (λ z. z.calls) a)) y.1 (reversed-in-bytes s run old.room.calls) in
        let new = (reverse_outputs old.word calls x.distance).room in
        let w : ReverseWritten y.0 old.room new =
        record {
          calls = reads-back y.0.calls old.room.calls calls small (calls_by (Call.gives y.0) y.1);
          distance = ap (λ (z : ImprovedRun). z.distance) y.2;
        } in
        kept-given ReverseWritten old bytes reversing s tour e new y.0 y.1 w

-- ---- elimination

eliminate-refused-in : (a : Call.Answer Eliminated) (n : ℕ) → Eliminations.Refused n ≡ elimination_in a → a ≡ Call.refused n
eliminate-refused-in (Call.refused m) n e = let h : n ≡ m = cc in ap Call.refused (sym h)
eliminate-refused-in (Call.gives x) n e = let z : ◌≡◌ {A = ℕ} 0 1 = cc in absurd (omega arith)

eliminate-given-in : (a : Call.Answer Eliminated) (x : Left) → Eliminations.Left x ≡ elimination_in a → (y : Eliminated) × (a ≡ Call.gives y) × (x ≡ left_of y)
eliminate-given-in (Call.refused m) x e = let z : ◌≡◌ {A = ℕ} 0 1 = cc in absurd (omega arith)
eliminate-given-in (Call.gives y) x e = (y, refl, cc)

module _ (bytes : List ℕ) (given : Runs) (old : Outputs EliminateLists) where
  abbrev eliminating : Sheet → List ℕ → Call.Answer Eliminated
  eliminating s tour = eliminated_on s given old.room.left

  pub eliminate-unread : (number word : ℕ) → Summary.refused number word ≡ summary_of (read bytes) → EliminateKept bytes given old number (outputs word old.room)
  unfolding eliminate_answer
  eliminate-unread number word e = kept-unread EliminateWritten old bytes eliminating number word e

  module _ (s : Sheet) (tour : List ℕ) (e : read bytes ≡ sheet s tour) (r : Elimination) (left : Runs) (L : RunsLeft (eliminating s tour) old.room.left r left) where
    left-calls-by : (a : Call.Answer Eliminated) → eliminating s tour ≡ a → left.calls ≡ stored (front (λ x. x.calls) a) old.room.left.calls
    left-calls-by a h = L.calls-left ∙ ap (λ (b : Call.Answer Eliminated). stored (front (λ x. x.calls) b) old.room.left.calls) h

    left-ends-by : (a : Call.Answer Eliminated) → eliminating s tour ≡ a → left.ends ≡ stored (front (λ x. x.ends) a) old.room.left.ends
    left-ends-by a h = L.ends-left ∙ ap (λ (b : Call.Answer Eliminated). stored (front (λ x. x.ends) b) old.room.left.ends) h

    pub eliminate-refused : (number : ℕ) → r ≡ Eliminations.Refused number → EliminateKept bytes given old number (eliminate_outputs old.word left old.room.counts)
    unfolding eliminate_answer
    eliminate-refused number h =
        let z = eliminate-refused-in (eliminating s tour) number (sym h ∙ L.answer) in
        let calls = left-calls-by (Call.refused number) z in
        let ends = left-ends-by (Call.refused number) z in
        let new = (eliminate_outputs old.word left old.room.counts).room in
        kept-refused EliminateWritten old bytes eliminating s tour e new number z (λ i. record { left = runs (calls i) (ends i); counts = old.room.counts })

    pub eliminate-given : (x : Left) → r ≡ Eliminations.Left x → EliminateKept bytes given old 0 (eliminate_outputs old.word left (x.calls ∷ x.runs ∷ []))
    unfolding eliminate_answer
    eliminate-given x h =
        let y = eliminate-given-in (eliminating s tour) x (sym h ∙ L.answer) in
        let a = Call.gives y.0 in
        let lent = old.room.left in
        let small-calls = subst (λ (b : Call.Answer Eliminated). InBytes (front (λ z. z.calls) b)) y.1 (left-calls-in-bytes s given lent) in
        let small-ends = subst (λ (b : Call.Answer Eliminated). InBytes (front (λ z. z.ends) b)) y.1 (left-ends-in-bytes s given lent) in
        let new = (eliminate_outputs old.word left (x.calls ∷ x.runs ∷ [])).room in
        let w : EliminateWritten y.0 old.room new =
        record {
          calls = reads-back y.0.calls lent.calls left.calls small-calls (left-calls-by a y.1);
          ends = reads-back y.0.ends lent.ends left.ends small-ends (left-ends-by a y.1);
          counts = ap (λ (z : Left). z.calls ∷ z.runs ∷ []) y.2;
        } in
        kept-given EliminateWritten old bytes eliminating s tour e new y.0 y.1 w
