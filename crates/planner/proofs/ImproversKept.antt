-- The contracts of the improvers. Assumes nothing.
use Prim.Native.Nat.{ℕ}
use mathlib.Core.Path.{◌≡◌, refl, ◌∙◌}
use mathlib.Core.List.{List}
use Rattle.definitions.specs.RunList.{runs_of}
use Rattle.definitions.specs.Lent.{reversing, eliminating}
use Rattle.definitions.specs.Bytes.{stored}
use Rattle.definitions.specs.Answers.{Answer, refused, gives, front, Improved, Eliminated, two_opt, eliminate}
use Rattle.bounds.proofs.InBytes.{reversal-in-bytes, elimination-calls-in-bytes, elimination-ends-in-bytes}
use Rattle.whole.specs.Value.{value}
use Rattle.call_improvers.specs.declared.reversing.Reversed.{Reversed}
use Rattle.call_improvers.specs.declared.eliminating.Elimination.{Elimination}
use Rattle.call_improvers.specs.Reversing.{reversed_in}
use Rattle.call_improvers.specs.Eliminating.{elimination_in}
use Rattle.planner.specs.Calls.{LentSheet}
use Rattle.planner.specs.Reversing.{reversal_refusal, reversal_on, reversal_answer, ReversalContract}
use Rattle.planner.specs.Eliminating.{elimination_refusal, EliminationOutput, elimination_output, elimination_on, elimination_answer, EliminationContract}
use Rattle.planner.proofs.InBytes.{stored_same}
use Rattle.planner.proofs.Refusing.{number_of, refuses, leaves_all}

-- ---- the reversal of stretches

same-reversal : (a : Answer Improved) → reversal_refusal (reversed_in a) ≡ number_of a
same-reversal (refused number) = refl
same-reversal (gives x) = refl

module _ (q : LentSheet) (run old : List ℕ) where
  pub reversal-kept : {r : Reversed} {new : List ℕ} → r ≡ reversed_in (reversal_answer q run old) → new ≡ stored (front (λ x. x.calls) (reversal_answer q run old)) old
      → ReversalContract q run old r new
  reversal-kept is left_is =
      record {
        result = is;
        calls-left = left_is ∙ stored_same (front (λ x. x.calls) (reversal_answer q run old)) old (reversal-in-bytes value (reversal_on q run old));
        refused = refuses reversed_in reversal_refusal same-reversal reversing (λ s. two_opt s run) (reversal_on q run old) is;
        untouched = leaves_all reversed_in reversal_refusal same-reversal (λ a. stored (front (λ x. x.calls) a) old) old (λ number. refl) (reversal_answer q run old) is left_is;
      }

-- ---- route elimination

same-elimination : (a : Answer Eliminated) → elimination_refusal (elimination_in a) ≡ number_of a
same-elimination (refused number) = refl
same-elimination (gives x) = refl

module _ (q : LentSheet) (calls ends : List ℕ) (old : EliminationOutput) where
  -- the lists, with an answer stored in them
  abbrev left : Answer Eliminated → EliminationOutput
  left a = elimination_output (stored (front (λ x. x.calls) a) old.calls) (stored (front (λ x. x.ends) a) old.ends)

  pub elimination-kept : {r : Elimination} {new : EliminationOutput} → r ≡ elimination_in (elimination_answer q calls ends old) → new ≡ left (elimination_answer q calls ends old)
      → EliminationContract q calls ends old r new
  elimination-kept is left_is =
      record {
        result = is;
        calls-left =
            (λ i. (left_is i).calls)
            ∙ stored_same (front (λ x. x.calls) (elimination_answer q calls ends old)) old.calls (elimination-calls-in-bytes value (elimination_on q calls ends old));
        ends-left =
            (λ i. (left_is i).ends)
            ∙ stored_same (front (λ x. x.ends) (elimination_answer q calls ends old)) old.ends (elimination-ends-in-bytes value (elimination_on q calls ends old));
        refused = refuses elimination_in elimination_refusal same-elimination eliminating (λ s. eliminate s (runs_of calls ends)) (elimination_on q calls ends old) is;
        untouched = leaves_all elimination_in elimination_refusal same-elimination left old (λ number. refl) (elimination_answer q calls ends old) is left_is;
      }
