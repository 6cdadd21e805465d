-- The text of a plan, given back, is read as the plan's calls, run ends and break places. Assumes nothing.
use Prim.Native.Nat.{ℕ, zero, suc}
use mathlib.Core.Path.{◌≡◌, refl, sym, ap, ap₂, subst, ◌∙◌}
use mathlib.Core.Bool.{true}
use mathlib.Core.List.{List, [], ◌∷◌, ◌++◌, map, append_assoc, append-nil}
use Rattle.std.specs.Prelude.{None, Some}
use lib.ListN.{length, length-append}
use Rattle.basics.proofs.TestLaws.{both}
use Rattle.basics.proofs.OptionLaws.{clash}
use Rattle.basics.specs.Lists.{All}
use Rattle.definitions.specs.Sheet.{Sheet}
use Rattle.definitions.specs.Run.{Run, legal}
use Rattle.definitions.specs.RunList.{runs_of, ends_from}
use Rattle.definitions.specs.Clock.{start_of}
use Rattle.definitions.specs.Placement.{Placement}
use Rattle.definitions.specs.Cutting.{calls_in, joined, legal_cutting}
use Rattle.definitions.specs.Drop.{Result, split_by}
use Rattle.definitions.specs.Marker.{with_places}
use Rattle.definitions.specs.Listing.{run_line, run_lines, drop_lines, total_line, end_of_line, plan_text}
use Rattle.texts.specs.CuttingText.{step, runs, read_cutting}
use Rattle.theorems.proofs.BreakStarts.{starts-at}
use Rattle.theorems.proofs.Legality.{legal-has}
use Rattle.theorems.proofs.RunListLaws.{runs-back}
use Rattle.theorems.proofs.Promised.{PromiseBy, promised-by}
use Rattle.theorems.proofs.GivenMarks.{own-places}
use Rattle.texts.proofs.CuttingSteps.{steps, walked, goes, Byte, read, line-goes, drops-go, total-goes}

-- a legal run whose line shows no break has none
unbroken : (s : Sheet) (calls : List ℕ) (p : ℕ) → legal s (record { calls = calls; place = p }) ≡ true → start_of s (record { calls = calls; place = p }) ≡ None → p ≡ 0
unbroken s calls zero h e = refl
unbroken s calls (suc k) h e = clash (sym e ∙ (starts-at s calls k h).1)

all_both : (P : ℕ → Type 0) (l m : List ℕ) → All P (l ++ m) → All P l × All P m
all_both P [] m a = (tt, a)
all_both P (x ∷ l) m a = let b = all_both P l m a.1 in ((a.0, b.0), b.1)

same_read : {a b c d e f : List ℕ} → a ≡ d → b ≡ e → c ≡ f → Some (read a b c) ≡ Some (read d e f)
same_read p q r i = Some (read (p i) (q i) (r i))

-- the lines of legal runs
runs-go : (s : Sheet) (calls ends places : List ℕ) (rs : List Run) → legal_cutting s rs ≡ true → All Byte (joined rs) → All Byte (map (λ r. r.place) rs)
    → steps (read calls ends places) (run_lines s rs) ≡ Some (read (calls ++ joined rs) (ends ++ ends_from (length calls) (calls_in rs)) (places ++ map (λ r. r.place) rs))
unfolding run_line
runs-go s calls ends places [] h a b = sym (same_read (append-nil calls) (append-nil ends) (append-nil places))
runs-go s calls ends places (r ∷ rs) h a b =
    let (here, later) = both (legal s r) (legal_cutting s rs) h in
    let (t, L) = legal-has s r here in
    let (own, others) = all_both Byte r.calls (joined rs) a in
    let n = length (calls ++ r.calls) in
    let line = line-goes calls ends places r.calls r.place (start_of s r) L.some-calls own b.0 (unbroken s r.calls r.place here) in
    goes (read calls ends places) (run_line s r) (run_lines s rs) line (runs-go s (calls ++ r.calls) (ends ++ n ∷ []) (places ++ r.place ∷ []) rs later others b.1)
    ∙ same_read (append_assoc calls r.calls (joined rs))
    (append_assoc ends (n ∷ []) (ends_from n (calls_in rs)) ∙ ap (λ (m : ℕ). ends ++ m ∷ ends_from m (calls_in rs)) (length-append calls r.calls))
    (append_assoc places (r.place ∷ []) (map (λ r. r.place) rs))

-- the text of the plan of a sheet, for either placement of its breaks
module _ (p : Placement) (s : Sheet) (tour : List ℕ) where
  abbrev x : Result
  x = split_by p s tour

  abbrev P : PromiseBy p s tour x
  P = promised-by s tour p

  runs-are : with_places (runs_of x.served x.ends) x.places ≡ P.runs
  runs-are =
      ap₂ with_places (ap₂ runs_of (sym P.cuts) (sym P.ends-are) ∙ runs-back 0 (calls_in P.runs)) (sym P.places-are ∙ sym (append-nil (map (λ r. r.place) P.runs)))
      ∙ own-places P.runs []

  pub plan-read : All Byte x.served → All Byte x.places → read_cutting (plan_text s tour x) ≡ runs x.served x.ends x.places
  unfolding read_cutting plan_text step
  plan-read a b =
      let run-lines = run_lines s (with_places (runs_of x.served x.ends) x.places) in
      let begun = read [] [] [] in
      let end = read x.served x.ends x.places in
      let lines : steps begun run-lines ≡ Some end =
      ap (λ (rs : List Run). steps begun (run_lines s rs)) runs-are
      ∙ runs-go s [] [] [] P.runs P.all-legal (subst (All Byte) (sym P.cuts) a) (subst (All Byte) (sym P.places-are) b)
      ∙ same_read P.cuts P.ends-are P.places-are in
      let drop-lines = drop_lines tour x.dropped in
      let dropped = goes begun run-lines drop-lines lines (drops-go x.served x.ends x.places tour x.dropped) in
      let all_lines = goes begun (run-lines ++ drop-lines) (total_line x) dropped (total-goes x.served x.ends x.places x) in
      walked 1 1 begun (plan_text s tour x ++ end_of_line) end (goes begun (plan_text s tour x) end_of_line all_lines refl)
