-- Ties go to the earlier cut point: no cutting of equal cost has a last run that starts earlier, and so on for the runs before it. Assumes nothing.
use Prim.Native.Nat.{ℕ, zero, suc, ◌+◌, ◌≤◌, ◌<◌}
use native.Mathlib.Omega.{arith}
use native.Mathlib.Numerals.{add-one}
use native.Mathlib.Nat.{le_refl, not-suc-le-zero, le_of_suc-le-suc}
use mathlib.Core.Path.{◌≡◌, refl, sym, ap, subst, ◌∙◌}
use mathlib.Core.Bool.{true}
use mathlib.Core.List.{List, [], ◌∷◌, ◌++◌, append-nil, nil≢cons, head-eq_of_cons-eq, tail-eq_of_cons-eq}
use Rattle.std.specs.Prelude.{Option, None, Some}
use lib.ListN.{length, take, drop, length-append}
use lib.Seq.{length-take-le, take-append_seam, drop-append_seam}
use lib.Dec.{ltb}
use borrow.Author.Tests.{ltb-true, ltb-false}
use Rattle.basics.proofs.TestLaws.{by-test, both}
use Rattle.basics.proofs.OptionLaws.{same, clash, bound}
use Rattle.basics.proofs.ListLaws.{all-parts, sum-append}
use Rattle.definitions.specs.Sheet.{Sheet}
use Rattle.definitions.specs.Run.{Run, legal}
use Rattle.definitions.specs.Clock.{Arc}
use Rattle.definitions.specs.Cutting.{joined, legal_cutting, cutting_cost, Best, cheapest}
use Rattle.definitions.specs.Promise.{Ties, no_run, last-run}
use Rattle.theorems.proofs.Least.{Earliest, joined-append, worth, cost_in, candidate, best_of, best-earliest}
use Rattle.theorems.proofs.Pricing.{Pricing, no-empty, made-legal, runs-reach}
use Rattle.theorems.proofs.Recurrence.{best_none}

-- ---- lists

-- a list that is not empty has a last element
last_of : (x : ℕ) (l : List ℕ) → (u : List ℕ) × (c : ℕ) × (x ∷ l ≡ u ++ (c ∷ []))
last_of x [] = ([], x, refl)
last_of x (y ∷ l) = let r = last_of y l in (x ∷ r.0, r.1, ap (λ (m : List ℕ). x ∷ m) r.2)

-- the end of a list that ends in c ends in c, where it is not empty
ends-in : (c : ℕ) (before since done : List ℕ) → before ++ since ≡ done ++ (c ∷ []) → (since ≡ [] → ⊥) → (v : List ℕ) × (since ≡ v ++ (c ∷ [])) × (before ++ v ≡ done)
ends-in c [] since done e h = (done, e, refl)
ends-in c (x ∷ before) since [] e h = absurd (h (nil-right before since (tail-eq_of_cons-eq e)))
  where
    nil-right : (u v : List ℕ) → u ++ v ≡ [] → v ≡ []
    nil-right [] v e = e
    nil-right (x ∷ u) v e = absurd (nil≢cons (sym e))
ends-in c (x ∷ before) since (y ∷ done) e h =
    let r = ends-in c before since done (tail-eq_of_cons-eq e) h in
    (r.0, r.1, ap (λ (z : ℕ). z ∷ (before ++ r.0)) (head-eq_of_cons-eq e) ∙ ap (λ (l : List ℕ). y ∷ l) r.2)

module _ (s : Sheet) (price : List ℕ → Option Arc) (P : Pricing s price) (Rival : List Run → Type 0)
    (legal-rival : (rs : List Run) → Rival rs → legal_cutting s rs ≡ true) (dear-rival : (rs : List Run) → Rival rs → worth price rs ≤ cutting_cost s rs) where
  -- a rival's last run starts at a cut point, whose candidate costs no more than the rival
  rival-candidate : (u : List ℕ) (c : ℕ) (ts : List Run) (t : Run) → joined (ts ++ (t ∷ [])) ≡ u ++ (c ∷ []) → Rival (ts ++ (t ∷ []))
      → (x : Best) × (candidate price u c (length (joined ts)) ≡ Some x) × (x.cost ≤ cutting_cost s (ts ++ (t ∷ [])))
  rival-candidate u c ts t e R =
      let L = all-parts (legal s) ts (t ∷ []) (legal-rival _ R) in
      let a = P.complete t (both (legal s t) _ L.1).0 in
      let j : joined ts ++ t.calls ≡ u ++ (c ∷ []) = ap (λ (l : List ℕ). joined ts ++ l) (sym (append-nil t.calls)) ∙ sym (joined-append ts (t ∷ [])) ∙ e in
      let v = ends-in c (joined ts) t.calls u j (λ z. clash (sym (no-empty s price P) ∙ ap price (sym z) ∙ a.1)) in
      let b = (best_of price (no-empty s price P) (joined ts)).below (worth price ts) (runs-reach s price P ts L.0) in
      let k = length (joined ts) in
      let p : take k u ≡ joined ts = ap (take k) (sym v.2) ∙ take-append_seam (joined ts) v.0 in
      let q : drop k u ++ (c ∷ []) ≡ t.calls = ap (λ (l : List ℕ). l ++ (c ∷ [])) (ap (drop k) (sym v.2) ∙ drop-append_seam (joined ts) v.0) ∙ sym v.1 in (
        record { cost = b.0.cost + a.0.cost; runs = b.0.runs ++ (record { calls = drop k u ++ (c ∷ []); place = a.0.place } ∷ []) },
        rw (ap (cheapest price) p ∙ b.1, ap price q ∙ a.1) refl,
        sums b.0.cost (worth price ts) a.0.cost (cost_in (price t.calls)) (worth price (ts ++ (t ∷ []))) (cutting_cost s (ts ++ (t ∷ []))) b.2 (ap cost_in a.1)
            (sum-append (λ r. cost_in (price r.calls)) ts (t ∷ [])) (dear-rival _ R),
      )
    where
      sums : (b w a x y z : ℕ) → b ≤ w → x ≡ a → y ≡ w + (x + 0) → y ≤ z → b + a ≤ z
      sums b w a x y z h e f g = omega arith

  -- the last run of the best starts no later than a rival's of equal cost
  early : (u : List ℕ) (c : ℕ) (m : Best) (e : cheapest price (u ++ (c ∷ [])) ≡ Some m) (E : Earliest price u c (suc (length u)) m)
      (b : Best) → cheapest price (take E.start u) ≡ Some b → (r : Run) → b.runs ++ (r ∷ []) ≡ m.runs
      → (ts : List Run) (t : Run) → joined (ts ++ (t ∷ [])) ≡ joined (b.runs ++ (r ∷ [])) → Rival (ts ++ (t ∷ [])) → cutting_cost s (ts ++ (t ∷ [])) ≡ cutting_cost s (b.runs ++ (r ∷ []))
      → length (joined b.runs) ≤ length (joined ts)
  early u c m e E b p r runs ts t j R f =
      let C = (best_of price (no-empty s price P) (u ++ (c ∷ []))).cuts m e in
      let x = rival-candidate u c ts t (j ∙ ap joined runs ∙ C.0) R in
      let cost : cutting_cost s (ts ++ (t ∷ [])) ≡ m.cost = f ∙ ap (cutting_cost s) runs ∙ (made-legal s price P m.runs C.1).1 ∙ C.2 in
      let starts : length (joined b.runs) ≡ E.start =
      ap length ((best_of price (no-empty s price P) (take E.start u)).cuts b p).0 ∙ length-take-le E.start u (le_of_suc-le-suc E.below) in
      by-test (ltb (length (joined ts)) E.start)
      (λ q. absurd (dearer m.cost x.0.cost (cutting_cost s (ts ++ (t ∷ []))) (E.before (length (joined ts)) x.0 (ltb-true (length (joined ts)) E.start q) x.1) x.2 cost))
      (λ q. let i = ltb-false (length (joined ts)) E.start q in omega arith)
    where
      dearer : (m x z : ℕ) → m < x → x ≤ z → z ≡ m → ⊥
      dearer m x z h i e = omega arith

  -- ties go early for calls whose shorter beginnings have it so
  ties-step : (n : ℕ) (calls : List ℕ) → length calls ≤ suc n → ((l : List ℕ) → length l ≤ n → (m : Best) → cheapest price l ≡ Some m → Ties s Rival m.runs)
      → (m : Best) → cheapest price calls ≡ Some m → Ties s Rival m.runs
  ties-step n [] h ih m e = subst (λ (b : Best). Ties s Rival b.runs) (same (sym (best_none price) ∙ e)) no_run
  ties-step n (x ∷ l) h ih m e =
      let (u, c, is) = last_of x l in
      let e' : cheapest price (u ++ (c ∷ [])) ≡ Some m = ap (cheapest price) (sym is) ∙ e in
      let E = best-earliest price u c m e' in
      let y = bound (cheapest price (take E.start u)) _ m E.made in
      let z = bound (price (drop E.start u ++ (c ∷ []))) _ m y.2 in
      let last : Run = record { calls = drop E.start u ++ (c ∷ []); place = z.0.place } in
      let runs : y.0.runs ++ (last ∷ []) ≡ m.runs = ap (λ (b : Best). b.runs) (same z.2) in
      let taken : length (take E.start u) ≡ E.start = length-take-le E.start u (le_of_suc-le-suc E.below) in
      let long : length (x ∷ l) ≡ suc (length u) = ap length is ∙ length-append u (c ∷ []) ∙ add-one (length u) in
      subst (Ties s Rival) runs
      (last-run last (ih (take E.start u) (shorter (length (take E.start u)) E.start (length u) taken E.below long) y.0 y.1) (early u c m e' E y.0 y.1 last runs))
    where
      shorter : (a b k : ℕ) → a ≡ b → b < suc k → length (x ∷ l) ≡ suc k → a ≤ n
      shorter a b k e f g = omega arith

  ties-in : (n : ℕ) (calls : List ℕ) → length calls ≤ n → (m : Best) → cheapest price calls ≡ Some m → Ties s Rival m.runs
  ties-in zero calls h m e =
      ties-step zero calls (omega arith) (λ l i b f. subst (λ (q : Best). Ties s Rival q.runs) (same (sym (best_none price) ∙ ap (cheapest price) (sym (None l i)) ∙ f)) no_run) m e
    where
      None : (l : List ℕ) → length l ≤ 0 → l ≡ []
      None [] i = refl
      None (x ∷ l) i = absurd (not-suc-le-zero i)
  ties-in (suc n) calls h m e = ties-step n calls h (λ l i b f. ties-in n l i b f) m e

  pub ties-early : (calls : List ℕ) (m : Best) → cheapest price calls ≡ Some m → Ties s Rival m.runs
  ties-early calls m e = ties-in (length calls) calls (le_refl (length calls)) m e
