-- The best of a cut point is the least cost of all cuttings of the calls before it, its runs are such a cutting, and of equal ones the earliest cut point is kept. Assumes nothing.
use Prim.Native.Nat.{ℕ, suc, ◌+◌, ◌≤◌, ◌<◌}
use native.Mathlib.Omega.{arith}
use native.Mathlib.Nat.{le_trans, le_of_lt, le_of_suc-le-suc, zero-add, add-zero, add_assoc}
use native.Mathlib.Numerals.{add-one}
use mathlib.Core.Path.{◌≡◌, refl, sym, ap, subst, ◌∙◌}
use mathlib.Core.Bool.{true, false, true≢false}
use mathlib.Core.List.{List, [], ◌∷◌, ◌++◌, append-nil, append_assoc}
use Rattle.std.specs.Prelude.{Option, None, Some}
use lib.ListN.{length, take, drop, length-append, take-append-drop}
use lib.Seq.{take-take, take-length, length-take-le}
use borrow.Author.Tests.{ltb-true, ltb-false, le-ltb}
use Rattle.basics.specs.Options.{present}
use Rattle.basics.proofs.OptionLaws.{clash, held}
use Rattle.basics.specs.Lists.{sum}
use Rattle.basics.proofs.ListLaws.{sum-append}
use Rattle.cut_theory.specs.Cut.{Rule, Laws}
use Rattle.cut_theory.specs.Cut as C
use Rattle.cut_theory.proofs.Best as B
use Rattle.cut_theory.specs.Plain.{PlainLaws, GoodOpt, lower_opt}
use Rattle.cut_theory.proofs.PlainBest.{rule-laws}
use Rattle.definitions.specs.Run.{Run}
use Rattle.definitions.specs.Clock.{Arc}
use Rattle.definitions.specs.Cutting.{joined, Best, lower, Point, nothing, close, points, cheapest}
use Rattle.theorems.proofs.Recurrence.{best_none, tails, points-are}
use Rattle.theorems.proofs.Bridge.{and_run, stretch, plain, rule, best-at, cand-at}

pub joined-append : (rs ts : List Run) → joined (rs ++ ts) ≡ joined rs ++ joined ts
joined-append [] ts = refl
joined-append (r ∷ rs) ts = ap (λ (l : List ℕ). r.calls ++ l) (joined-append rs ts) ∙ sym (append_assoc r.calls (joined rs) (joined ts))

abbrev pub cost_in : Option Arc → ℕ
cost_in None = 0
cost_in (Some a) = a.cost

module _ (arc : List ℕ → Option Arc) where
  -- the calls have a cutting of this cost: none, or one of the calls before a last run, and that run
  pub data Reach : List ℕ → ℕ → Type 0 where
    start : {calls : List ℕ} {n : ℕ} → calls ≡ [] → n ≡ 0 → Reach calls n
    more : {calls : List ℕ} {n : ℕ} (before since : List ℕ) (m : ℕ) (a : Arc) → Reach before m → arc since ≡ Some a → before ++ since ≡ calls → m + a.cost ≡ n → Reach calls n

  -- each run has the place of its arc
  abbrev pub Made : List Run → Type 0
  Made [] = Unit {0}
  Made (r ∷ rs) = ((a : Arc) × (arc r.calls ≡ Some a) × (a.place ≡ r.place)) × Made rs

  -- each run has an arc
  abbrev pub Arced : List Run → Type 0
  Arced [] = Unit {0}
  Arced (r ∷ rs) = ((a : Arc) × (arc r.calls ≡ Some a)) × Arced rs

  pub made-arced : (rs : List Run) → Made rs → Arced rs
  made-arced [] m = tt
  made-arced (r ∷ rs) m = ((m.0.0, m.0.1), made-arced rs m.1)

  abbrev pub worth : List Run → ℕ
  worth rs = sum (λ r. cost_in (arc r.calls)) rs

  made-append : (rs ts : List Run) → Made rs → Made ts → Made (rs ++ ts)
  made-append [] ts m n = n
  made-append (r ∷ rs) ts m n = (m.0, made-append rs ts m.1 n)

  -- m is a cutting of calls
  abbrev pub Cuts : List ℕ → Best → Type 0
  Cuts calls m = (joined m.runs ≡ calls) × Made m.runs × (worth m.runs ≡ m.cost)

  -- what a point's best is, for the calls before it
  pub record BestOf (calls : List ℕ) (b : Option Best) : Type 0 where
    pub cuts : (m : Best) → b ≡ Some m → Cuts calls m
    pub below : (n : ℕ) → Reach calls n → (m : Best) × (b ≡ Some m) × (m.cost ≤ n)

  -- runs one after the other reach what they join up to
  pub reach-runs : (before : List ℕ) (m : ℕ) → Reach before m → (rs : List Run) → Arced rs → Reach (before ++ joined rs) (m + worth rs)
  reach-runs before m R [] M = subst (λ (n : ℕ). Reach (before ++ []) n) (sym (add-zero m)) (subst (λ (l : List ℕ). Reach l m) (sym (append-nil before)) R)
  reach-runs before m R (r ∷ rs) M =
      let a = M.0.0 in
      let e = M.0.1 in
      subst (λ (l : List ℕ). Reach l (m + worth (r ∷ rs))) (append_assoc before r.calls (joined rs))
      (subst (λ (n : ℕ). Reach (before ++ r.calls ++ joined rs) n) (add_assoc m (cost_in (arc r.calls)) (worth rs))
      (reach-runs (before ++ r.calls) (m + cost_in (arc r.calls))
      (more before r.calls m a R e refl (ap (λ (o : Option Arc). m + cost_in o) (sym e))) rs M.1))

  -- cuttings one after the other
  pub reach-append : {u v : List ℕ} {m n : ℕ} → Reach u m → Reach v n → Reach (u ++ v) (m + n)
  reach-append {u} {v} {m} {n} R (start e z) =
      subst (λ (k : ℕ). Reach (u ++ v) k) (sym (ap (λ (k : ℕ). m + k) z ∙ add-zero m))
      (subst (λ (l : List ℕ). Reach l m) (sym (ap (λ (l : List ℕ). u ++ l) e ∙ append-nil u)) R)
  reach-append {u} {v} {m} {n} R (more before since k a Q q e z) =
      more (u ++ before) since (m + k) a (reach-append R Q) q (append_assoc u before since ∙ ap (λ (l : List ℕ). u ++ l) e)
      (add_assoc m k a.cost ∙ ap (λ (j : ℕ). m + j) z)

  pub best-reach : (calls : List ℕ) (b : Option Best) → BestOf calls b → (m : Best) → b ≡ Some m → Reach calls m.cost
  best-reach calls b B m e =
      let c = B.cuts m e in
      subst (λ (l : List ℕ). Reach l m.cost) c.0
      (subst (λ (n : ℕ). Reach (joined m.runs) n) (zero-add (worth m.runs) ∙ c.2) (reach-runs [] 0 (start refl refl) m.runs (made-arced m.runs c.1)))

  -- the points of pre ++ rest from pre on
  abbrev pub Table : List ℕ → List ℕ → List Point → Type 0
  Table pre rest [] = ⊥
  Table pre [] (p ∷ ps) = BestOf pre p.best × (p.since ≡ []) × (ps ≡ [])
  Table pre (c ∷ rest) (p ∷ ps) = BestOf pre p.best × (p.since ≡ c ∷ rest) × Table (pre ++ (c ∷ [])) rest ps

  -- the cutting of the first k calls of u with the best, and then one run of the others and c
  abbrev pub candidate : List ℕ → ℕ → ℕ → Option Best
  candidate u c k = close arc (record { best = cheapest arc (take k u); since = drop k u ++ (c ∷ []) })

  -- start is the first start at which the candidates below n come to m, and none of them comes to less
  pub record Earliest (u : List ℕ) (c n : ℕ) (m : Best) : Type 0 where
    pub start : ℕ
    pub below : start < n
    pub made : candidate u c start ≡ Some m
    pub before : (k : ℕ) (x : Best) → k < start → candidate u c k ≡ Some x → m.cost < x.cost
    pub after : (k : ℕ) (x : Best) → k < n → candidate u c k ≡ Some x → m.cost ≤ x.cost

  -- ---- the laws that the theory of the cut asks

  abbrev last_run : List ℕ → Arc → List Run
  last_run since a = record { calls = since; place = a.place } ∷ []

  cuts-more : (u since : List ℕ) (b : Best) (a : Arc) → (joined b.runs ≡ u) × Made b.runs × (worth b.runs ≡ b.cost) → arc since ≡ Some a
      → (joined (b.runs ++ last_run since a) ≡ u ++ since) × Made (b.runs ++ last_run since a) × (worth (b.runs ++ last_run since a) ≡ b.cost + a.cost)
  cuts-more u since b a C e = (
    joined-append b.runs (last_run since a) ∙ ap (λ (l : List ℕ). joined b.runs ++ l) (append-nil since) ∙ ap (λ (l : List ℕ). l ++ since) C.0,
    made-append b.runs (last_run since a) C.1 ((a, e, refl), tt),
    sum-append (λ r. cost_in (arc r.calls)) b.runs (last_run since a) ∙ ends (worth b.runs) b.cost (cost_in (arc since)) a.cost C.2 (ap cost_in e),
  )
    where
      ends : (w c x y : ℕ) → w ≡ c → x ≡ y → w + (x + 0) ≡ c + y
      ends w c x y p q = omega arith

  module _ (calls : List ℕ) where
    run-cuts : (b : Best) (i j : ℕ) → i < j → present (arc (stretch arc calls i j)) ≡ true → Cuts (take i calls) b
        → Cuts (take j calls) (and_run b (stretch arc calls i j) (arc (stretch arc calls i j)))
    run-cuts b i j o l g =
        let a = held (arc (stretch arc calls i j)) _ l in
        rw a.1
        (subst (λ (u : List ℕ). Cuts u (and_run b (stretch arc calls i j) (Some a.0)))
        (ap (λ (u : List ℕ). u ++ stretch arc calls i j) (sym (take-take i j calls (le_of_lt o))) ∙ take-append-drop i (take j calls))
        (cuts-more (take i calls) (stretch arc calls i j) b a.0 g a.1))

    run-keeps : (a b : Best) (since : List ℕ) (o : Option Arc) → lower b a ≡ false → lower (and_run b since o) (and_run a since o) ≡ false
    run-keeps a b since None h = h
    run-keeps a b since (Some r) h = le-ltb (b.cost + r.cost) (a.cost + r.cost) (omega (arith, ltb-false b.cost a.cost h))

    plain-laws : PlainLaws (plain arc calls) (λ j b. Cuts (take j calls) b)
    plain-laws =
        record {
          asym = λ _ a b _ _ h. le-ltb b.cost a.cost (le_of_lt (ltb-true a.cost b.cost h));
          neg-trans = λ _ a b c _ _ _ h k. le-ltb c.cost a.cost (le_trans (ltb-false b.cost a.cost h) (ltb-false c.cost b.cost k));
          start-good = (refl, tt, refl);
          ext-good = run-cuts;
          mono = λ a b i j _ _ _ _ h. run-keeps a b (stretch arc calls i j) (arc (stretch arc calls i j)) h;
        }

    -- what may stand at j
    abbrev Good : ℕ → Option Best → Type 0
    Good = GoodOpt (λ j b. Cuts (take j calls) b)

    laws : Laws (rule arc calls) Good
    laws = rule-laws (plain arc calls) (λ j b. Cuts (take j calls) b) plain-laws

    -- what that theory says of the best, and of a last run
    good : (m : Best) → cheapest arc calls ≡ Some m → Cuts calls m
    good m e = rw (best-at arc calls, e, take-length calls) at (B.cost-good (rule arc calls) Good laws (length calls) (length calls))

    at_most : (before since : List ℕ) (x : Best) → before ++ since ≡ calls → length before < length calls → close arc (record { best = cheapest arc before; since = since }) ≡ Some x
        → lower_opt (plain arc calls) (Some x) (cheapest arc calls) ≡ false
    at_most before since x e l q =
        rw (cand-at arc calls before since e, q, best-at arc calls) at (B.best-le-cand (rule arc calls) Good laws (length before) (length calls) l)

    at-most-some : (x : Best) (o : Option Best) → lower_opt (plain arc calls) (Some x) o ≡ false → (m : Best) × (o ≡ Some m) × (m.cost ≤ x.cost)
    at-most-some x None h = absurd (true≢false h)
    at-most-some x (Some m) h = (m, refl, ltb-false x.cost m.cost h)

  -- ---- the cutting of calls is of the least cost

  module _ (empty : arc [] ≡ None) where
    least-below : (calls : List ℕ) (n : ℕ) → Reach calls n → (m : Best) × (cheapest arc calls ≡ Some m) × (m.cost ≤ n)
    least-below calls n (start e z) = (nothing, ap (λ (l : List ℕ). cheapest arc l) e ∙ best_none arc, omega arith)
    least-below calls n (more before since k a R q e z) =
        let b = least-below before k R in
        let x : Best = and_run b.0 since (Some a) in
        let m =
        at-most-some calls x (cheapest arc calls) (at_most calls before since x e (shorter since (λ s. clash (sym empty ∙ ap arc (sym s) ∙ q)) (ap length (sym e) ∙ length-append before since))
        (rw (b.1, q) refl)) in
        (m.0, m.1, omega (arith, m.2, b.2))
      where
        shorter : (l : List ℕ) → (l ≡ [] → ⊥) → length calls ≡ length before + length l → length before < length calls
        shorter [] h s = absurd (h refl)
        shorter (c ∷ l) h s = omega arith

  pub best_of : arc [] ≡ None → (calls : List ℕ) → BestOf calls (cheapest arc calls)
  best_of empty calls = record { cuts = good calls; below = least-below empty calls }

  -- the points of calls are a table of them
  pub table : arc [] ≡ None → (calls : List ℕ) → Table [] calls (points arc calls)
  table empty calls = subst (λ (ps : List Point). Table [] calls ps) (sym (points-are arc calls)) (go [] calls)
    where
      go : (pre rest : List ℕ) → Table pre rest (tails arc pre rest)
      go pre [] = (best_of empty pre, refl, refl)
      go pre (c ∷ rest) = (best_of empty pre, refl, go (pre ++ (c ∷ [])) rest)

  -- of two lists joined the least cost is at most the sum of the two
  pub best-joined : arc [] ≡ None → (u v : List ℕ) (x y : Best) → cheapest arc u ≡ Some x → cheapest arc v ≡ Some y
      → (m : Best) × (cheapest arc (u ++ v) ≡ Some m) × (m.cost ≤ x.cost + y.cost)
  best-joined empty u v x y p q =
      (best_of empty (u ++ v)).below (x.cost + y.cost)
      (reach-append (best-reach u (cheapest arc u) (best_of empty u) x p) (best-reach v (cheapest arc v) (best_of empty v) y q))

  -- ---- of the starts that attain the least cost the planner keeps the first

  module _ (u : List ℕ) (c : ℕ) where
    abbrev S : Rule (Option Best)
    S = rule arc (u ++ (c ∷ []))

    long : length (u ++ (c ∷ [])) ≡ suc (length u)
    long = length-append u (c ∷ []) ∙ add-one (length u)

    cand-of : (k : ℕ) → k < suc (length u) → C.cand S k (suc (length u)) ≡ candidate u c k
    cand-of k h =
        ap (λ (n : ℕ). C.cand S n (suc (length u))) (sym (length-take-le k u (le_of_suc-le-suc h)))
        ∙ ap (λ (n : ℕ). C.cand S (length (take k u)) n) (sym long)
        ∙ cand-at arc (u ++ (c ∷ [])) (take k u) (drop k u ++ (c ∷ [])) (sym (append_assoc (take k u) (drop k u) (c ∷ [])) ∙ ap (λ (l : List ℕ). l ++ (c ∷ [])) (take-append-drop k u))

    pub best-earliest : (m : Best) → cheapest arc (u ++ (c ∷ [])) ≡ Some m → Earliest u c (suc (length u)) m
    best-earliest m e =
        let n = suc (length u) in
        let L = laws (u ++ (c ∷ [])) in
        let is : C.best S n ≡ Some m = ap (λ (k : ℕ). C.best S k) (sym long) ∙ best-at arc (u ++ (c ∷ [])) ∙ e in
        let r = B.last-run S _ L (length u) (rw is refl) in
        record {
          start = C.pred S n;
          below = r.0;
          made = sym (cand-of (C.pred S n) r.0) ∙ sym r.1 ∙ is;
          before = λ k x h q. ltb-true m.cost x.cost (rw (is, cand-of k (le_trans h (le_of_lt r.0)), q) at (B.pred-first S _ L n k h));
          after = λ k x h q. ltb-false x.cost m.cost (rw (is, cand-of k h, q) at (B.best-le-cand S _ L k n h));
        }
