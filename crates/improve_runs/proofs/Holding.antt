-- What a run list in two lists holds: the joined calls and the run ends of its runs stand at the front of its arrays. Assumes nothing.
use Prim.Native.Nat.{ℕ, zero, suc, ◌+◌, ◌<◌, ◌≤◌}
use native.Mathlib.Omega.{arith}
use native.Mathlib.Nat.{add-zero, zero-add, not-suc-le-zero, le_of_suc-le-suc}
use mathlib.Core.Path.{◌≡◌, refl, sym, ap, ap₂, subst, ◌∙◌}
use mathlib.Core.Bool.{false}
use mathlib.Core.List.{List, [], ◌∷◌, ◌++◌, append-nil, append_assoc}
use lib.ListN.{length, get_or, take, drop, length-append}
use lib.Seq.{length-take-le, take-append_seam, drop-append_seam, take-suc, split_at}
use lib.Dec.{ltb, eqb}
use borrow.Author.Tests.{ltb-false, le-ltb, eqb-true, eq-eqb}
use Rattle.basics.proofs.TestLaws.{not-false, or_left, or_right, or-false}
use Rattle.definitions.specs.Refusals.{ends_fall}
use Rattle.definitions.specs.RunList.{runs_of, calls_of, ends_from, ends_of}
use Rattle.theorems.proofs.RunListLaws.{RiseTo, runs-back, calls_back, ends-back, ends-many}
use Rattle.evaluation.specs.Tables.{place_before}
use Rattle.improve_runs.specs.RunLists.{room, Front, Runs, runs, start_in, runs_in, Sound, run_at, Copies}
use Rattle.improve_runs.proofs.Fronts.{front_at, front_same}

pub record Held (rs : List (List ℕ)) (r : Runs) : Type 0 where
  pub calls-front : Front (calls_of rs) r.calls
  pub ends-front : Front (ends_of rs) r.ends
  pub many_is : r.many ≡ length (calls_of rs)
  pub count-is : r.count ≡ length rs

-- ---- ends that do not fall rise, or stay

pub rises-to : (p : ℕ) (ends : List ℕ) (n : ℕ) → ends_fall p ends n ≡ false → RiseTo p ends n
rises-to p [] n h = eqb-true p n (not-false (eqb p n) h)
rises-to p (e ∷ ends) n h = (ltb-false e p (or_left (ltb e p) (ends_fall e ends n) h), rises-to e ends n (or_right (ltb e p) (ends_fall e ends n) h))

no-fall : (p : ℕ) (ends : List ℕ) (n : ℕ) → RiseTo p ends n → ends_fall p ends n ≡ false
no-fall p [] n h = rw (eq-eqb p n h)
no-fall p (e ∷ ends) n h = or-false (ltb e p) (ends_fall e ends n) (le-ltb e p h.0) (no-fall e ends n h.1)

-- ---- between the arrays and the runs

pub rise-ends : (p : ℕ) (rs : List (List ℕ)) → RiseTo p (ends_from p rs) (p + length (calls_of rs))
rise-ends p [] = sym (add-zero p)
rise-ends p (r ∷ rs) =
    let e : p + length r + length (calls_of rs) ≡ p + length (r ++ calls_of rs) = omega (arith, length-append r (calls_of rs)) in
    (omega arith, subst (RiseTo (p + length r) (ends_from (p + length r) rs)) e (rise-ends (p + length r) rs))

pub held : (r : Runs) → Sound r → Held (runs_in r) r
held r S =
    let calls = take r.many r.calls in
    let ends = take r.count r.ends in
    let many : length calls ≡ r.many = length-take-le r.many r.calls (omega (arith, S.calls-fit, S.calls-long)) in
    let count : length ends ≡ r.count = length-take-le r.count r.ends (omega (arith, S.runs_fit, S.ends-long)) in
    let rises : RiseTo 0 ends (0 + length calls) = subst (RiseTo 0 ends) (sym (zero-add (length calls) ∙ many)) (rises-to 0 ends r.many S.rises) in
    let cs : calls_of (runs_in r) ≡ calls = calls_back 0 calls ends rises in
    let es : ends_of (runs_in r) ≡ ends = ends-back 0 calls ends rises in
    let m : length (calls_of (runs_in r)) ≡ r.many = ap length cs ∙ many in
    let n : length (ends_of (runs_in r)) ≡ r.count = ap length es ∙ count in
    record {
      calls-front = record { long = S.calls-long; fits = subst (λ (k : ℕ). k ≤ room) (sym m) S.calls-fit; is = ap (λ (k : ℕ). take k r.calls) m ∙ sym cs };
      ends-front = record { long = S.ends-long; fits = subst (λ (k : ℕ). k ≤ room) (sym n) S.runs_fit; is = ap (λ (k : ℕ). take k r.ends) n ∙ sym es };
      many_is = sym m;
      count-is = sym n ∙ ends-many 0 (runs_in r);
    }

module _ (rs : List (List ℕ)) (r : Runs) (H : Held rs r) where
  pub calls_are : take r.many r.calls ≡ calls_of rs
  calls_are = ap (λ (k : ℕ). take k r.calls) H.many_is ∙ H.calls-front.is

  pub ends-are : take r.count r.ends ≡ ends_of rs
  ends-are = ap (λ (k : ℕ). take k r.ends) (H.count-is ∙ sym (ends-many 0 rs)) ∙ H.ends-front.is

  pub same_runs : runs_in r ≡ rs
  same_runs = ap₂ runs_of calls_are ends-are ∙ runs-back 0 rs

  pub sound : Sound r
  sound =
      let many : 0 + length (calls_of rs) ≡ r.many = zero-add (length (calls_of rs)) ∙ sym H.many_is in
      record {
        calls-long = H.calls-front.long;
        ends-long = H.ends-front.long;
        calls-fit = subst (λ (k : ℕ). k ≤ room) (sym H.many_is) H.calls-front.fits;
        runs_fit = subst (λ (k : ℕ). k ≤ room) (ends-many 0 rs ∙ sym H.count-is) H.ends-front.fits;
        rises = subst (λ (l : List ℕ). ends_fall 0 l r.many ≡ false) (sym ends-are) (no-fall 0 (ends_of rs) r.many (subst (RiseTo 0 (ends_of rs)) many (rise-ends 0 rs)));
      }

-- lent calls and run ends at the front of two arrays
pub lent_runs : (calls ends a b : List ℕ) → Front calls a → Front ends b → ends_fall 0 ends (length calls) ≡ false
    → let r : Runs = record { calls = a; ends = b; many = length calls; count = length ends } in Sound r × (runs_in r ≡ runs_of calls ends)
lent_runs calls ends a b F G rises = (
  record { calls-long = F.long; ends-long = G.long; calls-fit = F.fits; runs_fit = G.fits; rises = subst (λ (l : List ℕ). ends_fall 0 l (length calls) ≡ false) (sym G.is) rises },
  ap₂ runs_of F.is G.is,
)

-- the same calls and ends in two other lists
pub copied : (r : Runs) → Sound r → (a b : List ℕ) → Front (take r.many r.calls) a → Front (take r.count r.ends) b → Copies r (runs a b r.many r.count)
copied r S a b F G =
    let rs = runs_in r in
    let H = held r S in
    let new : Held rs (runs a b r.many r.count) =
    record { calls-front = front_same (calls_are rs r H) F; ends-front = front_same (ends-are rs r H) G; many_is = H.many_is; count-is = H.count-is } in
    record { sound = sound rs (runs a b r.many r.count) new; is = same_runs rs (runs a b r.many r.count) new }

-- ---- where a run starts, and its part of the calls

-- the calls before run k
unfoldable pub start_at : List (List ℕ) → ℕ → ℕ
start_at rs k = length (calls_of (take k rs))

pub calls-append : (a b : List (List ℕ)) → calls_of (a ++ b) ≡ calls_of a ++ calls_of b
calls-append [] b = refl
calls-append (r ∷ a) b = ap (λ (l : List ℕ). r ++ l) (calls-append a b) ∙ sym (append_assoc r (calls_of a) (calls_of b))

ends_at : (p : ℕ) (rs : List (List ℕ)) (j : ℕ) → j < length rs → get_or (ends_from p rs) j 0 ≡ p + length (calls_of (take (suc j) rs))
ends_at p [] j h = absurd (not-suc-le-zero h)
ends_at p (r ∷ rs) zero h = ap (λ (l : List ℕ). p + length l) (sym (append-nil r))
ends_at p (r ∷ rs) (suc j) h = ends_at (p + length r) rs j (le_of_suc-le-suc h) ∙ omega (arith, length-append r (calls_of (take (suc j) rs)))

pub start_is : (rs : List (List ℕ)) (r : Runs) → Held rs r → (k : ℕ) → k ≤ length rs → start_in r.ends k ≡ start_at rs k
unfolding start_at place_before
start_is rs r H zero h = refl
start_is rs r H (suc j) h = front_at H.ends-front j 0 (omega (arith, ends-many 0 rs)) ∙ ends_at 0 rs j h ∙ zero-add _

module _ (rs : List (List ℕ)) (k : ℕ) (h : k < length rs) where
  abbrev before : List (List ℕ)
  before = take k rs

  abbrev behind : List (List ℕ)
  behind = drop (suc k) rs

  pub parts : rs ≡ before ++ (run_at rs k ∷ behind)
  parts = split_at rs k [] h

  calls-parts : calls_of rs ≡ calls_of before ++ (run_at rs k ++ calls_of behind)
  calls-parts = ap calls_of parts ∙ calls-append before (run_at rs k ∷ behind)

  pub start-next : start_at rs (suc k) ≡ start_at rs k + length (run_at rs k)
  unfolding start_at
  start-next =
      ap (λ (l : List (List ℕ)). length (calls_of l)) (take-suc rs k [] h)
      ∙ ap length (calls-append before (run_at rs k ∷ []))
      ∙ length-append (calls_of before) (run_at rs k ++ [])
      ∙ ap (λ (l : List ℕ). start_at rs k + length l) (append-nil (run_at rs k))

  -- the calls of run k stand between its start and its end
  pub run-part : take (length (run_at rs k)) (drop (start_at rs k) (calls_of rs)) ≡ run_at rs k
  unfolding start_at
  run-part =
      ap (λ (l : List ℕ). take (length (run_at rs k)) (drop (start_at rs k) l)) calls-parts
      ∙ ap (take (length (run_at rs k))) (drop-append_seam (calls_of before) (run_at rs k ++ calls_of behind))
      ∙ take-append_seam (run_at rs k) (calls_of behind)

  pub within : start_at rs k + length (run_at rs k) ≤ length (calls_of rs)
  unfolding start_at
  within =
      omega (arith, ap length calls-parts, length-append (calls_of before) (run_at rs k ++ calls_of behind), length-append (run_at rs k) (calls_of behind))
