-- The same in a run list: what its two lists hold when a customer is put into a run, and when a run is taken out. Assumes nothing.
use Prim.Native.Nat.{ℕ, suc, ◌+◌, ◌-◌, ◌<◌, ◌≤◌}
use native.Mathlib.Omega.{arith}
use native.Mathlib.Nat.{le_of_lt}
use native.Mathlib.Numerals.{add-one}
use mathlib.Core.Path.{◌≡◌, refl, sym, ap, ap₂, subst, ◌∙◌}
use mathlib.Core.List.{List, ◌∷◌, ◌++◌, map}
use lib.ListN.{length, get_or, take, drop, length-append, length-drop}
use lib.Seq.{length-take-le, take-take}
use Rattle.basics.specs.Lists.{without}
use Rattle.basics.proofs.ListLaws.{length_without}
use Rattle.definitions.specs.RunList.{calls_of, ends_of}
use Rattle.theorems.proofs.RunListLaws.{ends-many}
use Rattle.evaluation.specs.Tables.{place_before}
use Rattle.improve_runs.specs.RunLists.{room, Front, Runs, start_in, runs_in, Sound, Rise, run_at, insert_at, put_in, shifted, Measures}
use Rattle.improve_runs.proofs.Fronts.{front_same, front-part, part-is}
use Rattle.improve_runs.proofs.Holding.{Held, held, calls_are, start_at, start_is, start-next, within, run-part}
use Rattle.improve_runs.proofs.RunParts.{length-put, calls-put, ends-put, calls-less, ends-less, ends-behind}

module _ (r : Runs) (S : Sound r) where
  abbrev here : List (List ℕ)
  here = runs_in r

  calls-part : (f : ℕ) → take (r.many - f) (drop f r.calls) ≡ drop f (calls_of here)
  calls-part f = front-part (held r S).calls-front f r.many (held r S).many_is

  ends-part : (f : ℕ) → take (r.count - f) (drop f r.ends) ≡ drop f (ends_of here)
  ends-part f = front-part (held r S).ends-front f r.count ((held r S).count-is ∙ sym (ends-many 0 here))

  module _ (k : ℕ) (h : k < r.count) where
    inside : k < length here
    inside = subst (λ (n : ℕ). k < n) (held r S).count-is h

    start-here : start_in r.ends k ≡ start_at here k
    start-here = start_is here r (held r S) k (le_of_lt inside)

    start-behind : start_in r.ends (k + 1) ≡ start_in r.ends k + length (run_at here k)
    start-behind = ap (start_in r.ends) (add-one k) ∙ start_is here r (held r S) (suc k) inside ∙ start-next here k inside ∙ ap (λ (n : ℕ). n + length (run_at here k)) (sym start-here)

    pub run_inside : start_in r.ends k + length (run_at here k) ≤ r.many
    run_inside = omega (arith, start-here, within here k inside, (held r S).many_is)

    -- what `paste_moved` asks of the ends behind run k
    pub ends-later : (part : List ℕ) → part ≡ take (r.count - (k + 1)) (drop (k + 1) r.ends) → (j : ℕ) → j < length part
        → length (run_at here k) ≤ get_or part j 0
    ends-later part e j b =
        let p = e ∙ ends-part (k + 1) ∙ ap (λ (n : ℕ). drop n (ends_of here)) (add-one k) in
        let q = ends-behind here k inside j (subst (λ (l : List ℕ). j < length l) p b) in
        let v = ap (λ (l : List ℕ). get_or l j 0) p in
        omega (arith, v, q.0)

    front-calls : (at : ℕ) → at ≤ r.many → take at r.calls ≡ take at (calls_of here)
    front-calls at b = sym (take-take at (length (calls_of here)) r.calls (omega (arith, (held r S).many_is))) ∙ ap (take at) (held r S).calls-front.is

    front_ends : take k r.ends ≡ take k (ends_of here)
    front_ends = sym (take-take k (length (ends_of here)) r.ends (omega (arith, inside, ends-many 0 here))) ∙ ap (take k) (held r S).ends-front.is

    -- a customer put into run k
    module _ (pos c at : ℕ) (b : pos ≤ length (run_at here k)) (short : r.many < room) (ea : at ≡ start_in r.ends k + pos) (calls' ends' : List ℕ)
        (C : Front (insert_at at c (take r.many r.calls)) calls')
        (E : Front (take k r.ends ++ map (shifted 1 0) (take (r.count - k) (drop k r.ends))) ends') where
      place : at ≡ start_at here k + pos
      place = ea ∙ ap (λ (n : ℕ). n + pos) start-here

      calls-are-put : insert_at at c (take r.many r.calls) ≡ calls_of (put_in k pos c here)
      calls-are-put =
          ap (insert_at at c) (calls_are here r (held r S))
          ∙ ap (λ (n : ℕ). insert_at n c (calls_of here)) place
          ∙ sym (calls-put here k inside pos c b)

      ends-are-put : take k r.ends ++ map (shifted 1 0) (take (r.count - k) (drop k r.ends)) ≡ ends_of (put_in k pos c here)
      ends-are-put = ap₂ (λ (x y : List ℕ). x ++ map (shifted 1 0) y) front_ends (ends-part k) ∙ sym (ends-put here k inside pos c b)

      more-calls : length (calls_of (put_in k pos c here)) ≡ suc (length (calls_of here))
      more-calls =
          let n = start_at here k + pos in
          let short : n ≤ length (calls_of here) = omega (arith, within here k inside) in
          ap length (calls-put here k inside pos c b)
          ∙ omega (arith, length-append (take n (calls_of here)) (c ∷ drop n (calls_of here)), length-take-le n (calls_of here) short, length-drop n (calls_of here))

      pub put-held : Held (put_in k pos c here) (record { calls = calls'; ends = ends'; many = r.many + 1; count = r.count })
      put-held =
          record {
            calls-front = front_same calls-are-put C;
            ends-front = front_same ends-are-put E;
            many_is = omega (arith, more-calls, (held r S).many_is);
            count-is = (held r S).count-is ∙ sym (length-put k pos c here);
          }

    -- run k taken out
    module _ (from to : ℕ) (ef : from ≡ start_in r.ends k) (et : to ≡ start_in r.ends (k + 1)) (calls' ends' : List ℕ)
        (C : Front (take from r.calls ++ take (r.many - to) (drop to r.calls)) calls')
        (E : Front (take k r.ends ++ map (shifted 0 (to - from)) (take (r.count - (k + 1)) (drop (k + 1) r.ends))) ends') where
      taken : to - from ≡ length (run_at here k)
      taken = omega (arith, ef, et, start-behind)

      calls-are-less : take from r.calls ++ take (r.many - to) (drop to r.calls) ≡ calls_of (without k here)
      calls-are-less =
          ap₂ (λ (x y : List ℕ). x ++ y) (front-calls from (omega (arith, ef, run_inside))) (calls-part to)
          ∙ ap₂ (λ (m n : ℕ). take m (calls_of here) ++ drop n (calls_of here)) (ef ∙ start-here) (et ∙ start-behind ∙ ap (λ (n : ℕ). n + length (run_at here k)) start-here)
          ∙ sym (calls-less here k inside)

      ends-are-less : take k r.ends ++ map (shifted 0 (to - from)) (take (r.count - (k + 1)) (drop (k + 1) r.ends)) ≡ ends_of (without k here)
      ends-are-less =
          ap₂ (λ (w : ℕ) (x : List ℕ). x ++ map (shifted 0 w) (take (r.count - (k + 1)) (drop (k + 1) r.ends))) taken front_ends
          ∙ ap (λ (y : List ℕ). take k (ends_of here) ++ map (shifted 0 (length (run_at here k))) y) (ends-part (k + 1) ∙ ap (λ (n : ℕ). drop n (ends_of here)) (add-one k))
          ∙ sym (ends-less here k inside)

      fewer-calls : length (calls_of (without k here)) + length (run_at here k) ≡ length (calls_of here)
      fewer-calls =
          let n = start_at here k in
          let w = within here k inside in
          let later = n + length (run_at here k) in
          omega (
            arith,
            ap length (calls-less here k inside),
            length-append (take n (calls_of here)) (drop later (calls_of here)),
            length-take-le n (calls_of here) (omega arith),
            length-drop later (calls_of here),
          )

      pub less-held : Held (without k here) (record { calls = calls'; ends = ends'; many = r.many - (to - from); count = r.count - 1 })
      less-held =
          record {
            calls-front = front_same calls-are-less C;
            ends-front = front_same ends-are-less E;
            many_is = omega (arith, fewer-calls, taken, (held r S).many_is);
            count-is = omega (arith, length_without k here inside, (held r S).count-is);
          }

-- the place of a customer that is put into run k lies among the calls
pub put-bound : (r : Runs) (k pos at : ℕ) → Sound r × (k < r.count) × (pos ≤ length (run_at (runs_in r) k)) × (r.many < room) → at ≡ start_in r.ends k
    → (at + pos ≤ r.many) × (at + pos < room)
put-bound r k pos at p e =
    let b = run_inside r p.0 k p.1 in
    (omega (arith, e, p.2), omega (arith, e, p.2, p.3))

-- where run k starts and ends
pub run-bound : (r : Runs) (k from to : ℕ) → Sound r × (k < r.count) → from ≡ start_in r.ends k → to ≡ start_in r.ends (k + 1)
    → (from ≤ to) × (to ≤ r.many) × (to - from ≡ length (run_at (runs_in r) k))
run-bound r k from to p ef et =
    let b = run_inside r p.0 k p.1 in
    let n = start-behind r p.0 k p.1 in
    (omega (arith, ef, et), omega (arith, ef, et), omega (arith, ef, et))

-- the part of the calls that run k has
pub run_lent : (r : Runs) (k from to : ℕ) → Sound r × (k < r.count) → from ≡ start_in r.ends k → to ≡ start_in r.ends (k + 1)
    → take (to - from) (drop from r.calls) ≡ run_at (runs_in r) k
run_lent r k from to p ef et =
    let rs = runs_in r in
    let b = run-bound r k from to p ef et in
    part-is r.calls from to
    ∙ ap (drop from) (front-calls r p.0 k p.1 to b.1)
    ∙ sym (part-is (calls_of rs) from to)
    ∙ ap₂ (λ (m n : ℕ). take m (drop n (calls_of rs))) b.2 (ef ∙ start-here r p.0 k p.1)
    ∙ run-part rs k (inside r p.0 k p.1)

-- its end is the start of the next
pub end_is : (ends : List ℕ) (k : ℕ) → get_or ends k 0 ≡ start_in ends (k + 1)
unfolding place_before
end_is ends k = ap (start_in ends) (sym (add-one k))

-- run by run
module _ (r : Runs) (S : Sound r) where
  bounds : (k : ℕ) → k < r.count → (start_in r.ends k ≤ get_or r.ends k 0) × (get_or r.ends k 0 ≤ r.many) × (get_or r.ends k 0 - start_in r.ends k ≡ length (run_at (runs_in r) k))
  bounds k h = run-bound r k (start_in r.ends k) (get_or r.ends k 0) (S, h) refl (end_is r.ends k)

  pub all-rise : Rise r.ends r.count
  all-rise k h = (bounds k h).0

  pub ends-small : (k : ℕ) → k < r.count → get_or r.ends k 0 ≤ room
  ends-small k h = omega (arith, (bounds k h).1, S.calls-fit)

  pub lengths-are : (lengths : List ℕ) → Measures r.ends r.count lengths → (k : ℕ) → k < r.count → get_or lengths k 0 ≡ length (run_at (runs_in r) k)
  lengths-are lengths M k h = M.are k h ∙ (bounds k h).2
