-- Run by run: the ends of those runs that are not empty, and how many calls each has. Assumes nothing.
use Prim.Native.Nat.{ℕ, suc, ◌+◌, ◌-◌, ◌<◌, ◌≤◌}
use native.Mathlib.Omega.{arith}
use native.Mathlib.Nat.{le_refl, not-suc-le-zero}
use native.Mathlib.Numerals.{add-one}
use mathlib.Core.Path.{◌≡◌, refl, sym, ap, ap₂, subst, ◌∙◌}
use mathlib.Core.Bool.{cond}
use mathlib.Core.List.{List, [], ◌∷◌, ◌++◌, append-nil}
use lib.ListN.{length, get_or, set, take, length-append, length-set}
use lib.Seq.{take-suc, take_all, take-set-le, take-suc-set, get_or-set_same, get_or-set_other}
use lib.Dec.{ltb}
use borrow.Author.Tests.{lt-ltb, le-ltb, ltb-true, ltb-false}
use Rattle.basics.proofs.TestLaws.{by-test}
use Rattle.definitions.specs.RunList.{calls_of, ends_of}
use Rattle.definitions.specs.Elimination.{non_empty}
use Rattle.theorems.proofs.RunListLaws.{ends-many}
use Rattle.evaluation.specs.Tables.{place_before}
use Rattle.improve_runs.specs.RunLists.{room, Runs, start_in, runs_in, Sound, run_at, Measures}
use Rattle.improve_runs.proofs.Fronts.{front_same}
use Rattle.improve_runs.proofs.Holding.{Held, held, start_at, start-next, start_is}
use Rattle.improve_runs.proofs.RunParts.{ends-append}
use Rattle.improve_runs.proofs.Changing.{end_is}

non-empty-append : (a b : List (List ℕ)) → non_empty (a ++ b) ≡ non_empty a ++ non_empty b
non-empty-append [] b = refl
non-empty-append ([] ∷ a) b = non-empty-append a b
non-empty-append ((c ∷ cs) ∷ a) b = ap (λ (l : List (List ℕ)). (c ∷ cs) ∷ l) (non-empty-append a b)

calls-kept : (rs : List (List ℕ)) → calls_of (non_empty rs) ≡ calls_of rs
calls-kept [] = refl
calls-kept ([] ∷ rs) = calls-kept rs
calls-kept ((c ∷ cs) ∷ rs) = ap (λ (l : List ℕ). c ∷ (cs ++ l)) (calls-kept rs)

-- after i runs: n of them are kept, and the last end is prev
pub record Kept (rs : List (List ℕ)) (i n prev : ℕ) (kept : List ℕ) : Type 0 where
  pub within : i ≤ length rs
  pub ends-kept : take n kept ≡ ends_of (non_empty (take i rs))
  pub count_kept : n ≡ length (non_empty (take i rs))
  pub last_end : prev ≡ start_at rs i
  pub few : n ≤ i
  pub long : length kept ≡ room

module _ (rs : List (List ℕ)) where
  pub kept-none : (kept : List ℕ) → length kept ≡ room → Kept rs 0 0 0 kept
  unfolding start_at
  kept-none kept long = record { within = omega arith; ends-kept = refl; count_kept = refl; last_end = refl; few = omega arith; long = long }

  module _ (i n prev end : ℕ) (kept : List ℕ) (K : Kept rs i n prev kept) (h : i < length rs) (fit : length rs ≤ room) (e : end ≡ start_at rs (suc i)) where
    abbrev run : List ℕ
    run = run_at rs i

    end-next-is : end ≡ prev + length run
    end-next-is = e ∙ start-next rs i h ∙ ap (λ (n : ℕ). n + length run) (sym K.last_end)

    one_more : non_empty (take (i + 1) rs) ≡ non_empty (take i rs) ++ non_empty (run ∷ [])
    one_more = ap (λ (m : ℕ). non_empty (take m rs)) (add-one i) ∙ ap non_empty (take-suc rs i [] h) ∙ non-empty-append (take i rs) (run ∷ [])

    end-next : end ≡ start_at rs (i + 1)
    end-next = e ∙ ap (start_at rs) (sym (add-one i))

    -- an empty run
    passed : run ≡ [] → Kept rs (i + 1) n end (set kept n end)
    passed x =
        let same : non_empty (take (i + 1) rs) ≡ non_empty (take i rs) = one_more ∙ ap (λ (r : List ℕ). non_empty (take i rs) ++ non_empty (r ∷ [])) x ∙ append-nil (non_empty (take i rs)) in
        record {
          within = omega arith;
          ends-kept = take-set-le n kept n end (le_refl n) ∙ K.ends-kept ∙ ap ends_of (sym same);
          count_kept = K.count_kept ∙ ap length (sym same);
          last_end = end-next;
          few = omega (arith, K.few);
          long = length-set kept n end ∙ K.long;
        }

    -- a run with calls
    taken : (c : ℕ) (cs : List ℕ) → run ≡ c ∷ cs → Kept rs (i + 1) (n + 1) end (set kept n end)
    unfolding start_at
    taken c cs x =
        let done = non_empty (take i rs) in
        let more : non_empty (take (i + 1) rs) ≡ done ++ (run ∷ []) = one_more ∙ ap (λ (r : List ℕ). done ++ non_empty (r ∷ [])) x ∙ ap (λ (r : List ℕ). done ++ (r ∷ [])) (sym x) in
        let behind : 0 + length (calls_of done) + length run ≡ end = omega (arith, end-next-is, K.last_end, ap length (calls-kept (take i rs))) in
        record {
          within = omega arith;
          ends-kept =
              ap (λ (m : ℕ). take m (set kept n end)) (add-one n)
              ∙ take-suc-set kept n end (omega (arith, K.few, K.long))
              ∙ ap₂ (λ (l : List ℕ) (x : ℕ). l ++ (x ∷ [])) K.ends-kept (sym behind)
              ∙ sym (ends-append 0 done (run ∷ []))
              ∙ ap ends_of (sym more);
          count_kept = omega (arith, K.count_kept, ap length more, length-append done (run ∷ []));
          last_end = end-next;
          few = omega (arith, K.few);
          long = length-set kept n end ∙ K.long;
        }

    pub kept_more : Kept rs (i + 1) (cond (ltb prev end) (n + 1) n) end (set kept n end)
    kept_more = go run refl
      where
        go : (r : List ℕ) → run ≡ r → Kept rs (i + 1) (cond (ltb prev end) (n + 1) n) end (set kept n end)
        go [] x = rw (le-ltb prev end (omega (arith, end-next-is, ap length x))) (passed x)
        go (c ∷ cs) x = rw (lt-ltb prev end (omega (arith, end-next-is, ap length x))) (taken c cs x)

-- no more are kept than there are
pub counted-few : (prev end n i : ℕ) → n ≤ i → cond (ltb prev end) (n + 1) n ≤ i + 1
counted-few prev end n i h = by-test (ltb prev end) (λ t. rw t (omega arith)) (λ f. rw f (omega arith))

-- all runs
pub kept-all : (r : Runs) → Sound r → (i n prev : ℕ) (kept : List ℕ) → Kept (runs_in r) i n prev kept → r.count ≤ i
    → Held (non_empty (runs_in r)) (record { calls = r.calls; ends = kept; many = r.many; count = n })
kept-all r S i n prev kept K h =
    let rs = runs_in r in
    let H = held r S in
    let all : non_empty (take i rs) ≡ non_empty rs = ap non_empty (take_all i rs (omega (arith, H.count-is))) in
    let calls : calls_of rs ≡ calls_of (non_empty rs) = sym (calls-kept rs) in
    let count : length (ends_of (non_empty rs)) ≡ n = ends-many 0 (non_empty rs) ∙ ap length (sym all) ∙ sym K.count_kept in
    record {
      calls-front = front_same calls H.calls-front;
      ends-front = record { long = K.long; fits = omega (arith, count, K.few, K.within, H.count-is, S.runs_fit); is = ap (λ (m : ℕ). take m kept) count ∙ K.ends-kept ∙ ap ends_of all };
      many_is = H.many_is ∙ ap length calls;
      count-is = K.count_kept ∙ ap length all;
    }

-- what the loop reads
pub end_read : (r : Runs) (S : Sound r) (i : ℕ) → i < r.count → (i < length (runs_in r)) × (length (runs_in r) ≤ room) × (get_or r.ends i 0 ≡ start_at (runs_in r) (suc i))
unfolding place_before
end_read r S i h =
    let b : i < length (runs_in r) = subst (λ (n : ℕ). i < n) (held r S).count-is h in
    (b, subst (λ (n : ℕ). n ≤ room) (held r S).count-is S.runs_fit, start_is (runs_in r) r (held r S) (suc i) b)

-- ---- how many calls each run has

-- after k runs, of which the last ends at prev
pub record Measuring (ends : List ℕ) (k prev : ℕ) (lengths : List ℕ) : Type 0 where
  pub last_end : prev ≡ start_in ends k
  pub long : length lengths ≡ room
  pub are : (j : ℕ) → j < k → get_or lengths j 0 ≡ get_or ends j 0 - start_in ends j

pub measuring-none : (ends lengths : List ℕ) → length lengths ≡ room → Measuring ends 0 0 lengths
unfolding place_before
measuring-none ends lengths long = record { last_end = refl; long = long; are = λ j h. absurd (not-suc-le-zero h) }

pub measuring-more : (ends : List ℕ) (k prev : ℕ) (lengths : List ℕ) → Measuring ends k prev lengths → k < room
    → Measuring ends (k + 1) (get_or ends k 0) (set lengths k (get_or ends k 0 - prev))
measuring-more ends k prev lengths M fit =
    let here = get_or ends k 0 - prev in
    record {
      last_end = end_is ends k;
      long = length-set lengths k here ∙ M.long;
      are =
          λ j h.
          by-test (ltb j k)
          (λ t. (let b = ltb-true j k t in get_or-set_other lengths k j here 0 (λ q. omega arith) ∙ M.are j b))
          (λ f.
          let b = ltb-false j k f in
          let e : k ≡ j = omega arith in
          subst (λ (i : ℕ). get_or (set lengths k here) i 0 ≡ get_or ends i 0 - start_in ends i) e
          (get_or-set_same lengths k here 0 (omega (arith, M.long)) ∙ ap (λ (p : ℕ). get_or ends k 0 - p) M.last_end));
    }

pub measuring-all : (ends : List ℕ) (count k prev : ℕ) (lengths : List ℕ) → Measuring ends k prev lengths → count ≤ k → Measures ends count lengths
measuring-all ends count k prev lengths M h = record { long = M.long; are = λ j b. M.are j (omega arith) }
