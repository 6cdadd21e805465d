-- The ends of runs of so many calls: they rise to the number of the calls, and are written one by one. Assumes nothing.
use Rattle.std.proofs.Common.{◌≡◌, ℕ, zero, suc, ◌+◌, ◌-◌, ◌<◌, ◌≤◌, false, eqb, ltb, leb, List, [], ◌∷◌, ◌++◌, length, set, sym, refl, ap, ◌∙◌, append_assoc, append-nil, pos_of_ne-zero, arith, length-append, ltb-false, ltb-true, le-ltb, lt-ltb, eq-eqb, leb-false}
use borrow.Author.Tests.{eqb-false}
use Rattle.basics.proofs.TestLaws.{by-test}
use Rattle.definitions.specs.Refusals.{ends_fall}
use Rattle.definitions.specs.Room.{written}
use Rattle.sheet_read.proofs.Fitting.{write-more, write-length}
use Rattle.bench_timing.specs.Every.{step_of, next_end, every_from, every_ends}

some-step : (run : ℕ) → 1 ≤ step_of run
some-step run = by-test (eqb run 0) (λ y. rw y (omega arith)) (λ f. rw f (pos_of_ne-zero (eqb-false run 0 f)))

module _ (run n p : ℕ) (more : p < n) where
  pub rises : p < next_end run n p
  unfolding next_end
  rises = by-test (leb (n - p) (step_of run)) (λ y. rw y more) (λ f. rw f (omega (arith, some-step run)))

  pub inside : next_end run n p ≤ n
  unfolding next_end
  inside = by-test (leb (n - p) (step_of run)) (λ y. rw y (omega arith)) (λ f. rw f (omega (arith, leb-false (n - p) (step_of run) f)))

  every_more : (turns : ℕ) → every_from run n (suc turns) p ≡ next_end run n p ∷ every_from run n turns (next_end run n p)
  unfolding every_from
  every_more turns = rw (lt-ltb p n more) refl

every-none : (run n turns p : ℕ) → n ≤ p → every_from run n turns p ≡ []
unfolding every_from
every-none run n zero p h = refl
every-none run n (suc turns) p h = rw (le-ltb p n h) refl

-- ---- as elimination asks for them

every-few : (run n turns p : ℕ) → length (every_from run n turns p) ≤ turns
unfolding every_from
every-few run n zero p = omega arith
every-few run n (suc turns) p =
    by-test (ltb p n) (λ y. rw y (omega (arith, every-few run n turns (next_end run n p)))) (λ f. rw f (omega arith))

pub ends-few : (run n : ℕ) → length (every_ends run n) ≤ n
ends-few run n = every-few run n n 0

module _ (run n : ℕ) where
  every-rises : (turns p : ℕ) → p ≤ n → n - p ≤ turns → ends_fall p (every_from run n turns p) n ≡ false
  every-rises zero p h l = rw (every-none run n zero p (omega arith), eq-eqb p n (omega arith)) refl
  every-rises (suc turns) p h l =
      by-test (ltb p n)
      (λ y. let more = ltb-true p n y in
      let up = rises run n p more in
      rw (every_more run n p more turns, le-ltb (next_end run n p) p (omega (arith, up))) (every-rises turns (next_end run n p) (inside run n p more) (omega (arith, up))))
      (λ f. let all = ltb-false p n f in rw (every-none run n (suc turns) p all, eq-eqb p n (omega (arith, all))) refl)

  pub ends-rise : ends_fall 0 (every_ends run n) n ≡ false
  ends-rise = every-rises n 0 (omega arith) (omega arith)

-- ---- the loop that writes them

-- k ends are written, the last of them is `end`
pub record EndsTo (run n : ℕ) (ends₀ ends : List ℕ) (end k : ℕ) : Type 0 where
  pub done : List ℕ
  pub turns : ℕ
  pub many : k ≡ length done
  pub enough : n - end ≤ turns
  pub counted : k + turns ≡ n
  pub within : end ≤ n
  pub all : done ++ every_from run n turns end ≡ every_ends run n
  pub ends-are : ends ≡ written done ends₀

pub set_out : (run n : ℕ) (ends₀ : List ℕ) → EndsTo run n ends₀ ends₀ 0 0
set_out run n ends₀ = record { done = []; turns = n; many = refl; enough = omega arith; counted = omega arith; within = omega arith; all = refl; ends-are = refl }

module _ {run n : ℕ} {ends₀ ends : List ℕ} {end k : ℕ} (q : EndsTo run n ends₀ ends end k) where
  pub kept : n ≤ length ends₀ → length ends ≡ length ends₀
  kept room = ap length q.ends-are ∙ write-length ends₀ q.done (omega (arith, q.many, q.counted))

  pub ended : n ≤ end → q.done ≡ every_ends run n
  ended h = sym (append-nil q.done) ∙ ap (λ (l : List ℕ). q.done ++ l) (sym (every-none run n q.turns end h)) ∙ q.all

  pub ends-ended : n ≤ end → ends ≡ written (every_ends run n) ends₀
  ends-ended h = q.ends-are ∙ ap (λ (l : List ℕ). written l ends₀) (ended h)

  pub count-ended : n ≤ end → k ≡ length (every_ends run n)
  count-ended h = q.many ∙ ap length (ended h)

  module _ (more : end < n) where
    pub place : k < n
    place = omega (arith, q.enough, q.counted)

    pub turn : n ≤ length ends₀ → (e : ℕ) → e ≡ next_end run n end → EndsTo run n ends₀ (set ends k e) e (k + 1)
    turn room e is = go q.turns q.enough q.counted q.all
      where
        go : (t : ℕ) → n - end ≤ t → k + t ≡ n → q.done ++ every_from run n t end ≡ every_ends run n → EndsTo run n ends₀ (set ends k e) e (k + 1)
        go zero l c a = absurd (none l)
          where
            none : n - end ≤ 0 → ⊥
            none h = omega arith
        go (suc t) l c a =
            let up = rises run n end more in
            record {
              done = q.done ++ e ∷ [];
              turns = t;
              many = omega (arith, q.many, length-append q.done (e ∷ []));
              enough = omega (arith, up);
              counted = omega arith;
              within = omega (arith, inside run n end more);
              all =
                  append_assoc q.done (e ∷ []) (every_from run n t e)
                  ∙ ap (λ (x : ℕ). q.done ++ (x ∷ every_from run n t x)) is
                  ∙ ap (λ (l : List ℕ). q.done ++ l) (sym (every_more run n end more t))
                  ∙ a;
              ends-are = ap (λ (l : List ℕ). set l k e) q.ends-are ∙ write-more ends₀ q.done e k q.many (omega (arith, place));
            }
