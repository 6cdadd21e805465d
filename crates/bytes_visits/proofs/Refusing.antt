-- The refusal of a run and its break place: each case, and what holds of those that are accepted. Assumes nothing.
use Prim.Native.Nat.{ℕ, ◌-◌, ◌≤◌, ◌<◌, min}
use native.Mathlib.Omega.{arith}
use mathlib.Core.Path.{◌≡◌, refl, sym, ap}
use mathlib.Core.Bool.{Bool, true, false, cond, ◌||◌}
use mathlib.Core.List.{List, [], ◌∷◌}
use Rattle.std.specs.Prelude.{None}
use lib.ListN.{length, take}
use lib.Dec.{ltb}
use borrow.Author.Tests.{lt-ltb, le-ltb, ltb-false}
use Rattle.basics.specs.Options.{value_or}
use Rattle.basics.proofs.TestLaws.{by-test, or_left}
use Rattle.basics.proofs.OptionLaws.{clash}
use Rattle.definitions.specs.Domain.{most_calls}
use Rattle.definitions.specs.Refusals.{bad_run_list, break_beyond}
use Rattle.definitions.specs.Room.{written}
use Rattle.byte_lists.proofs.Widened.{zeros, all_there}
use Rattle.bytes_visits.specs.Told.{run_refusal}

module _ (places : ℕ) (rest : Bool) (run : List ℕ) (place : ℕ) where
  abbrev last : ℕ
  last = cond rest (length run) 0

  beyond-is : break_beyond rest 0 (length run ∷ []) (place ∷ []) ≡ (ltb last place || false)
  beyond-is = let same : length run - 0 ≡ length run = omega arith in ap (λ (n : ℕ). ltb (cond rest n 0) place || false) same

  pub refused-run : bad_run_list places run ≡ true → 1 ≡ value_or 0 (run_refusal places rest run place)
  unfolding run_refusal
  refused-run e = rw e refl

  module _ (fit : bad_run_list places run ≡ false) where
    pub refused-place : last < place → 5 ≡ value_or 0 (run_refusal places rest run place)
    unfolding run_refusal
    refused-place h = rw (fit, beyond-is, lt-ltb last place h) refl

    pub accepted-run : place ≤ last → 0 ≡ value_or 0 (run_refusal places rest run place)
    unfolding run_refusal
    accepted-run h = rw (fit, beyond-is, le-ltb last place h) refl

  -- ---- what is accepted

  pub no-refusal : 0 ≡ value_or 0 (run_refusal places rest run place) → run_refusal places rest run place ≡ None
  unfolding run_refusal
  no-refusal e =
      by-test (bad_run_list places run) (λ y. absurd (never1 (rw y at e)))
      (λ f. by-test (break_beyond rest 0 (length run ∷ []) (place ∷ [])) (λ y. absurd (never5 (rw (f, y) at e))) (λ g. rw (f, g) refl))
    where
      never1 : ◌≡◌ {A = ℕ} 0 1 → ⊥
      never1 h = omega arith

      never5 : ◌≡◌ {A = ℕ} 0 5 → ⊥
      never5 h = omega arith

  module _ (accepted : run_refusal places rest run place ≡ None) where
    pub run_fits : bad_run_list places run ≡ false
    unfolding run_refusal
    run_fits = by-test (bad_run_list places run) (λ y. clash (sym (rw y at accepted))) (λ f. f)

    pub few : length run ≤ most_calls
    few = ltb-false most_calls (length run) (or_left (ltb most_calls (length run)) _ run_fits)

    pub place-own : place ≤ last
    unfolding run_refusal
    place-own =
        by-test (ltb last place) (λ y. clash (sym (rw (run_fits, beyond-is, y) at accepted))) (λ f. ltb-false last place f)

    pub place_inside : place ≤ length run
    place_inside = by-test rest (λ y. rw y at place-own) (λ n. let z = rw n at place-own in omega arith)

-- the run as it is read into an array, where it is accepted
pub record RunRead (run held : List ℕ) (place n : ℕ) : Type 0 where
  pub all : take n held ≡ run
  pub few-calls : length (take n held) ≤ 128
  pub own-place : place ≤ length (take n held)

pub run-read : (places : ℕ) (rest : Bool) (run : List ℕ) (place : ℕ) → run_refusal places rest run place ≡ None
    → (held : List ℕ) (n : ℕ) → n ≡ min (length run) (length zeros) → held ≡ written (take (length zeros) run) zeros → RunRead run held place n
run-read places rest run place accepted held n counted read =
    let all = all_there run zeros held n counted read (few places rest run place accepted) in
    let many = ap length all in
    record {
      all = all;
      few-calls = omega (arith, many, few places rest run place accepted);
      own-place = omega (arith, many, place_inside places rest run place accepted);
    }
