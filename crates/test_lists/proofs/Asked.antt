-- A question by its parts, and whether its recorded answer is alike. Assumes nothing.
use Prim.Native.Nat.{ℕ, ◌-◌, ◌≤◌, ◌<◌}
use native.Mathlib.Omega.{arith}
use mathlib.Core.Path.{◌≡◌, refl, sym, ap, ◌∙◌}
use mathlib.Core.Bool.{Bool, true, false, ◌&&◌}
use mathlib.Core.List.{List}
use lib.Dec.{eqb, ltb, leb}
use lib.ListN.{length, get_or, take, drop, length-take, length-drop}
use lib.Seq.{take_all}
use borrow.Author.Tests.{lt-ltb, le-ltb, ltb-true, leb-true}
use Rattle.basics.proofs.TestLaws.{and_left, and_right}
use Rattle.definitions.specs.Domain.{most_calls}
use Rattle.definitions.specs.Refusals.{ends_fall}
use Rattle.place_choice.specs.Insertion.{GivenF}
use Rattle.test_runs.specs.Along.{follows, Short}
use Rattle.test_lists.specs.Answers.{answer_words, is_counted, counted, behind, EndsAt, list_alike}
use Rattle.test_lists.proofs.Whole.{read_whole}

-- ---- a run list

module _ (G : GivenF) (tour calls ends recorded : List ℕ) where
  pub fall-unlike : ends_fall 0 ends (length calls) ≡ true → false ≡ list_alike G tour calls ends recorded
  unfolding list_alike
  fall-unlike h = rw h refl

  pub whole-alike : Short recorded → ends_fall 0 ends (length calls) ≡ false → (end : ℕ) → end ≡ follows recorded 0 (answer_words G tour calls ends)
      → eqb end (length recorded) ≡ list_alike G tour calls ends recorded
  unfolding list_alike
  whole-alike short h end e = rw h (read_whole recorded short (answer_words G tour calls ends) end e)

-- ---- a list behind a byte for its length

module _ (bytes : List ℕ) where
  pub not_there : length bytes ≤ get_or bytes 0 0 → false ≡ is_counted bytes
  unfolding is_counted
  not_there h = rw (le-ltb (get_or bytes 0 0) (length bytes) h) refl

  pub there-if-few : (n : ℕ) → n ≡ get_or bytes 0 0 → n < length bytes → leb n most_calls ≡ is_counted bytes
  unfolding is_counted
  there-if-few n e h = ap (λ (k : ℕ). leb k most_calls) e ∙ rw (lt-ltb (get_or bytes 0 0) (length bytes) (omega (arith, e))) refl

  pub uncounted : (b : Bool) → is_counted bytes ≡ false → false ≡ is_counted bytes && b
  uncounted b h = rw h refl

  module _ (h : is_counted bytes ≡ true) where
    pub is-there : get_or bytes 0 0 < length bytes
    unfolding is_counted
    is-there = ltb-true (get_or bytes 0 0) (length bytes) (and_left (ltb (get_or bytes 0 0) (length bytes)) _ h)

    is-few : get_or bytes 0 0 ≤ most_calls
    unfolding is_counted
    is-few = leb-true (get_or bytes 0 0) most_calls (and_right (ltb (get_or bytes 0 0) (length bytes)) _ h)

    -- its slices: the list, and the bytes behind it
    module _ (end : ℕ) (E : EndsAt bytes end) where
      pub list-few : length (take (end - 1) (drop 1 bytes)) ≤ most_calls
      list-few = omega (arith, E.is, is-few, length-take (end - 1) (drop 1 bytes))

      list-is : take (end - 1) (drop 1 bytes) ≡ counted bytes
      list-is =
          let many : end - 1 ≡ get_or bytes 0 0 = omega (arith, E.is) in
          ap (λ (n : ℕ). take n (drop 1 bytes)) many

      rest-is : take (length bytes - end) (drop end bytes) ≡ behind bytes
      rest-is =
          take_all (length bytes - end) (drop end bytes) (omega (arith, length-drop end bytes))
          ∙ ap (λ (n : ℕ). drop n bytes) E.is

      -- what is asked of the slices is asked of the list and of what stands behind it
      pub asked : (ask : List ℕ → List ℕ → Bool) (r : Bool)
          → r ≡ ask (take (end - 1) (drop 1 bytes)) (take (length bytes - end) (drop end bytes))
          → r ≡ is_counted bytes && ask (counted bytes) (behind bytes)
      asked ask r q =
          q
          ∙ ap (λ (l : List ℕ). ask l (take (length bytes - end) (drop end bytes))) list-is
          ∙ ap (λ (l : List ℕ). ask (counted bytes) l) rest-is
          ∙ sym (ap (λ (b : Bool). b && ask (counted bytes) (behind bytes)) h)
