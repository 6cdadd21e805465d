-- Places gone through from the first to the last: in a list, in one run and run by run. Assumes nothing.
use Prim.Native.Nat.{ℕ, zero, suc, ◌+◌, ◌-◌, ◌<◌, ◌≤◌}
use native.Mathlib.Omega.{arith}
use native.Mathlib.Nat.{add-zero, sub-zero}
use native.Mathlib.Numerals.{add-one}
use mathlib.Core.Path.{◌≡◌, refl, sym, ap, ap₂, subst, ◌∙◌}
use mathlib.Core.List.{List, [], ◌∷◌, ◌++◌, map}
use lib.ListN.{length, get_or, take, drop, drop_of_length-le}
use lib.Seq.{drop-cons}
use Rattle.basics.specs.Lists.{All, count}
use Rattle.evaluation.specs.Tables.{place_before}
use Rattle.improve_runs.specs.RunLists.{room, Runs, start_in, runs_in, Sound, run_at}
use Rattle.improve_runs.proofs.Holding.{held}
use Rattle.improve_runs.proofs.Changing.{run-bound, run_lent, end_is}
use Rattle.place_choice.specs.declared.insertion.Spot.{Spot}
use Rattle.place_choice.specs.Insertion.{folded, each_from}

-- ---- any list

module _ {A B : Type 0} (f : B → A → B) where
  pub fold-append : (b : B) (l m : List A) → folded f b (l ++ m) ≡ folded f (folded f b l) m
  unfolding folded
  fold-append b [] m = refl
  fold-append b (x ∷ l) m = fold-append (f b x) l m

  -- what each element keeps
  pub fold-keeps : (P : B → Type 0) (Q : A → Type 0) → ((b : B) (x : A) → P b → Q x → P (f b x)) → (b : B) → P b → (l : List A) → All Q l → P (folded f b l)
  unfolding folded
  fold-keeps P Q h b p [] a = p
  fold-keeps P Q h b p (x ∷ l) a = fold-keeps P Q h (f b x) (h b x p a.0) l a.1

  pub fold_same : (g : B → A → B) (Q : A → Type 0) → ((b : B) (x : A) → Q x → f b x ≡ g b x) → (b : B) (l : List A) → All Q l → folded f b l ≡ folded g b l
  unfolding folded
  fold_same g Q h b [] a = refl
  fold_same g Q h b (x ∷ l) a = ap (λ (c : B). folded f c l) (h b x a.0) ∙ fold_same g Q h (g b x) l a.1

-- ---- place by place, of which the last is number n

module _ (f : Spot → Spot → Spot) (first : Spot) (spot : ℕ → Spot) (n : ℕ) where
  abbrev from_on : Spot → ℕ → Spot
  from_on b pos = folded f b (map spot (count pos (suc n - pos)))

  -- the places from number pos on are left
  pub record InRun (b : Spot) (pos : ℕ) : Type 0 where
    pub within : pos ≤ suc n
    pub same : from_on b pos ≡ folded f first (map spot (count 0 (suc n)))

  pub in-first : InRun first 0
  in-first = record { within = omega arith; same = ap (λ (m : ℕ). folded f first (map spot (count 0 m))) (sub-zero (suc n)) }

  module _ (b : Spot) (pos : ℕ) (I : InRun b pos) where
    pub in-more : pos ≤ n → (c : Spot) → c ≡ f b (spot pos) → InRun c (pos + 1)
    unfolding folded
    in-more h c e =
        let left : suc n - pos ≡ suc (n - pos) = omega arith in
        let same : suc n - (pos + 1) ≡ n - pos = omega arith in
        record {
          within = omega arith;
          same =
              ap₂ (λ (j m : ℕ). folded f c (map spot (count j m))) (add-one pos) same
              ∙ ap (λ (x : Spot). folded f x (map spot (count (suc pos) (n - pos)))) e
              ∙ ap (λ (m : ℕ). folded f b (map spot (count pos m))) (sym left)
              ∙ I.same;
        }

    pub in-last : n < pos → b ≡ folded f first (map spot (count 0 (suc n)))
    unfolding folded
    in-last h = let none : suc n - pos ≡ 0 = omega arith in sym (ap (λ (m : ℕ). folded f b (map spot (count pos m))) none) ∙ I.same

  -- places that change nothing
  skip : (d : ℕ) (b : Spot) (pos : ℕ) → InRun b pos → pos + d ≤ suc n → ((j : ℕ) → pos ≤ j → j < pos + d → b ≡ f b (spot j)) → InRun b (pos + d)
  skip zero b pos I h k = rw (add-zero pos) I
  skip (suc d) b pos I h k =
      let later : pos + 1 + d ≡ pos + suc d = omega arith in
      subst (InRun b) later (skip d b (pos + 1) (in-more b pos I (omega arith) b (k pos (omega arith) (omega arith))) (omega arith) (λ j u v. k j (omega arith) (omega arith)))

  pub in-skip : (b : Spot) (pos to : ℕ) → InRun b pos → pos ≤ to → to ≤ suc n → ((j : ℕ) → pos ≤ j → j < to → b ≡ f b (spot j)) → InRun b to
  in-skip b pos to I h u k =
      let e : pos + (to - pos) ≡ to = omega arith in
      subst (InRun b) e (skip (to - pos) b pos I (omega arith) (λ j v w. k j v (omega arith)))

-- ---- run by run

module _ (f : Spot → Spot → Spot) (first : Spot) (places : ℕ → List ℕ → List Spot) (r : Runs) where
  abbrev rs : List (List ℕ)
  rs = runs_in r

  abbrev pub whole : Spot
  whole = folded f first (each_from places 0 rs)

  -- the runs from run k on are left, the first of which starts at `from`
  pub record Along (b : Spot) (from k : ℕ) : Type 0 where
    pub within : k ≤ r.count
    pub starts : from ≡ start_in r.ends k
    pub same : folded f b (each_from places k (drop k rs)) ≡ whole

  pub along-first : Along first 0 0
  unfolding place_before
  along-first = record { within = omega arith; starts = refl; same = refl }

  module _ (S : Sound r) (b : Spot) (from k : ℕ) (A : Along b from k) where
    pub along-last : r.count ≤ k → b ≡ whole
    unfolding folded each_from
    along-last h = sym (ap (λ (l : List (List ℕ)). folded f b (each_from places k l)) (drop_of_length-le rs {i = k} (omega (arith, (held r S).count-is)))) ∙ A.same

    module _ (h : k < r.count) where
      abbrev to : ℕ
      to = get_or r.ends k 0

      bound : (from ≤ to) × (to ≤ r.many) × (to - from ≡ length (run_at rs k))
      bound = run-bound r k from to (S, h) A.starts (end_is r.ends k)

      -- run k, as it is lent
      abbrev part : List ℕ
      part = take (to - from) (drop from r.calls)

      part-is : part ≡ run_at rs k
      part-is = run_lent r k from to (S, h) A.starts (end_is r.ends k)

      inside : k < length rs
      inside = omega (arith, (held r S).count-is)

      more : (c : Spot) → c ≡ folded f b (places k (run_at rs k)) → Along c to (k + 1)
      unfolding each_from
      more c e =
          record {
            within = omega arith;
            starts = end_is r.ends k;
            same =
                ap₂ (λ (x : Spot) (j : ℕ). folded f x (each_from places j (drop j rs))) e (add-one k)
                ∙ sym (fold-append f b (places k (run_at rs k)) (each_from places (suc k) (drop (suc k) rs)))
                ∙ ap (λ (l : List (List ℕ)). folded f b (each_from places k l)) (sym (drop-cons rs k [] inside))
                ∙ A.same;
          }

      -- what it takes to lend run k, and what its places lead to
      pub record Part : Type 0 where
        pub rises : from ≤ to
        pub few-calls : to ≤ r.many
        pub ends-inside : to ≤ length r.calls
        pub short : length part ≤ room
        pub run_is : part ≡ run_at rs k
        pub run_inside : k < length rs
        pub next : (c : Spot) → c ≡ folded f b (places k (run_at rs k)) → Along c to (k + 1)

      pub along-part : Part
      along-part =
          record {
            rises = bound.0;
            few-calls = bound.1;
            ends-inside = omega (arith, bound.1, S.calls-fit, S.calls-long);
            short = omega (arith, ap length part-is, bound.1, bound.2, S.calls-fit);
            run_is = part-is;
            run_inside = inside;
            next = more;
          }
