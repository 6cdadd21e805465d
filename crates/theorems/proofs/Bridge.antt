-- The table of crates/cut_theory, at costs that carry their runs, has the best cutting of each beginning. Assumes nothing.
use Prim.Native.Nat.{ℕ, zero, suc, ◌+◌, ◌≤◌, ◌<◌}
use native.Mathlib.Omega.{arith}
use native.Mathlib.Nat.{le_refl, le_trans, not-suc-le-zero, le_of_lt, le_of_suc-le-suc}
use native.Mathlib.Numerals.{add-one}
use mathlib.Core.Path.{◌≡◌, refl, sym, ap, ◌∙◌}
use mathlib.Core.Bool.{cond, and-false}
use mathlib.Core.List.{List, [], ◌∷◌, ◌++◌, map, append-nil, append_assoc}
use Rattle.std.specs.Prelude.{Option, None, Some}
use lib.ListN.{length, take, drop, get_or, length-append}
use lib.Seq.{take-suc, take-take, take-length, take-append_seam, drop-append_seam, length-take-le}
use Rattle.basics.specs.Options.{present}
use Rattle.cut_theory.specs.Cut.{Rule}
use Rattle.cut_theory.specs.Cut as C
use Rattle.cut_theory.proofs.Best as B
use Rattle.cut_theory.specs.Runs.{rule_of}
use Rattle.cut_theory.specs.Plain.{Plain, opt}
use Rattle.definitions.specs.Clock.{Arc}
use Rattle.definitions.specs.Cutting.{Best, lower, better, Point, longer, nothing, close, least, cheapest}
use Rattle.theorems.proofs.Recurrence.{best_none, best-snoc, tails, points-are}

-- b, and then a run of the calls since, where that has an arc
abbrev pub and_run : Best → List ℕ → Option Arc → Best
and_run b since None = b
and_run b since (Some a) = record { cost = b.cost + a.cost; runs = b.runs ++ (record { calls = since; place = a.place } ∷ []) }

module _ (arc : List ℕ → Option Arc) (held : List ℕ) where
  -- a run from i to j is the calls between
  abbrev pub stretch : ℕ → ℕ → List ℕ
  stretch i j = drop i (take j held)

  abbrev pub plain : Plain Best
  plain = record { lower = lower; start = nothing; legal = λ i j. present (arc (stretch i j)); ext = λ b i j. and_run b (stretch i j) (arc (stretch i j)) }

  abbrev pub rule : Rule (Option Best)
  rule = rule_of (opt plain)

  -- ---- its steps are those of the cut points

  step_is : (b : Option Best) (i j : ℕ) → rule.step b i j ≡ close arc (record { best = b; since = stretch i j })
  step_is None i j = rw (and-false (present (arc (stretch i j)))) refl
  step_is (Some b) i j = go (arc (stretch i j)) refl
    where
      go : (o : Option Arc) → arc (stretch i j) ≡ o → rule.step (Some b) i j ≡ close arc (record { best = Some b; since = stretch i j })
      go None e = rw e refl
      go (Some a) e = rw e refl

  better-is : (a b : Option Best) → cond (rule.lower a b) a b ≡ better a b
  better-is None b = refl
  better-is (Some a) None = refl
  better-is (Some a) (Some b) = refl

  cand-is : (j : ℕ) (before since : List ℕ) → before ++ since ≡ take j held → C.best rule (length before) ≡ cheapest arc before
      → C.cand rule (length before) j ≡ close arc (record { best = cheapest arc before; since = since })
  cand-is j before since e b =
      step_is (C.best rule (length before)) (length before) j
      ∙ ap (λ (o : Option Best). close arc (record { best = o; since = stretch (length before) j })) b
      ∙ ap (λ (l : List ℕ). close arc (record { best = cheapest arc before; since = l })) (ap (λ (l : List ℕ). drop (length before) l) (sym e) ∙ drop-append_seam before since)

  -- ---- the scan of the starts is the scan of the cut points

  module _ (j : ℕ) (h : j < length held) (ih : (pre rest : List ℕ) → pre ++ rest ≡ take j held → C.best rule (length pre) ≡ cheapest arc pre) where
    abbrev c : ℕ
    c = get_or held j 0

    scan-one : (pre rest : List ℕ) → pre ++ rest ≡ take j held
        → better (close arc (record { best = cheapest arc pre; since = rest ++ (c ∷ []) })) (C.scan rule (length pre) (suc j)) ≡ C.scan rule (suc (length pre)) (suc j)
    unfolding C.scan
    scan-one pre rest e =
        sym (better-is (C.cand rule (length pre) (suc j)) (C.scan rule (length pre) (suc j))
        ∙ ap (λ (o : Option Best). better o (C.scan rule (length pre) (suc j)))
        (cand-is (suc j) pre (rest ++ (c ∷ [])) (sym (append_assoc pre rest (c ∷ [])) ∙ ap (λ (l : List ℕ). l ++ (c ∷ [])) e ∙ sym (take-suc held j 0 h)) (ih pre rest e)))

    scan-tails : (pre rest : List ℕ) → pre ++ rest ≡ take j held
        → least arc (C.scan rule (length pre) (suc j)) (map (longer c) (tails arc pre rest)) ≡ C.scan rule (suc j) (suc j)
    scan-tails pre [] e =
        scan-one pre [] e ∙ ap (λ (k : ℕ). C.scan rule (suc k) (suc j)) (ap length (sym (append-nil pre) ∙ e) ∙ length-take-le j held (le_of_lt h))
    scan-tails pre (d ∷ rest) e =
        ap (λ (o : Option Best). least arc o (map (longer c) (tails arc (pre ++ (d ∷ [])) rest)))
        (scan-one pre (d ∷ rest) e ∙ ap (λ (k : ℕ). C.scan rule k (suc j)) (sym (length-append pre (d ∷ []) ∙ add-one (length pre))))
        ∙ scan-tails (pre ++ (d ∷ [])) rest (append_assoc pre (d ∷ []) rest ∙ e)

  -- ---- so the table has the best of each beginning

  start_is : (j : ℕ) (before since : List ℕ) → j ≤ length held → before ++ since ≡ take j held → (length before ≤ j) × (take (length before) held ≡ before)
  start_is j before since h e =
      let l : length before ≤ j = omega (arith, length-append before since, ap length e, length-take-le j held h) in
      (l, sym (take-take (length before) j held l) ∙ ap (λ (k : List ℕ). take (length before) k) (sym e) ∙ take-append_seam before since)

  upto : (n j : ℕ) → j ≤ n → j ≤ length held → C.best rule j ≡ cheapest arc (take j held)
  unfolding C.scan
  upto zero zero h b = B.best-zero rule ∙ sym (best_none arc)
  upto zero (suc j) h b = absurd (not-suc-le-zero h)
  upto (suc n) zero h b = B.best-zero rule ∙ sym (best_none arc)
  upto (suc n) (suc j) h b =
      B.best-scan rule j
      ∙ sym (scan-tails j b (λ pre rest e. before pre rest e (λ k p q. upto n k p q)) [] (take j held) refl)
      ∙ ap (λ (ps : List Point). least arc None (map (longer (get_or held j 0)) ps)) (sym (points-are arc (take j held)))
      ∙ sym (best-snoc arc (take j held) (get_or held j 0))
      ∙ ap (λ (l : List ℕ). cheapest arc l) (sym (take-suc held j 0 b))
    where
      before : (pre rest : List ℕ) → pre ++ rest ≡ take j held → ((k : ℕ) → k ≤ n → k ≤ length held → C.best rule k ≡ cheapest arc (take k held))
          → C.best rule (length pre) ≡ cheapest arc pre
      before pre rest e ih =
          let s = start_is j pre rest (le_of_lt b) e in
          ih (length pre) (le_trans s.0 (le_of_suc-le-suc h)) (le_trans s.0 (le_of_lt b)) ∙ ap (λ (l : List ℕ). cheapest arc l) s.1

  pub bridge : (j : ℕ) → j ≤ length held → C.best rule j ≡ cheapest arc (take j held)
  bridge j b = upto j j (le_refl j) b

  -- of all calls, and of a last run
  pub best-at : C.best rule (length held) ≡ cheapest arc held
  best-at = bridge (length held) (le_refl (length held)) ∙ ap (λ (l : List ℕ). cheapest arc l) (take-length held)

  pub cand-at : (before since : List ℕ) → before ++ since ≡ held
      → C.cand rule (length before) (length held) ≡ close arc (record { best = cheapest arc before; since = since })
  cand-at before since e =
      let q : before ++ since ≡ take (length held) held = e ∙ sym (take-length held) in
      let s = start_is (length held) before since (le_refl (length held)) q in
      cand-is (length held) before since q (bridge (length before) s.0 ∙ ap (λ (l : List ℕ). cheapest arc l) s.1)
