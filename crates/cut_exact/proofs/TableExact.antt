-- Where the runs of a table on floats are the images of arcs, and their distances those of a sheet within the limits, the table is that of crates/definitions: costs,
-- run ends and distances. Assumes nothing.
use Prim.Native.Nat.{ℕ, ◌+◌, ◌-◌, ◌*◌, ◌<◌, ◌≤◌}
use native.Mathlib.Nat.{le_refl, le_trans, add-zero}
use native.Mathlib.Omega.{arith}
use mathlib.Core.Path.{◌≡◌, refl, sym, ap, subst, ◌∙◌}
use mathlib.Core.Bool.{true, false, and-false, false≢true}
use mathlib.Core.List.{List, [], ◌∷◌, ◌++◌, map-append, append-nil, append_assoc}
use Rattle.std.specs.Prelude.{Option, None, Some, option_map}
use lib.ListN.{length, take, drop, length-append, length-drop}
use lib.Seq.{length-take-le, take-add, take-length}
use lib.Ieee as Ieee
use lib.Ieee.{Float, inf}
use Rattle.basics.specs.Options.{Holds, present, value_or}
use Rattle.basics.specs.Lists.{All, sum}
use Rattle.basics.proofs.ListLaws.{sum-append, all_drop}
use Rattle.bounds.specs.Sized.{Sized, Place}
use Rattle.bounds.proofs.BoundLaws.{length_most}
use Rattle.bounds.specs.CostBounds.{most_cost, most_far, Priced}
use Rattle.bounds.proofs.CostBoundLaws.{cost-fits, best-most}
use Rattle.cut_theory.specs.Cut.{Rule, best}
use Rattle.cut_theory.specs.Rows.{Legs, rule64}
use Rattle.cut_theory.proofs.FloatLaws.{lt-inf}
use Rattle.cut_theory.proofs.PricedBest.{strict}
use Rattle.cut_theory.specs.Carried.{Carry, carry_all}
use Rattle.cut_theory.proofs.CarriedLaws.{far-ends}
use Rattle.definitions.specs.Domain.{most_calls, most_number}
use Rattle.definitions.specs.Sheet.{Sheet, drive}
use Rattle.definitions.specs.Run.{distance_from, length_of}
use Rattle.definitions.specs.RunList.{calls_of, ends_from}
use Rattle.definitions.specs.Clock.{Arc}
use Rattle.definitions.specs.Cutting.{Best, calls_in, joined, run_ends, cheapest}
use Rattle.theorems.proofs.Bridge.{and_run, stretch, rule, bridge, best-at}
use Rattle.theorems.proofs.Least.{joined-append}
use Rattle.whole.specs.Whole.{fl, limit}
use Rattle.whole.proofs.WholeLaws.{fl-is, fl-sum, fl-lt}
use Rattle.whole.proofs.Bits.{fl-zero}
use Rattle.whole.proofs.InfinityLaws.{is-lt-inf}
use Rattle.distance.proofs.Exact.{fl_leg}
use Rattle.cut_runs.specs.Tariff.{Tariff, far_of, price_of, runs_of, fars_of, stretches, ends_f, cost_f, distance_f}
use Rattle.cut_exact.proofs.StretchExact.{way-exact}
use Rattle.cut_exact.proofs.SameTable.{Same, SameCarry, best-same, carried-to-same}

-- ---- the images

-- the distance of a cutting
abbrev pub cut_far : Sheet → Best → ℕ
cut_far s b = sum (λ r. length_of s r.calls) b.runs

abbrev pub cost_fl : Option Best → Float
cost_fl None = inf false
cost_fl (Some b) = fl b.cost

abbrev pub far_fl : Sheet → Option Best → Float
far_fl s None = fl 0
far_fl s (Some b) = fl (cut_far s b)

abbrev pub ends_in : Option Best → List ℕ
ends_in None = []
ends_in (Some b) = run_ends b.runs

-- the ends of the runs, carried along
abbrev ends_carry : Carry (List ℕ)
ends_carry = record { start = []; step = λ js i j. js ++ (j ∷ []) }

-- carried over a list of ends they are that list
carry-ends : (d js : List ℕ) (i : ℕ) → carry_all ends_carry d i js ≡ d ++ js
carry-ends d [] i = sym (append-nil d)
carry-ends d (j ∷ js) i = carry-ends (d ++ (j ∷ [])) js j ∙ append_assoc d (j ∷ []) js

ends_snoc : (p : ℕ) (rs : List (List ℕ)) (r : List ℕ) → ends_from p (rs ++ (r ∷ [])) ≡ ends_from p rs ++ ((p + length (calls_of rs) + length r) ∷ [])
ends_snoc p [] r = ap (λ (n : ℕ). (n + length r) ∷ []) (sym (add-zero p))
ends_snoc p (q ∷ rs) r =
    ap (λ (l : List ℕ). (p + length q) ∷ l)
    (ends_snoc (p + length q) rs r
    ∙ ap (λ (n : ℕ). ends_from (p + length q) rs ++ ((n + length r) ∷ [])) (shift p (length q) (length (calls_of rs)) (length (q ++ calls_of rs)) (length-append q (calls_of rs))))
  where
    shift : (p q c x : ℕ) → x ≡ q + c → p + q + c ≡ p + x
    shift p q c x e = omega arith

-- what may stand at j: a cutting of j calls, its cost and distance within their bounds
record Kept (s : Sheet) (j : ℕ) (b : Best) : Type 0 where
  calls_are : length (joined b.runs) ≡ j
  cost-most : b.cost ≤ j * most_cost
  far-most : cut_far s b ≤ j * most_far

-- ---- a run

-- calls held on a sheet within the limits, a way to price runs, and a tariff on floats whose legs are the sheet's
pub record Setting : Type 0 where
  pub sheet : Sheet
  pub sized : Sized sheet
  pub arc : List ℕ → Option Arc
  pub costs-small : Priced arc
  pub held : List ℕ
  pub inside : All (Place sheet) held
  pub few : length held ≤ most_calls
  pub tariff : Tariff
  pub legs-exact : (a b : ℕ) → Place sheet a → Place sheet b → tariff.leg a b ≡ option_map fl_leg (drive sheet a b)

module _ (X : Setting) where
  abbrev s : Sheet
  s = X.sheet

  abbrev S : Sized s
  S = X.sized

  abbrev arc : List ℕ → Option Arc
  arc = X.arc

  abbrev held : List ℕ
  held = X.held

  abbrev T : Tariff
  T = X.tariff

  abbrev whole : Rule (Option Best)
  whole = rule arc held

  abbrev E : Legs
  E = runs_of T (stretches held)

  abbrev pub calls : ℕ → ℕ → List ℕ
  calls i j = stretch arc held i j

  -- the run from i to j has no arc and is not legal, or has one and is legal at its cost
  pub data RunIs (i j : ℕ) : Type 0 where
    barred : arc (calls i j) ≡ None → E.legal i j ≡ false → RunIs i j
    priced : (a : Arc) → arc (calls i j) ≡ Some a → E.legal i j ≡ true → ((c : ℕ) → c ≤ i * most_cost → E.ext (fl c) i j ≡ fl (c + a.cost)) → RunIs i j

  module _ (i j : ℕ) (o : i < j) (within : j ≤ length held) where
    pub calls-taken : calls i j ≡ take (j - i) (drop i held)
    calls-taken =
        let e : i + (j - i) ≡ j = omega arith in
        let l : length (take i held) ≡ i = length-take-le i held (omega arith) in
        ap (λ (n : ℕ). drop i (take n held)) (sym e)
        ∙ ap (λ (l : List ℕ). drop i l) (take-add i (j - i) held)
        ∙ lib.Seq.drop_at (take i held) (take (j - i) (drop i held)) i l

    pub room : j - i ≤ length (drop i held)
    room = simp length-drop (omega arith)

    pub calls-many : length (calls i j) ≡ j - i
    calls-many = ap length calls-taken ∙ length-take-le (j - i) (drop i held) room

    pub few-here : j - i ≤ most_calls
    few-here = omega (arith, X.few)

    pub from-inside : All (Place s) (drop i held)
    from-inside = all_drop (Place s) i held X.inside

    pub far-is : far_of T (drop i held) (j - i) ≡ fl (length_of s (calls i j))
    unfolding far_of
    far-is =
        ap (value_or (fl 0)) (way-exact s (drop i held) S from-inside T.leg X.legs-exact (j - i) room few-here)
        ∙ held-value (distance_from s 0 (take (j - i) (drop i held)))
        ∙ ap (λ (l : List ℕ). fl (length_of s l)) (sym calls-taken)
      where
        held-value : (o : Option ℕ) → value_or (fl 0) (option_map fl o) ≡ fl (value_or 0 o)
        held-value None = refl
        held-value (Some d) = refl

    pub run-far : length_of s (calls i j) ≤ (j - i + 1) * most_number
    run-far = subst (λ (n : ℕ). length_of s (calls i j) ≤ (n + 1) * most_number) calls-many (length_most s S (calls i j))

    -- ---- with this arc

    module _ (a : Arc) (is : arc (calls i j) ≡ Some a) where
      run-cost : a.cost ≤ (j - i) * most_cost
      run-cost = subst (λ (n : ℕ). a.cost ≤ n * most_cost) calls-many (X.costs-small.run-most (calls i j) a (omega (arith, calls-many, few-here)) is)

      -- b, and then this run
      abbrev and_this : Best → Best
      and_this b = and_run b (calls i j) (Some a)

      step-some : (b : Best) → whole.step (Some b) i j ≡ Some (and_this b)
      step-some b = rw is refl

      module _ (b : Best) (K : Kept s i b) where
        this-fits : (and_this b).cost ≤ limit
        this-fits = cost-fits j (and_this b).cost (omega (arith, X.few)) (omega (arith, K.cost-most, run-cost))

        this-kept : Kept s j (and_this b)
        this-kept =
            record {
              calls_are =
                  ap length (joined-append b.runs _) ∙ length-append (joined b.runs) (calls i j ++ [])
                  ∙ sums (length (joined b.runs)) (length (calls i j ++ [])) K.calls_are (ap length (append-nil (calls i j)) ∙ calls-many);
              cost-most = omega (arith, K.cost-most, run-cost);
              far-most = omega (arith, K.far-most, run-far, sum-append (λ r. length_of s r.calls) b.runs (record { calls = calls i j; place = a.place } ∷ []));
            }
          where
            sums : (a c : ℕ) → a ≡ i → c ≡ j - i → a + c ≡ j
            sums a c e f = omega arith

        far-more : (fars_of T (stretches held)).step (fl (cut_far s b)) i j ≡ fl (cut_far s (and_this b))
        far-more =
            rw far-is
            (fl-sum (cut_far s b) (length_of s (calls i j)) (omega (arith, K.far-most, run-far))
            ∙ ap fl (ap (λ (n : ℕ). cut_far s b + n) (sym (add-zero (length_of s (calls i j))))
            ∙ sym (sum-append (λ r. length_of s r.calls) b.runs (record { calls = calls i j; place = a.place } ∷ []))))

        ends_more : run_ends b.runs ++ (j ∷ []) ≡ run_ends (and_this b).runs
        ends_more =
            ap (λ (n : ℕ). run_ends b.runs ++ (n ∷ [])) (reached (length (joined b.runs)) (length (calls i j)) K.calls_are calls-many)
            ∙ sym (ap (ends_from 0) (map-append (λ r. r.calls) b.runs (record { calls = calls i j; place = a.place } ∷ [])) ∙ ends_snoc 0 (calls_in b.runs) (calls i j))
          where
            reached : (a c : ℕ) → a ≡ i → c ≡ j - i → j ≡ 0 + a + c
            reached a c e f = omega arith

    -- ---- a step, from some cutting and from none

    step-none : whole.step None i j ≡ None
    step-none = rw (and-false (present (arc (calls i j)))) refl

    step-barred : arc (calls i j) ≡ None → (b : Best) → whole.step (Some b) i j ≡ None
    step-barred e b = rw e refl

    step-good : RunIs i j → (x : Option Best) → Holds (Kept s i) x → Holds (Kept s j) (whole.step x i j)
    step-good R None g = rw step-none tt
    step-good (barred e f) (Some b) g = rw (step-barred e b) tt
    step-good (priced a e t x) (Some b) g = rw (step-some a e b) (this-kept a e b g)

    step_same : RunIs i j → (x : Option Best) → Holds (Kept s i) x → (rule64 E).step (cost_fl x) i j ≡ cost_fl (whole.step x i j)
    step_same R None g = rw (step-none, strict (price_of T (stretches held)) (inf false) i j (lt-inf (inf false)), and-false (E.legal i j)) refl
    step_same (barred e f) (Some b) g = rw (step-barred e b, f) refl
    step_same (priced a e t x) (Some b) g =
        rw (step-some a e b, t, x b.cost g.cost-most, is-lt-inf (fl (and_this a e b).cost) (and_this a e b).cost (fl-is (and_this a e b).cost (this-fits a e b g))) refl

    -- what is carried, where the run can be had
    far-same : RunIs i j → (x c : Option Best) → Holds (Kept s i) x → whole.lower (whole.step x i j) c ≡ true
        → (fars_of T (stretches held)).step (far_fl s x) i j ≡ far_fl s (whole.step x i j)
    far-same R None c g h = absurd (false≢true (rw step-none at h))
    far-same (barred e f) (Some b) c g h = absurd (false≢true (rw (step-barred e b) at h))
    far-same (priced a e t x) (Some b) c g h = rw (step-some a e b) (far-more a e b g)

    ends_same : RunIs i j → (x c : Option Best) → Holds (Kept s i) x → whole.lower (whole.step x i j) c ≡ true → ends_carry.step (ends_in x) i j ≡ ends_in (whole.step x i j)
    ends_same R None c g h = absurd (false≢true (rw step-none at h))
    ends_same (barred e f) (Some b) c g h = absurd (false≢true (rw (step-barred e b) at h))
    ends_same (priced a e t x) (Some b) c g h = rw (step-some a e b) (ends_more a e b g)

  -- ---- the table

  abbrev n : ℕ
  n = length held

  abbrev Good : ℕ → Option Best → Type 0
  Good j o = Holds (Kept s j) o

  some_fits : (b : Best) (j : ℕ) → j ≤ n → Kept s j b → b.cost ≤ limit
  some_fits b j h K = cost-fits j b.cost (le_trans h X.few) K.cost-most

  lower-same : (a b : Option Best) (j : ℕ) → j ≤ n → Good j a → Good j b → Ieee.lt (cost_fl a) (cost_fl b) ≡ whole.lower a b
  lower-same None b j h g k = lt-inf (cost_fl b)
  lower-same (Some a) None j h g k = is-lt-inf (fl a.cost) a.cost (fl-is a.cost (some_fits a j h g))
  lower-same (Some a) (Some b) j h g k = fl-lt a.cost b.cost (some_fits a j h g) (some_fits b j h k)

  module _ (runs-are : (i j : ℕ) → i < j → j ≤ length held → RunIs i j) where
    same : Same whole (rule64 E) cost_fl Good n
    same =
        record {
          start-same = sym (fl-zero ∙ (unfold Ieee.of_bits in refl));
          top-same = refl;
          start-good = record { calls_are = refl; cost-most = omega arith; far-most = omega arith };
          top-good = λ j. tt;
          step-good = λ a i j o b g. step-good i j o b (runs-are i j o b) a g;
          step_same = λ a i j o b g. step_same i j o b (runs-are i j o b) a g;
          lower-same = lower-same;
        }

    same-fars : SameCarry whole (fars_of T (stretches held)) (far_fl s) Good n
    same-fars = record { from_start = refl; from-top = refl; carry_same = λ a b i j o w g h. far-same i j o w (runs-are i j o w) a b g h }

    same_ends : SameCarry whole ends_carry ends_in Good n
    same_ends = record { from_start = refl; from-top = refl; carry_same = λ a b i j o w g h. ends_same i j o w (runs-are i j o w) a b g h }

    -- ---- the best cutting of each beginning of the calls held

    best-exact : (j : ℕ) → j ≤ n → best (rule64 E) j ≡ cost_fl (cheapest arc (take j held))
    best-exact j h = best-same whole (rule64 E) cost_fl Good n same j h ∙ ap cost_fl (bridge arc held j h)

    best-fits : (j : ℕ) → j ≤ n → (b : Best) → cheapest arc (take j held) ≡ Some b → b.cost ≤ limit
    best-fits j h b e =
        let l = length-take-le j held h in
        cost-fits j b.cost (le_trans h X.few) (subst (λ (m : ℕ). b.cost ≤ m * most_cost) l (best-most arc X.costs-small (take j held) (omega (arith, l, X.few)) b e))

    -- a beginning has a cost just where it has a cutting
    pub has-exact : (j : ℕ) → j ≤ n → Ieee.lt (best (rule64 E) j) (inf false) ≡ present (cheapest arc (take j held))
    has-exact j h = ap (λ (x : Float). Ieee.lt x (inf false)) (best-exact j h) ∙ go (cheapest arc (take j held)) refl
      where
        go : (o : Option Best) → cheapest arc (take j held) ≡ o → Ieee.lt (cost_fl o) (inf false) ≡ present o
        go None e = lt-inf (inf false)
        go (Some b) e = is-lt-inf (fl b.cost) b.cost (fl-is b.cost (best-fits j h b e))

    -- ---- the best cutting of all of them

    pub cost-exact : cost_f T held ≡ cost_fl (cheapest arc held)
    cost-exact = best-exact n (le_refl n) ∙ ap (λ (l : List ℕ). cost_fl (cheapest arc l)) (take-length held)

    pub distance-exact : distance_f T held ≡ far_fl s (cheapest arc held)
    distance-exact = carried-to-same whole (rule64 E) cost_fl Good n same (fars_of T (stretches held)) (far_fl s) same-fars ∙ ap (far_fl s) (best-at arc held)

    pub ends-exact : (b : Best) → cheapest arc held ≡ Some b → ends_f T held ≡ run_ends b.runs
    ends-exact b e =
        sym (carry-ends [] (ends_f T held) 0)
        ∙ far-ends E ends_carry (strict (price_of T (stretches held))) n (has-exact n (le_refl n) ∙ ap (λ (l : List ℕ). present (cheapest arc l)) (take-length held) ∙ ap present e)
        ∙ carried-to-same whole (rule64 E) cost_fl Good n same ends_carry ends_in same_ends
        ∙ ap ends_in (best-at arc held ∙ e)
