-- Where there is a legal cutting, the best is there and no legal cutting comes to less (`least`); the cutting that is read back is legal and comes to just the best (`attained`);
-- of the starts of its last run that come to no more the earliest is kept (`earliest`). Assumes nothing.
use Prim.Native.Nat.{ℕ, ◌<◌, ◌≤◌}
use mathlib.Core.Path.{◌≡◌, refl, sym, ap, subst, ◌∙◌}
use mathlib.Core.Bool.{true, false, true≢false, false≢true}
use mathlib.Core.List.{List, [], ◌∷◌}
use Rattle.std.specs.Prelude.{Option, None, Some}
use Rattle.basics.proofs.OptionLaws.{same}
use Rattle.cut_theory.specs.Cut.{Laws}
use Rattle.cut_theory.specs.Runs.{RunLaws, rule_of, LegalCut, sum_from}
use Rattle.cut_theory.proofs.RunsBest as R
use Rattle.cut_theory.specs.Plain.{Plain, lower_opt, ext_opt, opt, plain_from, plain_sum, best_opt, pred_opt, ends_opt, PlainLaws, GoodOpt}

module _ {C : Type 0} (P : Plain C) (Good : ℕ → C → Type 0) (L : PlainLaws P Good) where
  asym : (j : ℕ) (a b : Option C) → GoodOpt Good j a → GoodOpt Good j b → lower_opt P a b ≡ true → lower_opt P b a ≡ false
  asym j None b ga gb h = absurd (false≢true h)
  asym j (Some a) None ga gb h = refl
  asym j (Some a) (Some b) ga gb h = L.asym j a b ga gb h

  neg-trans : (j : ℕ) (a b c : Option C) → GoodOpt Good j a → GoodOpt Good j b → GoodOpt Good j c → lower_opt P b a ≡ false → lower_opt P c b ≡ false → lower_opt P c a ≡ false
  neg-trans j a b None ga gb gc h k = refl
  neg-trans j a None (Some c) ga gb gc h k = absurd (true≢false k)
  neg-trans j None (Some b) (Some c) ga gb gc h k = absurd (true≢false h)
  neg-trans j (Some a) (Some b) (Some c) ga gb gc h k = L.neg-trans j a b c ga gb gc h k

  ext-good : (a : Option C) (i j : ℕ) → i < j → P.legal i j ≡ true → GoodOpt Good i a → GoodOpt Good j (ext_opt P a i j)
  ext-good None i j o l g = tt
  ext-good (Some a) i j o l g = L.ext-good a i j o l g

  mono : (a b : Option C) (i j : ℕ) → i < j → P.legal i j ≡ true → GoodOpt Good i a → GoodOpt Good i b → lower_opt P b a ≡ false → lower_opt P (ext_opt P b i j) (ext_opt P a i j) ≡ false
  mono a None i j o l ga gb h = refl
  mono None (Some b) i j o l ga gb h = absurd (true≢false h)
  mono (Some a) (Some b) i j o l ga gb h = L.mono a b i j o l ga gb h

  strict : (a : Option C) (i j : ℕ) → i < j → P.legal i j ≡ true → GoodOpt Good i a → lower_opt P a None ≡ false → lower_opt P (ext_opt P a i j) None ≡ false
  strict None i j o l g h = refl
  strict (Some a) i j o l g h = absurd (true≢false h)

  pub laws : RunLaws (opt P) (GoodOpt Good)
  laws =
      record {
        asym = asym;
        neg-trans = neg-trans;
        start-good = L.start-good;
        top-good = λ j. tt;
        ext-good = ext-good;
        at-most-top = λ j a g. refl;
        mono = mono;
        strict = strict;
      }

  pub rule-laws : Laws (rule_of (opt P)) (GoodOpt Good)
  rule-laws = R.laws (opt P) (GoodOpt Good) laws

  sum-some : (c : C) (i : ℕ) (js : List ℕ) → sum_from (opt P) (Some c) i js ≡ Some (plain_from P c i js)
  sum-some c i [] = refl
  sum-some c i (j ∷ js) = sum-some (P.ext c i j) j js

  is_some : (o : Option C) → lower_opt P o None ≡ true → (c : C) × (o ≡ Some c)
  is_some None h = absurd (false≢true h)
  is_some (Some c) h = (c, refl)

  -- (a) the best is there where there is a legal cutting, and none comes to less
  pub least : (n : ℕ) (js : List ℕ) → LegalCut (opt P) n js → (c : C) × (best_opt P n ≡ Some c) × (P.lower (plain_sum P js) c ≡ false)
  least n js l =
      let e = sum-some P.start 0 js in
      let t = R.there (opt P) (GoodOpt Good) laws n js l (ap (λ (o : Option C). lower_opt P o None) e) in
      let s = is_some (best_opt P n) t in (
        s.0,
        s.1,
        subst (λ (o : Option C). lower_opt P (Some (plain_sum P js)) o ≡ false) s.1
            (subst (λ (o : Option C). lower_opt P o (best_opt P n) ≡ false) e (R.least (opt P) (GoodOpt Good) laws n js l)),
      )

  -- (b) the cutting that is read back is legal, and comes to the best
  pub attained : (n : ℕ) (c : C) → best_opt P n ≡ Some c → LegalCut (opt P) n (ends_opt P n) × (plain_sum P (ends_opt P n) ≡ c)
  attained n c e =
      let a = R.attained (opt P) (GoodOpt Good) laws n (ap (λ (o : Option C). lower_opt P o None) e) in
      (a.0, same (sym (sum-some P.start 0 (ends_opt P n)) ∙ a.1 ∙ e))

  -- (c) of the starts from which a legal run comes to no more than the best, the earliest is kept
  pub earliest : (n i : ℕ) (c d : C) → best_opt P n ≡ Some c → best_opt P i ≡ Some d → i < n → P.legal i n ≡ true → P.lower c (P.ext d i n) ≡ false → pred_opt P n ≤ i
  earliest n i c d e f o l h =
      R.earliest (opt P) (GoodOpt Good) laws n i (ap (λ (o : Option C). lower_opt P o None) e) o l
      (ap (λ (a : Option C). lower_opt P a (ext_opt P (best_opt P i) i n)) e ∙ ap (λ (b : Option C). lower_opt P (Some c) (ext_opt P b i n)) f ∙ h)
