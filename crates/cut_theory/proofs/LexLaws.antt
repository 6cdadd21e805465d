-- The laws of `Runs` hold of pairs of costs where they hold of the parts and the first part's sums are sharp: what is lower stays lower, and is not rounded to a tie.
-- `absorbed` shows that `f64` sums are not sharp in general, so a first part in `f64` has to be one whose sums are exact (whole numbers below 2 ^ 53), or a count. Assumes nothing.
use Prim.Native.Nat.{ℕ, ◌<◌, ◌^◌, ◌+◌}
use mathlib.Core.Path.{◌≡◌, refl}
use mathlib.Core.Bool.{Bool, true, false}
use lib.IntN.{pos, negsuc}
use lib.Ieee.{Float, fin, binary64, add, lt}
use Rattle.basics.proofs.TestLaws.{by-test, not-both}
use Rattle.cut_theory.specs.Runs.{Runs, RunLaws}
use Rattle.cut_theory.specs.Lex.{lower_lex, lex}

module _ {C D : Type 0} (P : Runs C) (Q : Runs D) where
  -- the test, by cases
  pub data Lower (a b : C × D) : Type 0 where
    by_first : P.lower a.0 b.0 ≡ true → lower_lex P Q a b ≡ true → Lower a b
    by-second : P.lower a.0 b.0 ≡ false → P.lower b.0 a.0 ≡ false → Q.lower a.1 b.1 ≡ true → lower_lex P Q a b ≡ true → Lower a b
    above : P.lower a.0 b.0 ≡ false → P.lower b.0 a.0 ≡ true → lower_lex P Q a b ≡ false → Lower a b
    not-second : P.lower a.0 b.0 ≡ false → P.lower b.0 a.0 ≡ false → Q.lower a.1 b.1 ≡ false → lower_lex P Q a b ≡ false → Lower a b

  pub lower_by : (a b : C × D) → Lower a b
  lower_by a b = go (P.lower a.0 b.0) (P.lower b.0 a.0) (Q.lower a.1 b.1) refl refl refl
    where
      go : (x y z : Bool) → P.lower a.0 b.0 ≡ x → P.lower b.0 a.0 ≡ y → Q.lower a.1 b.1 ≡ z → Lower a b
      go true y z p q r = by_first p (rw p refl)
      go false true z p q r = above p q (rw (p, q) refl)
      go false false true p q r = by-second p q r (rw (p, q, r) refl)
      go false false false p q r = not-second p q r (rw (p, q, r) refl)

module _ {C D : Type 0} (P : Runs C) (Q : Runs D) (GP : ℕ → C → Type 0) (GQ : ℕ → D → Type 0) (LP : RunLaws P GP) (LQ : RunLaws Q GQ)
    (same : (i j : ℕ) → P.legal i j ≡ true → Q.legal i j ≡ true)
    (sharp : (a b : C) (i j : ℕ) → i < j → P.legal i j ≡ true → GP i a → GP i b → P.lower a b ≡ true → P.lower (P.ext a i j) (P.ext b i j) ≡ true) where
  abbrev Good : ℕ → C × D → Type 0
  Good j c = GP j c.0 × GQ j c.1

  -- lower by the first part, or at most by both
  firsts : (j : ℕ) (a b : C × D) → Good j a → Good j b → lower_lex P Q b a ≡ false → P.lower b.0 a.0 ≡ false
  firsts j a b ga gb h = go (lower_by P Q b a)
    where
      go : Lower P Q b a → P.lower b.0 a.0 ≡ false
      go (by_first p t) = not-both (lower_lex P Q b a) t h
      go (by-second p q r t) = p
      go (above p q t) = p
      go (not-second p q r t) = p

  lex-asym : (j : ℕ) (a b : C × D) → Good j a → Good j b → lower_lex P Q a b ≡ true → lower_lex P Q b a ≡ false
  lex-asym j a b ga gb h = go (lower_by P Q a b) (lower_by P Q b a)
    where
      go : Lower P Q a b → Lower P Q b a → lower_lex P Q b a ≡ false
      go x (above p q t) = t
      go x (not-second p q r t) = t
      go (by_first p t) (by_first p' t') = not-both (P.lower b.0 a.0) p' (LP.asym j _ _ ga.0 gb.0 p)
      go (by_first p t) (by-second p' q' r' t') = not-both (P.lower a.0 b.0) p q'
      go (by-second p q r t) (by_first p' t') = not-both (P.lower b.0 a.0) p' q
      go (by-second p q r t) (by-second p' q' r' t') = not-both (Q.lower b.1 a.1) r' (LQ.asym j _ _ ga.1 gb.1 r)
      go (above p q t) (by_first p' t') = not-both (lower_lex P Q a b) h t
      go (above p q t) (by-second p' q' r' t') = not-both (lower_lex P Q a b) h t
      go (not-second p q r t) (by_first p' t') = not-both (lower_lex P Q a b) h t
      go (not-second p q r t) (by-second p' q' r' t') = not-both (lower_lex P Q a b) h t

  -- a lower first part, seen through a tie
  first-lower : (j : ℕ) (a b c : C) → GP j a → GP j b → GP j c → P.lower b a ≡ false → P.lower b c ≡ true → P.lower a c ≡ true
  first-lower j a b c ga gb gc h k = by-test (P.lower a c) (λ t. t) (λ n. not-both (P.lower b c) k (LP.neg-trans j c a b gc ga gb n h))

  lex-neg-trans : (j : ℕ) (a b c : C × D) → Good j a → Good j b → Good j c → lower_lex P Q b a ≡ false → lower_lex P Q c b ≡ false → lower_lex P Q c a ≡ false
  lex-neg-trans j a b c ga gb gc h k = go (lower_by P Q c a)
    where
      -- the first parts rise
      ab : P.lower b.0 a.0 ≡ false
      ab = firsts j a b ga gb h

      bc : P.lower c.0 b.0 ≡ false
      bc = firsts j b c gb gc k

      -- where a and c tie in the first part, so does b
      tie-ab : P.lower a.0 c.0 ≡ false → P.lower a.0 b.0 ≡ false
      tie-ab t =
          by-test (P.lower a.0 b.0)
          (λ x. not-both (P.lower a.0 c.0)
          (by-test (P.lower a.0 c.0) (λ y. y) (λ n. not-both (P.lower a.0 b.0) x (LP.neg-trans j _ _ _ gb.0 gc.0 ga.0 bc n))) t)
          (λ n. n)

      tie-bc : P.lower a.0 c.0 ≡ false → P.lower b.0 c.0 ≡ false
      tie-bc t =
          by-test (P.lower b.0 c.0) (λ x. not-both (P.lower a.0 c.0) (first-lower j _ _ _ ga.0 gb.0 gc.0 ab x) t) (λ n. n)

      second : (x y : C × D) → P.lower x.0 y.0 ≡ false → P.lower y.0 x.0 ≡ false → lower_lex P Q x y ≡ false → Q.lower x.1 y.1 ≡ false
      second x y u v w = go' (lower_by P Q x y)
        where
          go' : Lower P Q x y → Q.lower x.1 y.1 ≡ false
          go' (by_first p t) = not-both (P.lower x.0 y.0) p u
          go' (by-second p q r t) = not-both (lower_lex P Q x y) t w
          go' (above p q t) = not-both (P.lower y.0 x.0) q v
          go' (not-second p q r t) = r

      go : Lower P Q c a → lower_lex P Q c a ≡ false
      go (above p q t) = t
      go (not-second p q r t) = t
      go (by_first p t) = not-both (P.lower c.0 a.0) p (LP.neg-trans j _ _ _ ga.0 gb.0 gc.0 ab bc)
      go (by-second p q r t) =
          not-both (Q.lower c.1 a.1) r
          (LQ.neg-trans j _ _ _ ga.1 gb.1 gc.1 (second b a ab (tie-ab q) h) (second c b bc (tie-bc q) k))

  lex-mono : (a b : C × D) (i j : ℕ) → i < j → P.legal i j ≡ true → Good i a → Good i b → lower_lex P Q b a ≡ false → lower_lex P Q ((lex P Q).ext b i j) ((lex P Q).ext a i j) ≡ false
  lex-mono a b i j o l ga gb h = go (lower_by P Q b a) (lower_by P Q ((lex P Q).ext b i j) ((lex P Q).ext a i j))
    where
      go : Lower P Q b a → Lower P Q ((lex P Q).ext b i j) ((lex P Q).ext a i j) → lower_lex P Q ((lex P Q).ext b i j) ((lex P Q).ext a i j) ≡ false
      go x (above p' q' t') = t'
      go x (not-second p' q' r' t') = t'
      go x (by_first p' t') =
          not-both (P.lower (P.ext b.0 i j) (P.ext a.0 i j)) p' (LP.mono _ _ i j o l ga.0 gb.0 (firsts i a b ga gb h))
      go (by_first p t) (by-second p' q' r' t') = not-both (lower_lex P Q b a) t h
      go (by-second p q r t) (by-second p' q' r' t') = not-both (lower_lex P Q b a) t h
      go (above p q t) (by-second p' q' r' t') =
          not-both (P.lower (P.ext a.0 i j) (P.ext b.0 i j)) (sharp _ _ i j o l ga.0 gb.0 q) q'
      go (not-second p q r t) (by-second p' q' r' t') =
          not-both (Q.lower (Q.ext b.1 i j) (Q.ext a.1 i j)) r' (LQ.mono _ _ i j o (same i j l) ga.1 gb.1 r)

  none-lower : (x y : C × D) → P.lower x.0 y.0 ≡ false → Q.lower x.1 y.1 ≡ false → lower_lex P Q x y ≡ false
  none-lower x y u v = go (lower_by P Q x y)
    where
      go : Lower P Q x y → lower_lex P Q x y ≡ false
      go (by_first p t) = not-both (P.lower x.0 y.0) p u
      go (by-second p q r t) = not-both (Q.lower x.1 y.1) r v
      go (above p q t) = t
      go (not-second p q r t) = t

  lex-strict : (a : C × D) (i j : ℕ) → i < j → P.legal i j ≡ true → Good i a → lower_lex P Q a (P.top, Q.top) ≡ false → lower_lex P Q ((lex P Q).ext a i j) (P.top, Q.top) ≡ false
  lex-strict a i j o l g h = go (lower_by P Q a (P.top, Q.top))
    where
      go : Lower P Q a (P.top, Q.top) → lower_lex P Q ((lex P Q).ext a i j) (P.top, Q.top) ≡ false
      go (by_first p t) = not-both (lower_lex P Q a (P.top, Q.top)) t h
      go (by-second p q r t) = not-both (lower_lex P Q a (P.top, Q.top)) t h
      go (above p q t) = not-both (P.lower P.top a.0) q (LP.at-most-top i _ g.0)
      go (not-second p q r t) = none-lower _ _ (LP.strict _ i j o l g.0 p) (LQ.strict _ i j o (same i j l) g.1 r)

  pub lex-laws : RunLaws (lex P Q) Good
  lex-laws =
      record {
        asym = lex-asym;
        neg-trans = lex-neg-trans;
        start-good = (LP.start-good, LQ.start-good);
        top-good = λ j. (LP.top-good j, LQ.top-good j);
        ext-good = λ a i j o l g. (LP.ext-good a.0 i j o l g.0, LQ.ext-good a.1 i j o (same i j l) g.1);
        at-most-top = λ j a g. none-lower (P.top, Q.top) a (LP.at-most-top j _ g.0) (LQ.at-most-top j _ g.1);
        mono = lex-mono;
        strict = lex-strict;
      }

-- ---- an `f64` sum is not sharp: 1 is below 1 + 2 ^ -52, and with 2 ^ 60 added the two are one
unfoldable pub one : Float
one = fin false 1 (pos 0)

unfoldable pub more : Float
more = fin false (2 ^ 52 + 1) (negsuc 51)

unfoldable pub much : Float
much = fin false 1 (pos 60)

pub absorbed : (lt one more ≡ true) × (lt (add binary64 one much) (add binary64 more much) ≡ false)
unfolding one more much lt add
absorbed = (refl, refl)
