-- What a reversal and an insertion change in the distance of a run, leg by leg.
use Prim.Native.Nat.{ℕ, ◌+◌}
use native.Mathlib.Omega.{arith}
use mathlib.Core.Path.{◌≡◌, refl, sym, ap, ◌∙◌}
use mathlib.Core.List.{List, [], ◌∷◌, ◌++◌, reverse, reverse_aux, reverse_aux-eq}
use Rattle.definitions.specs.Improver.{legs_from, Given, distance_of}

-- where a walk from p through the calls ends
abbrev pub final : ℕ → List ℕ → ℕ
final p [] = p
final p (c ∷ cs) = final c cs

-- the place behind: the next call, or the depot
abbrev pub first : List ℕ → ℕ
first [] = 0
first (c ∷ cs) = c

module _ (G : Given) where
  -- the legs from p through the calls
  abbrev pub gone : ℕ → List ℕ → ℕ
  gone p [] = 0
  gone p (c ∷ cs) = G.leg p c + gone c cs

  -- the same legs the other way round
  abbrev pub back : ℕ → List ℕ → ℕ
  back p [] = 0
  back p (c ∷ cs) = G.leg c p + back c cs

  -- the legs behind the next place
  abbrev pub later : List ℕ → ℕ
  later [] = 0
  later (c ∷ cs) = legs_from G.leg c cs

  pub legs-first : (p : ℕ) (cs : List ℕ) → legs_from G.leg p cs ≡ G.leg p (first cs) + later cs
  legs-first p [] = omega arith
  legs-first p (c ∷ cs) = refl

  pub legs-append : (p : ℕ) (xs ys : List ℕ) → legs_from G.leg p (xs ++ ys) ≡ gone p xs + legs_from G.leg (final p xs) ys
  legs-append p [] ys = omega arith
  legs-append p (x ∷ xs) ys = omega (arith, legs-append x xs ys)

  legs-reverse : (p x : ℕ) (s ys : List ℕ) → legs_from G.leg p (reverse_aux s (x ∷ ys)) ≡ G.leg p (final x s) + back x s + legs_from G.leg x ys
  legs-reverse p x [] ys = omega arith
  legs-reverse p x (y ∷ s) ys = omega (arith, legs-reverse p y s (x ∷ ys))

  -- a stretch x ∷ s turned, from p: its ends change places, and its own legs go the other way
  pub legs-turned : (p x : ℕ) (s ys : List ℕ) → legs_from G.leg p (reverse (x ∷ s) ++ ys) ≡ G.leg p (final x s) + back x s + legs_from G.leg x ys
  legs-turned p x s ys = ap (legs_from G.leg p) (sym (reverse_aux-eq (x ∷ s) ys)) ∙ legs-reverse p x s ys

  -- a run with some call has the legs from the depot
  some-legs : (xs : List ℕ) (y : ℕ) (ys : List ℕ) → distance_of G (xs ++ (y ∷ ys)) ≡ legs_from G.leg 0 (xs ++ (y ∷ ys))
  some-legs [] y ys = refl
  some-legs (x ∷ xs) y ys = refl

  turned-legs : (xs : List ℕ) (x : ℕ) (s ys : List ℕ) → distance_of G (xs ++ (reverse (x ∷ s) ++ ys)) ≡ legs_from G.leg 0 (xs ++ (reverse (x ∷ s) ++ ys))
  turned-legs (c ∷ xs) x s ys = refl
  turned-legs [] x s ys = ap (distance_of G) (sym (reverse_aux-eq (x ∷ s) ys)) ∙ go x s ys ∙ ap (legs_from G.leg 0) (reverse_aux-eq (x ∷ s) ys)
    where
      go : (x : ℕ) (s ys : List ℕ) → distance_of G (reverse_aux s (x ∷ ys)) ≡ legs_from G.leg 0 (reverse_aux s (x ∷ ys))
      go x [] ys = refl
      go x (y ∷ s) ys = go y s (x ∷ ys)

  -- two_opt_delta: the stretch x ∷ s, with y its last call, stands between p, the end of what is before it, and q, the place behind it
  pub reversal-gain : (xs : List ℕ) (x : ℕ) (s ys : List ℕ)
      → distance_of G (xs ++ (reverse (x ∷ s) ++ ys)) + (G.leg (final 0 xs) x + G.leg (final x s) (first ys)) + gone x s
      ≡ distance_of G (xs ++ (x ∷ (s ++ ys))) + (G.leg (final 0 xs) (final x s) + G.leg x (first ys)) + back x s
  reversal-gain xs x s ys =
      omega (
        arith,
        turned-legs xs x s ys,
        legs-append 0 xs (reverse (x ∷ s) ++ ys),
        legs-turned (final 0 xs) x s ys,
        legs-first x ys,
        some-legs xs x (s ++ ys),
        legs-append 0 xs (x ∷ (s ++ ys)),
        legs-append x s ys,
        legs-first (final x s) ys,
      )

  -- the cost of c between p and q, in a run with some call before or behind it
  pub insertion-before : (xs : List ℕ) (c y : ℕ) (ys : List ℕ)
      → distance_of G (xs ++ (c ∷ y ∷ ys)) + G.leg (final 0 xs) y ≡ distance_of G (xs ++ (y ∷ ys)) + G.leg (final 0 xs) c + G.leg c y
  insertion-before xs c y ys = omega (arith, some-legs xs c (y ∷ ys), some-legs xs y ys, legs-append 0 xs (c ∷ y ∷ ys), legs-append 0 xs (y ∷ ys))

  pub insertion-last : (x : ℕ) (xs : List ℕ) (c : ℕ)
      → distance_of G ((x ∷ xs) ++ (c ∷ [])) + G.leg (final x xs) 0 ≡ distance_of G (x ∷ xs) + G.leg (final x xs) c + G.leg c 0
  insertion-last x xs c = omega (arith, legs-append 0 (x ∷ xs) (c ∷ []), legs-whole 0 (x ∷ xs))
    where
      legs-whole : (p : ℕ) (cs : List ℕ) → legs_from G.leg p cs ≡ gone p cs + G.leg (final p cs) 0
      legs-whole p [] = omega arith
      legs-whole p (c ∷ cs) = omega (arith, legs-whole c cs)
