-- The drops call by call, in the tour's order: a call stays where the calls that stay before it have a cutting with it, and goes where they have none. So the positions dropped rise.
-- Assumes nothing.
use Prim.Native.Nat.{ℕ, suc, ◌+◌, ◌-◌, ◌<◌, ◌≤◌}
use native.Mathlib.Nat.{le_refl}
use native.Mathlib.Omega.{arith}
use mathlib.Core.Path.{◌≡◌, refl, sym, ap, ap₂, subst, ◌∙◌}
use mathlib.Core.Bool.{Bool, true, false, cond}
use mathlib.Core.List.{List, [], ◌∷◌, ◌++◌, map-append, append-nil}
use Rattle.std.specs.Prelude.{None, Some}
use lib.ListN.{length, get_or, take, drop, length-append, length-map}
use lib.Seq.{append_snoc, get_or-append_seam, take-append-le}
use lib.Dec.{eqb}
use lib.Ieee.{Float, inf, lt}
use borrow.Author.Tests.{eqb-true, eqb-false}
use Rattle.basics.specs.Lists.{without, count}
use Rattle.basics.proofs.TestLaws.{by-test}
use Rattle.cut_theory.proofs.FirstLaws.{first-none, first_some}
use Rattle.cut_theory.specs.Drop.{AllHave}
use Rattle.definitions.specs.Drop.{call_at, calls_at, Held, drop_at}
use Rattle.cut_table.proofs.Writing.{front-written}
use Rattle.cut_table.proofs.Holding.{all-holding}
use Rattle.cut_runs.specs.Tariff.{stretches, runs_of}
use Rattle.cut_runs.specs.Runs.{Instance, tariff}
use Rattle.cut_runs.proofs.Local.{tariff-local, steps_alike}
use Rattle.cut_drops.specs.Drops.{have_f, stuck_f, drop_from_f, drops_f}
use Rattle.cut_drops.proofs.Refilling.{cost-same}
use Rattle.cut_drops.proofs.Settling.{drop-none, drop-some}

-- ---- lists

-- a list and one element behind it
front-one : (k : List ℕ) (c : ℕ) (cs : List ℕ) → take (suc (length k)) (k ++ (c ∷ cs)) ≡ k ++ (c ∷ [])
front-one [] c cs = refl
front-one (x ∷ k) c cs = ap (λ (l : List ℕ). x ∷ l) (front-one k c cs)

without-seam : (l : List ℕ) (x : ℕ) (r : List ℕ) → without (length l) (l ++ (x ∷ r)) ≡ l ++ r
without-seam [] x r = refl
without-seam (y ∷ l) x r = ap (λ (m : List ℕ). y ∷ m) (without-seam l x r)

module _ (I : Instance) where
  -- ---- which calls stay

  -- the calls that stay have a cutting with one more
  abbrev pub joins : List ℕ → ℕ → Bool
  joins kept c = have_f I (kept ++ (c ∷ [])) (suc (length kept))

  -- of these calls those that stay behind `kept`
  unfoldable pub stays : List ℕ → List ℕ → List ℕ
  stays kept [] = []
  stays kept (c ∷ calls) = cond (joins kept c) (c ∷ stays (kept ++ (c ∷ [])) calls) (stays kept calls)

  -- the positions of the others, where the first call has position p
  unfoldable pub goes : List ℕ → ℕ → List ℕ → List ℕ
  goes kept p [] = []
  goes kept p (c ∷ calls) = cond (joins kept c) (goes (kept ++ (c ∷ [])) (suc p) calls) (p ∷ goes kept (suc p) calls)

  -- each stays or goes
  pub each-once : (calls kept : List ℕ) (p : ℕ) → length (stays kept calls) + length (goes kept p calls) ≡ length calls
  unfolding stays goes
  each-once [] kept p = refl
  each-once (c ∷ calls) kept p =
      by-test (joins kept c)
      (λ t. let e = each-once calls (kept ++ (c ∷ [])) (suc p) in rw t (omega (arith, e)))
      (λ f. let e = each-once calls kept (suc p) in rw f (omega (arith, e)))

  -- ---- whether a beginning has a cutting turns on its own calls alone

  have-alike : (q : ℕ) (l l' : List ℕ) → take q l ≡ take q l' → (k : ℕ) → k < q → have_f I l (suc k) ≡ have_f I l' (suc k)
  have-alike q l l' e k h =
      ap (λ (y : Float). lt y (inf false))
      (cost-same (runs_of (tariff I) (stretches l)) (runs_of (tariff I) (stretches l')) q (steps_alike (tariff I) (tariff-local I) q l l' e) (suc k) (suc k) h)

  -- one call more, whatever comes behind it
  joins-is : (kept : List ℕ) (c : ℕ) (cs : List ℕ) → have_f I (kept ++ (c ∷ cs)) (suc (length kept)) ≡ joins kept c
  joins-is kept c cs =
      have-alike (suc (length kept)) (kept ++ (c ∷ cs)) (kept ++ (c ∷ [])) (front-one kept c cs ∙ sym (front-one kept c [])) (length kept) (le_refl _)

  have-front : (kept cs : List ℕ) (k : ℕ) → k < length kept → have_f I (kept ++ cs) (suc k) ≡ have_f I kept (suc k)
  have-front kept cs k h =
      have-alike (length kept) (kept ++ cs) kept (take-append-le (length kept) kept cs (le_refl _)) k h

  have-more : (kept : List ℕ) (c : ℕ) → AllHave (have_f I) kept → joins kept c ≡ true → AllHave (have_f I) (kept ++ (c ∷ []))
  have-more kept c a t k h =
      by-test (eqb k (length kept)) (λ s. rw (eqb-true k (length kept) s) t)
      (λ f. let b = left (eqb-false k (length kept) f) in have-front kept (c ∷ []) k b ∙ a k b)
    where
      left : (k ≡ length kept → ⊥) → k < length kept
      left n = omega (arith, length-append kept (c ∷ []))

  -- ---- the drops from any call on

  module _ (tour : List ℕ) where
    -- what the drops come to, where `kept` stay, `gone` were dropped before, and these calls are left, the first having position p
    pub record Ended (kept gone : List ℕ) (p : ℕ) (calls : List ℕ) (h : Held) : Type 0 where
      pub stay : calls_at tour h.held ≡ kept ++ stays kept calls
      pub go : h.dropped ≡ gone ++ goes kept p calls

    -- a call that stays, and one that goes
    stays_on : (kept kept' gone : List ℕ) (p c : ℕ) (calls : List ℕ) (h : Held) → kept' ≡ kept ++ (c ∷ []) → joins kept c ≡ true
        → Ended kept' gone (suc p) calls h → Ended kept gone p (c ∷ calls) h
    unfolding stays goes
    stays_on kept kept' gone p c calls h e t R =
        record {
          stay = R.stay ∙ ap (λ (k : List ℕ). k ++ stays k calls) e ∙ append_snoc kept c (stays (kept ++ (c ∷ [])) calls) ∙ rw t refl;
          go = R.go ∙ ap (λ (k : List ℕ). gone ++ goes k (suc p) calls) e ∙ rw t refl;
        }

    goes_on : (kept gone : List ℕ) (p c : ℕ) (calls : List ℕ) (h : Held) → joins kept c ≡ false → Ended kept (gone ++ (p ∷ [])) (suc p) calls h
        → Ended kept gone p (c ∷ calls) h
    unfolding stays goes
    goes_on kept gone p c calls h f R =
        record { stay = R.stay ∙ rw f refl; go = R.go ∙ append_snoc gone p (goes kept (suc p) calls) ∙ rw f refl }

    -- the positions `front` stay, and n from p on are left
    abbrev from : List ℕ → List ℕ → ℕ → ℕ → Held
    from front gone p n = record { held = front ++ count p n; dropped = gone }

    -- with these calls left, the drops end so
    abbrev On : List ℕ → Type 0
    On calls =
        (f : ℕ) (front gone : List ℕ) (p : ℕ) → length calls ≤ f → calls_at tour (count p (length calls)) ≡ calls → AllHave (have_f I) (calls_at tour front)
        → Ended (calls_at tour front) gone p calls (drop_from_f I tour f (from front gone p (length calls)))

    none_left : On []
    unfolding stays goes
    none_left f front gone p b e a =
        let kept = calls_at tour front in
        let none_stuck : stuck_f I (calls_at tour (front ++ [])) ≡ None
        = rw (append-nil front) (first-none _ _ (length kept) (record { within = le_refl _; passes = a; fails = λ h. absurd (clash h) }) (le_refl _))
        in
        subst (λ (h : Held). Ended kept gone p [] h) (sym (drop-none I tour f (from front gone p 0) none_stuck))
        (record { stay = ap (calls_at tour) (append-nil front) ∙ sym (append-nil kept); go = sym (append-nil gone) })
      where
        clash : length (calls_at tour front) < length (calls_at tour front) → ⊥
        clash h = omega arith

    one-call : (c : ℕ) (calls : List ℕ) → On calls → On (c ∷ calls)
    one-call c calls on f front gone p b e a = by-test (joins kept c) stays_here goes-here
      where
        kept : List ℕ
        kept = calls_at tour front

        rest : List ℕ
        rest = count (suc p) (length calls)

        here : call_at tour p ≡ c
        here = ap (λ (l : List ℕ). get_or l 0 0) e

        behind : calls_at tour rest ≡ calls
        behind = ap (drop 1) e

        stays_here : joins kept c ≡ true → Ended kept gone p (c ∷ calls) (drop_from_f I tour f (from front gone p (suc (length calls))))
        stays_here t =
            let more : calls_at tour (front ++ (p ∷ [])) ≡ kept ++ (c ∷ []) = map-append (call_at tour) front (p ∷ []) ∙ ap (λ (x : ℕ). kept ++ (x ∷ [])) here in
            let R = on f (front ++ (p ∷ [])) gone (suc p) (omega arith) behind (subst (AllHave (have_f I)) (sym more) (have-more kept c a t)) in
            subst (λ (l : List ℕ). Ended kept gone p (c ∷ calls) (drop_from_f I tour f (record { held = l; dropped = gone }))) (append_snoc front p rest)
            (stays_on kept _ gone p c calls _ more t R)

        long : length kept ≡ length front
        long = length-map front (call_at tour)

        whole : calls_at tour (front ++ (p ∷ rest)) ≡ kept ++ (c ∷ calls)
        whole = map-append (call_at tour) front (p ∷ rest) ∙ ap (λ (l : List ℕ). kept ++ l) e

        is_stuck : joins kept c ≡ false → stuck_f I (calls_at tour (front ++ (p ∷ rest))) ≡ Some (length kept)
        is_stuck f =
            rw whole
            (first_some _ _ (length kept)
            (record {
              within = omega (arith, length-append kept (c ∷ calls));
              passes = λ k h. have-front kept (c ∷ calls) k h ∙ a k h;
              fails = λ _. joins-is kept c calls ∙ f;
            })
            (omega (arith, length-append kept (c ∷ calls))))

        less : drop_at (length kept) (from front gone p (suc (length calls))) ≡ from front (gone ++ (p ∷ [])) (suc p) (length calls)
        less =
            ap₂ (λ (l : List ℕ) (x : ℕ). record { held = l; dropped = gone ++ (x ∷ []) })
            (ap (λ (k : ℕ). without k (front ++ (p ∷ rest))) long ∙ without-seam front p rest)
            (ap (λ (k : ℕ). get_or (front ++ (p ∷ rest)) k 0) long ∙ get_or-append_seam front p rest 0)

        goes-here : joins kept c ≡ false → Ended kept gone p (c ∷ calls) (drop_from_f I tour f (from front gone p (suc (length calls))))
        goes-here z =
            let R = on (f - 1) front (gone ++ (p ∷ [])) (suc p) (omega arith) behind a in
            let turn = drop-some I tour f (length kept) (from front gone p (suc (length calls))) (omega arith) (is_stuck z) ∙ ap (drop_from_f I tour (f - 1)) less in
            subst (λ (h : Held). Ended kept gone p (c ∷ calls) h) (sym turn) (goes_on kept gone p c calls _ z R)

    drop-on : (calls : List ℕ) → On calls
    drop-on [] = none_left
    drop-on (c ∷ calls) = one-call c calls (drop-on calls)

    -- all drops of a tour
    pub drops-are : Ended [] [] 1 tour (drops_f I tour)
    unfolding drops_f
    drops-are =
        drop-on tour (length tour) [] [] 1 (le_refl _) (sym (all-holding tour [] [] []).held-are ∙ front-written tour []) (λ k h. absurd (clash k h))
      where
        clash : (k : ℕ) → k < 0 → ⊥
        clash k h = omega arith
