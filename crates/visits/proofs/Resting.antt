-- Readiness by the break's start as it is reported, and by the clock's rule at the call: on a sheet they are the same at every call of a run. Assumes nothing.
use Prim.Native.Nat.{ℕ, zero, suc, ◌+◌, ◌<◌}
use native.Mathlib.Omega.{arith}
use mathlib.Core.Path.{◌≡◌, refl, sym, ap, subst, ◌∙◌}
use mathlib.Core.Bool.{true, false, cond}
use mathlib.Core.List.{List, [], ◌∷◌}
use Rattle.std.specs.Prelude.{Option, None, Some}
use lib.Dec.{eqb}
use lib.ListN.{get_or, take}
use borrow.Author.Tests.{eq-eqb, ne_eqb, eqb-true}
use Rattle.basics.proofs.TestLaws.{by-test}
use Rattle.basics.specs.Options.{◌>>=◌, value_or}
use Rattle.basics.proofs.OptionLaws.{clash}
use Rattle.definitions.specs.Sheet.{Break, Sheet, Leg, customer, drive}
use Rattle.definitions.specs.Run.{break_start, too_late, ready, Label, start, serve, break_at, serve_all, last_of, Totals, placed}
use Rattle.definitions.specs.Clock.{clock, place_or, start_of}
use Rattle.definitions.specs.Visits.{arrives_at, ready_for, visited}
use Rattle.theorems.proofs.Serving.{serve-leg, served-at}
use Rattle.theorems.proofs.Legality.{clock-own, ridden}
use Rattle.theorems.proofs.Marking.{served-none}
use Rattle.theorems.proofs.Visiting.{arrives-by, visited-served}

-- how long the break is, and 0 where there is none
abbrev pub length_of : Option Break → ℕ
length_of None = 0
length_of (Some b) = b.duration

-- readiness at call number k by the break's place and start
abbrev pub ready_at : Sheet → ℕ → Option ℕ → ℕ → ℕ → ℕ
ready_at s place o k arrival = value_or arrival (o >>= λ from. cond (eqb place k) (Some (from + length_of s.head.rest)) None)

-- it is that of the visits, at each call from number k on
abbrev pub Agrees : Sheet → ℕ → Option ℕ → ℕ → ℕ → Label → List ℕ → Type 0
Agrees s place o k a l [] = Unit {0}
Agrees s place o k a l (c ∷ cs) =
    (ready_at s place o k (arrives_at s a c l) ≡ ready_for s (break_at s place k) a c l) × Agrees s place o (suc k) c (visited s (break_at s place k) k a c l) cs

-- place 0 is no call's
pub nowhere : (s : Sheet) (k : ℕ) → 0 < k → break_at s 0 k ≡ None
nowhere s k h = rw (ne_eqb 0 k apart)
  where
    apart : 0 ≡ k → ⊥
    apart e = omega arith

off : (place k m : ℕ) → place ≡ k + suc m → place ≡ k → ⊥
off place k m e f = omega arith

-- a break that is not too late is over after its length
in-time : (b : Break) (arrival r : ℕ) → ready (Some b) arrival ≡ Some r → break_start b arrival + b.duration ≡ value_or arrival (ready (Some b) arrival)
unfolding ready
in-time b arrival r e = by-test (too_late b arrival) (λ y. clash (rw y at e)) (λ n. rw n)

module _ (s : Sheet) (place : ℕ) (o : Option ℕ) where
  -- where the rest of a run is served there is a label before it
  label-before : (k a : ℕ) (m : Option Label) (calls : List ℕ) (last : Label) → serve_all s place k a m calls ≡ Some last → (n : Label) × (m ≡ Some n)
  label-before k a None calls last q = clash (sym (served-none s 0 place k a calls) ∙ q)
  label-before k a (Some n) calls last q = (n, refl)

  unplaced : (k : ℕ) → eqb place k ≡ false → break_at s place k ≡ None
  unplaced k e = rw e

  -- at a call without the break both are the arrival
  pub ready-plain : (k arrival : ℕ) → eqb place k ≡ false → ready_at s place o k arrival ≡ value_or arrival (ready (break_at s place k) arrival)
  unfolding ready
  ready-plain k arrival e = rw e (go o)
    where
      go : (o : Option ℕ) → value_or arrival (o >>= λ from. None) ≡ arrival
      go None = refl
      go (Some from) = refl

  pub agrees-past : (k a : ℕ) (l : Label) (calls : List ℕ) → place < k → Agrees s place o k a l calls
  agrees-past k a l [] h = tt
  agrees-past k a l (c ∷ cs) h = (ready-plain k _ (ne_eqb place k apart), agrees-past (suc k) c _ cs (omega arith))
    where
      apart : place ≡ k → ⊥
      apart e = omega arith

  module _ (b : Break) (rest-is : s.head.rest ≡ Some b) where
    -- the start of a break m calls on from here, where the calls before it are served
    abbrev start_after : ℕ → ℕ → ℕ → Option Label → List ℕ → Option ℕ
    start_after m k a x calls =
        serve_all s 0 k a x (take m calls)
        >>= λ n. drive s (last_of a (take m calls)) (get_or calls m 0)
        >>= λ g. Some (break_start b (n.time + g.travel))

    broken : (k : ℕ) → eqb place k ≡ true → break_at s place k ≡ Some b
    broken k e = rw (e, rest-is)

    -- at the call itself, along a leg that can be driven
    ready-after : (k a c : ℕ) (l : Label) (g : Leg) (r : ℕ) → eqb place k ≡ true → drive s a c ≡ Some g → ready (Some b) (l.time + g.travel) ≡ Some r
        → o ≡ Some (break_start b (l.time + g.travel)) → ready_at s place o k (arrives_at s a c l) ≡ ready_for s (break_at s place k) a c l
    ready-after k a c l g r e way q f = rw (arrives-by s l a c g way, f, e, rest-is) (in-time b (l.time + g.travel) r q)

    ready-broken : (k a c : ℕ) (l n : Label) → eqb place k ≡ true → serve s (break_at s place k) k a c l ≡ Some n → o ≡ (drive s a c >>= λ g. Some (break_start b (l.time + g.travel)))
        → ready_at s place o k (arrives_at s a c l) ≡ ready_for s (break_at s place k) a c l
    ready-broken k a c l n e q f =
        let (g, way, served) = serve-leg s (break_at s place k) k a c l n q in
        let r = served-at (customer s c) (break_at s place k) k g.travel l n served in
        let here : ready (Some b) (l.time + g.travel) ≡ Some r.0 = sym (ap (λ (x : Option Break). ready x (l.time + g.travel)) (broken k e)) ∙ r.1 in
        ready-after k a c l g r.0 e way here (f ∙ ap (λ (x : Option Leg). x >>= λ h. Some (break_start b (l.time + h.travel))) way)

    agrees_from : (m k a : ℕ) (l : Label) (calls : List ℕ) (last : Label) → 0 < k → place ≡ k + m → serve_all s place k a (Some l) calls ≡ Some last → o ≡ start_after m k a (Some l) calls
        → Agrees s place o k a l calls
    unfolding serve_all
    agrees_from m k a l [] last h e q f = tt
    agrees_from zero k a l (c ∷ cs) last h e q f =
        let n = label-before (suc k) c (serve s (break_at s place k) k a c l) cs last q in
        (ready-broken k a c l n.0 (eq-eqb place k (omega arith)) n.1 f, agrees-past (suc k) c _ cs (omega arith))
    agrees_from (suc m) k a l (c ∷ cs) last h e q f =
        let n = label-before (suc k) c (serve s (break_at s place k) k a c l) cs last q in
        let apart = ne_eqb place k (off place k m e) in
        let served : serve s None k a c l ≡ Some n.0 = subst (λ (x : Option Break). serve s x k a c l ≡ Some n.0) (unplaced k apart) n.1 in
        let first : serve s (break_at s 0 k) k a c l ≡ Some n.0 = subst (λ (x : Option Break). serve s x k a c l ≡ Some n.0) (sym (nowhere s k h)) served in
        let v = visited-served s (break_at s place k) k a c l n.0 n.1 in (
          ready-plain k (arrives_at s a c l) apart,
          subst (λ (x : Label). Agrees s place o (suc k) c x cs) (sym v.0)
              (agrees_from m (suc k) c n.0 cs last (omega arith) (omega arith) (rw n.1 at q) (f ∙ ap (λ (x : Option Label). start_after m (suc k) c x cs) first)),
        )

-- the clock's place, and the start of the break there
module _ (s : Sheet) (calls : List ℕ) where
  abbrev pub start_at : ℕ → Option ℕ
  start_at place = start_of s (record { calls = calls; place = place })

  -- on a sheet with no break there is no place
  pub no_place : s.head.rest ≡ None → (t : Totals) → clock s calls ≡ Some t → t.place ≡ 0
  unfolding placed
  no_place e t q = eqb-true t.place 0 (rw e at (clock-own s calls t q).1)

  -- at a place from 1 on
  agrees_at : (k : ℕ) (t : Totals) → clock s calls ≡ Some t → t.place ≡ suc k → (r : Option Break) → s.head.rest ≡ r → Agrees s (suc k) (start_at (suc k)) 1 0 start calls
  unfolding start_of
  agrees_at k t q e None r = let z = no_place r t q in absurd (none-there (suc k) (omega arith) (omega arith))
    where
      none-there : (n : ℕ) → n ≡ 0 → 0 < n → ⊥
      none-there n e h = omega arith
  agrees_at k t q e (Some b) r =
      let l = ridden s calls t.place t (clock-own s calls t q).0 in
      agrees_from s (suc k) (start_at (suc k)) b r k 1 0 start calls l.0 (omega arith) (omega arith) (subst (λ (p : ℕ). serve_all s p 1 0 (Some start) calls ≡ Some l.0) e l.1) (rw r)

  agrees-by : (o : Option Totals) → clock s calls ≡ o → Agrees s (place_or o) (start_at (place_or o)) 1 0 start calls
  agrees-by None q = agrees-past s 0 (start_at 0) 1 0 start calls (omega arith)
  agrees-by (Some t) q = go t.place refl
    where
      go : (p : ℕ) → t.place ≡ p → Agrees s t.place (start_at t.place) 1 0 start calls
      go zero e = agrees-past s t.place (start_at t.place) 1 0 start calls (omega arith)
      go (suc k) e = subst (λ (p : ℕ). Agrees s p (start_at p) 1 0 start calls) (sym e) (agrees_at k t q e s.head.rest refl)

  pub agrees : Agrees s (place_or (clock s calls)) (start_at (place_or (clock s calls))) 1 0 start calls
  agrees = agrees-by (clock s calls) refl
