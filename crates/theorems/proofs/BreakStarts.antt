-- The break of a legal run that has a place for it starts. Assumes nothing.
use Prim.Native.Nat.{ℕ, zero, suc, ◌+◌, ◌≤◌, ◌<◌}
use native.Mathlib.Omega.{arith}
use mathlib.Core.Path.{◌≡◌, refl, sym, ap, ◌∙◌}
use mathlib.Core.Bool.{true}
use mathlib.Core.List.{List, [], ◌∷◌}
use Rattle.std.specs.Prelude.{Option, None, Some}
use lib.ListN.{length, get_or, take}
use borrow.Author.Tests.{eqb-true, ne_eqb, leb-true}
use Rattle.basics.specs.Options.{◌>>=◌}
use Rattle.basics.proofs.OptionLaws.{clash}
use Rattle.definitions.specs.Sheet.{Break, Sheet, Leg, drive}
use Rattle.definitions.specs.Run.{break_start, Label, start, serve, break_at, serve_all, last_of, Totals, ride, placed, legal}
use Rattle.definitions.specs.Clock.{start_of}
use Rattle.theorems.proofs.Legality.{ridden, legal-has, distance-of}
use Rattle.theorems.proofs.Roads.{distance-open, open-leg}
use Rattle.theorems.proofs.Marking.{served-none}

-- a call that is not at the break's place has none
away : (s : Sheet) (place k : ℕ) → (place ≡ k → ⊥) → break_at s place k ≡ None
away s place k h = rw (ne_eqb place k h)

before-break : (place k m : ℕ) → place ≡ k + suc m → place ≡ k → ⊥
before-break place k m e f = omega arith

not_first : (k : ℕ) → 0 < k → 0 ≡ k → ⊥
not_first k h e = omega arith

-- where all calls are served, those before the break are served without it
began : (s : Sheet) (place m k a : ℕ) (o : Option Label) (calls : List ℕ) (last : Label) → place ≡ k + m → 0 < k → serve_all s place k a o calls ≡ Some last
    → (l : Label) × (serve_all s 0 k a o (take m calls) ≡ Some l)
unfolding serve_all
began s place zero k a None calls last e h q = clash (sym (served-none s 0 place k a calls) ∙ q)
began s place zero k a (Some l) calls last e h q = (l, refl)
began s place (suc m) k a o [] last e h q = (last, q)
began s place (suc m) k a o (c ∷ cs) last e h q =
    let here = sym (away s place k (before-break place k m e)) in
    let q' = ap (λ (x : Option Break). serve_all s place (suc k) c (o >>= serve s x k a c) cs) here ∙ q in
    let n = began s place m (suc k) c (o >>= serve s None k a c) cs last (omega arith) (omega arith) q' in
    (n.0, ap (λ (x : Option Break). serve_all s 0 (suc k) c (o >>= serve s x k a c) (take m cs)) (away s 0 k (not_first k h)) ∙ n.1)

-- a legal run with its break at a call drives the leg to it
driven : (s : Sheet) (calls : List ℕ) (k : ℕ) (t : Totals) → ride s (record { calls = calls; place = suc k }) ≡ Some t → suc k ≤ length calls
    → (g : Leg) × (drive s (last_of 0 (take k calls)) (get_or calls k 0) ≡ Some g)
driven s calls k t q h =
    open-leg s 1 0 calls (distance-open s 1 0 calls t.distance (distance-of s (record { calls = calls; place = suc k }) t q)) k (omega arith)

-- the start, by what the sheet says of a break
starts_by : (s : Sheet) (calls : List ℕ) (k d : ℕ) (l : Label) → serve_all s 0 1 0 (Some start) (take k calls) ≡ Some l
    → (suc k ≤ length calls → (g : Leg) × (drive s (last_of 0 (take k calls)) (get_or calls k 0) ≡ Some g))
    → (b : Option Break) → s.head.rest ≡ b → placed b (suc k) (length calls) d ≡ true → (v : ℕ) × (start_of s (record { calls = calls; place = suc k }) ≡ Some v)
unfolding start_of placed
starts_by s calls k d l q g None e p = let z : suc k ≡ 0 = eqb-true (suc k) 0 p in absurd (omega arith)
starts_by s calls k d l q g (Some b) e p =
    let x = g (leb-true (suc k) (length calls) p) in (
      break_start b (l.time + x.0.travel),
      ap (λ (o : Option Break). o >>= λ c. serve_all s 0 1 0 (Some start) (take k calls) >>= λ m. to >>= λ f. Some (break_start c (m.time + f.travel))) e
          ∙ ap (λ (o : Option Label). o >>= λ m. to >>= λ f. Some (break_start b (m.time + f.travel))) q
          ∙ ap (λ (o : Option Leg). o >>= λ f. Some (break_start b (l.time + f.travel))) x.1,
    )
  where
    to : Option Leg
    to = drive s (last_of 0 (take k calls)) (get_or calls k 0)

pub starts-at : (s : Sheet) (calls : List ℕ) (k : ℕ) → legal s (record { calls = calls; place = suc k }) ≡ true
    → (v : ℕ) × (start_of s (record { calls = calls; place = suc k }) ≡ Some v)
starts-at s calls k h =
    let (t, L) = legal-has s (record { calls = calls; place = suc k }) h in
    let l = ridden s calls (suc k) t L.rode in
    let n = began s (suc k) k 1 0 (Some start) calls l.0 (omega arith) (omega arith) l.1 in
    starts_by s calls k t.duration n.0 n.1 (driven s calls k t L.rode) s.head.rest refl L.break-placed

pub no_start : (s : Sheet) (calls : List ℕ) → start_of s (record { calls = calls; place = 0 }) ≡ None
unfolding start_of
no_start s calls = refl
