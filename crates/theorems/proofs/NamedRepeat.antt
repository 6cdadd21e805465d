-- Where the reader names a word by 21, that is an E word, and an earlier E word has its customer. Assumes nothing.
use Prim.Native.Nat.{ℕ, zero, suc, ◌+◌, ◌<◌}
use native.Mathlib.Omega.{arith}
use mathlib.Core.Path.{◌≡◌, refl, sym, ◌∙◌}
use mathlib.Core.Bool.{true, false, false≢true}
use mathlib.Core.List.{List, [], ◌∷◌}
use mathlib.Core.Logic.{◌⊎◌, inl, inr}
use Rattle.std.specs.Prelude.{Some}
use lib.Dec.{eqb}
use borrow.Author.Tests.{eqb-true, eq-eqb}
use Rattle.basics.proofs.TestLaws.{by-test, both}
use Rattle.basics.proofs.OptionLaws.{same, clash}
use Rattle.definitions.specs.Words.{Word}
use Rattle.definitions.specs.Refusal.{Refusal, first_fit}
use Rattle.definitions.specs.Reader.{State, start, next, among, repeated, faults, fault_at}
use Rattle.theorems.proofs.Leftmost.{word_at, state_at, fault_of}

-- ---- a number that is given is that of a refusal that fits

data Given (n : ℕ) : List Refusal → Type 0 where
  here : {r : Refusal} {rs : List Refusal} → r.number ≡ n → r.fits ≡ true → Given n (r ∷ rs)
  later : {r : Refusal} {rs : List Refusal} → Given n rs → Given n (r ∷ rs)

given : (rs : List Refusal) (n : ℕ) → first_fit rs ≡ Some n → Given n rs
given [] n e = clash e
given (r ∷ rs) n e = by-test r.fits (λ t. here (same (rw t at e)) t) (λ f. later (given rs n (rw f at e)))

other : {A : Type 0} (m n : ℕ) → eqb m n ≡ false → m ≡ n → A
other m n f e = absurd (false≢true (sym f ∙ eq-eqb m n e))

repeat-fits : (s : State) (i : ℕ) (w : Word) → fault_at s i w ≡ Some 21 → repeated s w ≡ true
unfolding fault_at
repeat-fits s i w e = go (given (faults s i w) 21 e)
  where
    go : Given 21 (faults s i w) → repeated s w ≡ true
    go (here m t) = other 11 21 refl m
    go (later (here m t)) = other 1 21 refl m
    go (later (later (here m t))) = t
    go (later (later (later (here m t)))) = other 2 21 refl m
    go (later (later (later (later (here m t))))) = other 22 21 refl m
    go (later (later (later (later (later (later x18)))))) = elim x18 [ ]
    go (later (later (later (later (later (here m t)))))) = other 3 21 refl m

-- ---- the calls that the reader has in mind are the earlier E words

-- before word number k, from 0, an E word has customer c
pub record CalledBefore (ws : List Word) (k c : ℕ) : Type 0 where
  pub number : ℕ
  pub earlier : number < k
  pub kind : (word_at ws number).kind ≡ 0xE
  pub value : (word_at ws number).value ≡ c

called-before : (s : State) (ws : List Word) (k c : ℕ) → among c (state_at s ws k).called ≡ true → (among c s.called ≡ true) ⊎ CalledBefore ws k c
called-before s ws zero c h = inl h
called-before s [] (suc k) c h = inl h
called-before s (w ∷ ws) (suc k) c h = go (called-before (next s w) ws k c h)
  where
    go : (among c (next s w).called ≡ true) ⊎ CalledBefore ws k c → (among c s.called ≡ true) ⊎ CalledBefore (w ∷ ws) (suc k) c
    go (inr b) = inr (record { number = suc b.number; earlier = omega (arith, b.earlier); kind = b.kind; value = b.value })
    go (inl a) =
        by-test (eqb w.kind 0xE)
        (λ t. by-test (eqb c w.value)
        (λ y. inr (record { number = 0; earlier = omega arith; kind = eqb-true w.kind 0xE t; value = sym (eqb-true c w.value y) }))
        (λ n. inl (rw (t, n) at a)))
        (λ f. inl (rw f at a))

-- ---- the word that is named

pub record RepeatsAt (ws : List Word) (k : ℕ) : Type 0 where
  pub kind : (word_at ws k).kind ≡ 0xE
  pub called : CalledBefore ws k (word_at ws k).value

pub named-repeat : (ws : List Word) (k : ℕ) → fault_of start 0 ws k ≡ Some 21 → RepeatsAt ws k
named-repeat ws k e =
    let w = word_at ws k in
    let s = state_at start ws k in
    let b = both (eqb w.kind 0xE) (among w.value s.called) (repeat-fits s (0 + k) w e) in
    record { kind = eqb-true w.kind 0xE b.0; called = found (called-before start ws k w.value b.1) }
  where
    found : {c : ℕ} → (false ≡ true) ⊎ CalledBefore ws k c → CalledBefore ws k c
    found (inl z) = absurd (false≢true z)
    found (inr b) = b
