-- A loop that writes an element for each word of a kind at the front of a lent list, behind those of `first` that stand there already. Assumes nothing.
use Prim.Native.Nat.{ℕ, suc, ◌+◌, ◌≤◌, ◌<◌}
use native.Mathlib.Omega.{arith}
use mathlib.Core.Path.{◌≡◌, refl, sym, ap, ◌∙◌}
use mathlib.Core.List.{List, [], ◌∷◌, ◌++◌}
use borrow.Author.Tests.{eq-eqb, ne_eqb}
use lib.ListN.{length, drop, get_or, set}
use Rattle.definitions.specs.Words.{Word}
use Rattle.definitions.specs.Room.{written}
use Rattle.sheet_words.specs.Held.{no_word}
use Rattle.sheet_read.specs.Fitting.{fitting}
use Rattle.sheet_read.proofs.Picking as Picking
use Rattle.sheet_read.proofs.Picking.{Picks, Passed}
use Rattle.sheet_read.proofs.Fitting.{write-more, write-length, took-all, took-full}

-- at index i, n elements stand at the front of `out`, which was `old`
pub record Wrote {A : Type 0} (g : List Word → List A) (first : List A) (ws : List Word) (old out : List A) (i n : ℕ) : Type 0 where
  pub front : List A
  pub passed : Passed g first ws front i n
  pub room : n ≤ length old
  pub holds : out ≡ written front old

-- at the end: what the list holds, and how many elements were written
pub record Done {A : Type 0} (all old out : List A) (n : ℕ) : Type 0 where
  pub holds : out ≡ written (fitting all old) old
  pub many : n ≡ length (fitting all old)

pub set_out : {A : Type 0} (g : List Word → List A) (first : List A) (ws : List Word) (old : List A) → length first ≤ length old
    → Wrote g first ws old (written first old) 0 (length first)
set_out g first ws old h = record { front = first; passed = Picking.set_out g first ws; room = h; holds = refl }

module _ {A : Type 0} {k : ℕ} {g : List Word → List A} {f : Word → List Word → A} (p : Picks k g f) where
  module _ {first : List A} {ws : List Word} {old out : List A} {i n : ℕ} (q : Wrote g first ws old out i n) where
    pub kept : length out ≡ length old
    kept = ap length q.holds ∙ write-length old q.front (omega (arith, q.room, q.passed.many))

    -- a list that is not full has room for an element
    pub place : (n ≡ length out → ⊥) → n < length old
    place h = omega (arith, kept, q.room)

    -- past the word w, of kind k
    pub turn : (w : Word) (x : A) → i < length ws → w ≡ get_or ws i no_word → w.kind ≡ k → n < length old → x ≡ f (get_or ws i no_word) (drop (suc i) ws)
        → Wrote g first ws old (set out n x) (i + 1) (n + 1)
    turn w x h e t l b =
        record {
          front = q.front ++ f (get_or ws i no_word) (drop (suc i) ws) ∷ [];
          passed = Picking.turn p q.passed h (rw e at (eq-eqb w.kind k t));
          room = omega arith;
          holds = rw (q.holds, b) (write-more old q.front (f (get_or ws i no_word) (drop (suc i) ws)) n q.passed.many l);
        }

    -- past another word
    pub pass : (w : Word) → i < length ws → w ≡ get_or ws i no_word → (w.kind ≡ k → ⊥) → Wrote g first ws old out (i + 1) n
    pass w h e t =
        record { front = q.front; passed = Picking.pass p q.passed h (rw e at (ne_eqb w.kind k t)); room = q.room; holds = q.holds }

    -- what was passed is what there is room for
    close : q.front ≡ fitting (first ++ g ws) old → Done (first ++ g ws) old out n
    close e = record { holds = q.holds ∙ ap (λ (l : List A). written l old) e; many = q.passed.many ∙ ap length e }

    pub ended : length ws ≤ i → Done (first ++ g ws) old out n
    ended h =
        close (took-all old q.front (first ++ g ws) (Picking.passed-all p q.passed h) (omega (arith, q.room, q.passed.many)))

    pub full : n ≡ length out → Done (first ++ g ws) old out n
    full h = close (took-full old q.front (g (drop i ws)) (first ++ g ws) q.passed.same (sym q.passed.many ∙ h ∙ kept))
