-- A loop over the words of a kind: what it has passed, and what is still to come. Assumes nothing.
use Prim.Native.Nat.{ℕ, suc, ◌+◌, ◌≤◌, ◌<◌}
use native.Mathlib.Omega.{arith}
use native.Mathlib.Numerals.{add-one}
use mathlib.Core.Path.{◌≡◌, refl, sym, ap, ◌∙◌}
use mathlib.Core.Bool.{false}
use mathlib.Core.List.{List, [], ◌∷◌, ◌++◌, map, append-nil, append_assoc}
use lib.ListN.{length, drop, get_or, length-append, drop_of_length-le}
use lib.Seq.{drop-cons}
use lib.Dec.{eqb}
use Rattle.whole.specs.Whole.{fl}
use Rattle.definitions.specs.Words.{Word}
use Rattle.definitions.specs.Reader.{values_of, tour_of, own, customer_of, customers_of}
use Rattle.models.specs.Image.{fl_customer}
use Rattle.sheet_words.specs.Held.{no_word}
use Rattle.sheet_read.specs.Seeking.{before}
use Rattle.sheet_read.proofs.Seeking.{IsKind, Skips, skipped, found-kind}

-- g is a list with an element f for each word of kind k, and nothing for the others
pub record Picks {A : Type 0} (k : ℕ) (g : List Word → List A) (f : Word → List Word → A) : Type 0 where
  pub none : g [] ≡ []
  pub skips : Skips k g
  pub picks : (w : Word) (ws : List Word) → IsKind k w → g (w ∷ ws) ≡ f w ws ∷ g ws

module _ {A : Type 0} {k : ℕ} {g : List Word → List A} {f : Word → List Word → A} (p : Picks k g f) (ws : List Word) where
  -- at a word of kind k stands its element, and at another none
  at-kind : (i : ℕ) → i < length ws → IsKind k (get_or ws i no_word) → g (drop i ws) ≡ f (get_or ws i no_word) (drop (suc i) ws) ∷ g (drop (suc i) ws)
  at-kind i h t = ap g (drop-cons ws i no_word h) ∙ p.picks (get_or ws i no_word) (drop (suc i) ws) t

  at-other : (i : ℕ) → i < length ws → eqb (get_or ws i no_word).kind k ≡ false → g (drop i ws) ≡ g (drop (suc i) ws)
  at-other i h t = ap g (drop-cons ws i no_word h) ∙ p.skips (get_or ws i no_word) (drop (suc i) ws) t

  at-end : (i : ℕ) → length ws ≤ i → g (drop i ws) ≡ []
  at-end i h = ap g (drop_of_length-le ws h) ∙ p.none

  -- the search from `from` on finds the next element
  module _ (from r : ℕ) (e : r ≡ from + before k (drop from ws)) where
    pub next-picked : r < length ws → g (drop from ws) ≡ f (get_or ws r no_word) (drop (suc r) ws) ∷ g (drop (suc r) ws)
    next-picked h = skipped k ws from r e g p.skips ∙ at-kind r h (found-kind k ws from r e h)

    pub none-picked : length ws ≤ r → g (drop from ws) ≡ []
    none-picked h = skipped k ws from r e g p.skips ∙ at-end r h

-- a search from behind index i on
pub behind : (k : ℕ) (ws : List Word) (i r : ℕ) → r ≡ i + 1 + before k (drop (i + 1) ws) → r ≡ suc i + before k (drop (suc i) ws)
behind k ws i r e = rw add-one at e

-- A loop stands at index i. It has passed the n elements of `front`: those of `first`, and then those of the words before i.
pub record Passed {A : Type 0} (g : List Word → List A) (first : List A) (ws : List Word) (front : List A) (i n : ℕ) : Type 0 where
  pub same : front ++ g (drop i ws) ≡ first ++ g ws
  pub many : n ≡ length front
  pub few : n ≤ length first + i

pub set_out : {A : Type 0} (g : List Word → List A) (first : List A) (ws : List Word) → Passed g first ws first 0 (length first)
set_out g first ws = record { same = refl; many = refl; few = omega arith }

module _ {A : Type 0} {k : ℕ} {g : List Word → List A} {f : Word → List Word → A} (p : Picks k g f) {first : List A} {ws : List Word} {front : List A} {i n : ℕ} (q : Passed g first ws front i n) where
  module _ (h : i < length ws) where
    -- past a word of kind k
    pub turn : IsKind k (get_or ws i no_word) → Passed g first ws (front ++ f (get_or ws i no_word) (drop (suc i) ws) ∷ []) (i + 1) (n + 1)
    turn t =
        let x = f (get_or ws i no_word) (drop (suc i) ws) in
        record {
          same =
              rw add-one
              (append_assoc front (x ∷ []) (g (drop (suc i) ws)) ∙ ap (λ (l : List A). front ++ l) (sym (at-kind p ws i h t)) ∙ q.same);
          many = omega (arith, length-append front (x ∷ []), q.many);
          few = omega (arith, q.few);
        }

    -- past another
    pub pass : eqb (get_or ws i no_word).kind k ≡ false → Passed g first ws front (i + 1) n
    pass t =
        record {
          same = rw add-one (ap (λ (l : List A). front ++ l) (sym (at-other p ws i h t)) ∙ q.same);
          many = q.many;
          few = omega (arith, q.few);
        }

  pub passed-all : length ws ≤ i → front ≡ first ++ g ws
  passed-all h = sym (append-nil front) ∙ ap (λ (l : List A). front ++ l) (sym (at-end p ws i h)) ∙ q.same

-- ---- the values of a kind

pub values-picked : (k : ℕ) → Picks k (values_of k) (λ w ws. w.value)
values-picked k = record { none = refl; skips = λ w ws f. rw f; picks = λ w ws t. rw t }

pub floats-picked : (k : ℕ) → Picks k (λ ws. map fl (values_of k ws)) (λ w ws. fl w.value)
floats-picked k = record { none = refl; skips = λ w ws f. rw f; picks = λ w ws t. rw t }

pub calls-picked : Picks 0xE tour_of (λ w ws. w.value)
unfolding tour_of
calls-picked = values-picked 0xE

pub customers-picked : Picks 7 (λ ws. map fl_customer (customers_of ws)) (λ w ws. fl_customer (customer_of w.value (own ws)))
customers-picked = record { none = refl; skips = λ w ws f. rw f; picks = λ w ws t. rw t }
