-- The search for the first word of a kind. Assumes nothing.
use Prim.Native.Nat.{ℕ, suc, ◌+◌, ◌<◌}
use native.Mathlib.Omega.{arith}
use mathlib.Core.Path.{◌≡◌, refl, sym, ap, ◌∙◌}
use mathlib.Core.Bool.{true, false, cond}
use mathlib.Core.List.{List, [], ◌∷◌}
use lib.ListN.{length, drop, get_or, length-drop}
use lib.Seq.{drop-drop, get_or-drop}
use lib.Dec.{eqb}
use Rattle.basics.proofs.TestLaws.{by-test}
use Rattle.definitions.specs.Words.{Word}
use Rattle.sheet_words.specs.Held.{no_word}
use Rattle.sheet_read.specs.Seeking.{before}

-- the word is of kind k
abbrev pub IsKind : ℕ → Word → Type 0
IsKind k w = eqb w.kind k ≡ true

module _ (k : ℕ) where
  -- a part of the words to which those of other kinds are nothing
  abbrev pub Skips : {A : Type 0} → (List Word → List A) → Type 0
  Skips g = (w : Word) (ws : List Word) → eqb w.kind k ≡ false → g (w ∷ ws) ≡ g ws

  skip-list : {A : Type 0} (g : List Word → List A) → Skips g → (l : List Word) → g l ≡ g (drop (before k l) l)
  skip-list g s [] = refl
  skip-list g s (w ∷ l) =
      by-test (eqb w.kind k) (λ t. rw t) (λ f. rw f (s w l f ∙ skip-list g s l))

  kind-list : (l : List Word) → before k l < length l → IsKind k (get_or l (before k l) no_word)
  kind-list [] h = absurd (omega arith)
  kind-list (w ∷ l) h =
      by-test (eqb w.kind k) (λ t. rw t t) (λ f. rw f (kind-list l (let e : cond (eqb w.kind k) 0 (suc (before k l)) ≡ suc (before k l) = rw f in omega arith)))

  module _ (ws : List Word) (from r : ℕ) (e : r ≡ from + before k (drop from ws)) where
    pub skipped : {A : Type 0} (g : List Word → List A) → Skips g → g (drop from ws) ≡ g (drop r ws)
    skipped g s = skip-list g s (drop from ws) ∙ ap g (drop-drop (before k (drop from ws)) from ws ∙ ap (λ (n : ℕ). drop n ws) (sym e))

    pub found-kind : r < length ws → IsKind k (get_or ws r no_word)
    found-kind h =
        let n = before k (drop from ws) in
        let here : get_or (drop from ws) n no_word ≡ get_or ws r no_word = get_or-drop from ws n no_word ∙ ap (λ (m : ℕ). get_or ws m no_word) (sym e) in
        sym (ap (λ (w : Word). eqb w.kind k) here) ∙ kind-list (drop from ws) (omega (arith, length-drop from ws))
