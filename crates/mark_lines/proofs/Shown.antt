-- Text that is put, by what it is equal to; meanings by their part of the table. Assumes nothing.
use Prim.Native.Nat.{ℕ, ◌≤◌, ◌<◌}
use mathlib.Core.Path.{◌≡◌, refl, sym, ap, subst, ◌∙◌}
use mathlib.Core.List.{List, []}
use lib.ListN.{length, get_or, drop, drop_of_length-le}
use lib.Seq.{drop-cons}
use borrow.Author.Tests.{eq-eqb, ne_eqb}
use Rattle.definitions.specs.Listing.{text, spaced, drop_lines}
use Rattle.texts.specs.Meaning.{meanings, meaning_of}
use Rattle.texts.specs.CuttingText as Text
use Rattle.texts.specs.CuttingText.{a_letter, spelling, expected}
use Rattle.texts.specs.MarkText.{next_text}
use Rattle.listing_lines.specs.Put.{Put}
use Rattle.marker.specs.declared.verdict.Verdict.{Verdict}
use Rattle.marker.specs.Figures.{number_in}
use Rattle.mark_lines.specs.Meanings.{meaning_to5}
use Rattle.mark_lines.specs.Verdicts.{drops_f}

pub put_as : {at r : ℕ} {a b old new : List ℕ} → a ≡ b → Put at a old new r → Put at b old new r
put_as {at} {r} {a} {b} {old} {new} e p = subst (λ (l : List ℕ). Put at l old new r) e p

-- ---- meanings

-- a number that is none of the later ones
pub meaning-early : (n : ℕ) → (n ≡ 11 → ⊥) → (n ≡ 12 → ⊥) → (n ≡ 13 → ⊥) → (n ≡ 21 → ⊥) → (n ≡ 22 → ⊥) → (n ≡ 23 → ⊥) → meaning_to5 n ≡ meaning_of n
unfolding meaning_to5 meanings
meaning-early n a b c d e f = rw (ne_eqb n 11 a, ne_eqb n 12 b, ne_eqb n 13 c, ne_eqb n 21 d, ne_eqb n 22 e, ne_eqb n 23 f) refl

pub no-meaning : (n : ℕ) → (n ≡ 1 → ⊥) → (n ≡ 2 → ⊥) → (n ≡ 3 → ⊥) → (n ≡ 4 → ⊥) → (n ≡ 5 → ⊥) → [] ≡ meaning_to5 n
unfolding meaning_to5 meanings
no-meaning n a b c d e = rw (ne_eqb n 1 a, ne_eqb n 2 b, ne_eqb n 3 c, ne_eqb n 4 d, ne_eqb n 5 e) refl

-- ---- the letter of a word that comes next

pub letter-next : (letters : List ℕ) (m : Text.Mode) (i l : ℕ) → i < length letters → l ≡ get_or letters i 0 → a_letter l ≡ expected (spelling (drop i letters) m)
letter-next letters m i l h e = ap a_letter e ∙ sym (ap (λ (ls : List ℕ). expected (spelling ls m)) (drop-cons letters i 0 h))

pub blank-next : (letters : List ℕ) (m : Text.Mode) (i : ℕ) → length letters ≤ i → a_letter 32 ≡ expected (spelling (drop i letters) m)
blank-next letters m i h = sym (ap (λ (ls : List ℕ). expected (spelling ls m)) (drop_of_length-le letters h))

-- ---- the call that comes next

pub call_next : (calls : List ℕ) (k : ℕ) → k < length calls → spaced (get_or calls k 0) ≡ next_text (drop k calls)
call_next calls k h = sym (ap next_text (drop-cons calls k 0 h))

pub calls-ended : (calls : List ℕ) (k : ℕ) → length calls ≤ k → text " none" ≡ next_text (drop k calls)
calls-ended calls k h = sym (ap next_text (drop_of_length-le calls h))

-- ---- the drops behind a verdict of number n

module _ (tour dropped : List ℕ) (v : Verdict) (n : ℕ) (is : n ≡ number_in v) where
  pub drops-shown : n ≡ 1 → drop_lines tour dropped ≡ drops_f tour dropped v
  drops-shown e = rw (eq-eqb (number_in v) 1 (sym is ∙ e)) refl

  pub no-drops : (n ≡ 1 → ⊥) → [] ≡ drops_f tour dropped v
  no-drops h = rw (ne_eqb (number_in v) 1 (λ e. h (is ∙ e))) refl
