-- A recorded text is read to its end exactly where it is the words that are looked for. Assumes nothing.
use Prim.Native.Nat.{ℕ, ◌+◌, ◌≤◌}
use native.Mathlib.Omega.{arith}
use mathlib.Core.Path.{◌≡◌, refl, sym, ap, ◌∙◌}
use mathlib.Core.Bool.{Bool, false, cond}
use mathlib.Core.List.{List, [], ◌∷◌, ◌++◌}
use lib.ListN.{length, take, drop, length-drop, take-append-drop, drop_of_length-le}
use lib.Seq.{drop-drop, take-append_seam, drop-append_seam}
use lib.Dec.{eqb}
use borrow.Author.Tests.{eqb-true, eq-eqb}
use Rattle.basics.proofs.TestLaws.{by-test}
use Rattle.test_runs.specs.Along.{unlike, says, follow, follows, Short}
use Rattle.test_runs.specs.Alike.{same_list}
use Rattle.test_runs.specs.Words.{Words}
use Rattle.test_runs.proofs.Along.{beyond, there-short, says_is, said}
use Rattle.test_runs.proofs.Same.{decided}
use Rattle.test_lists.specs.Answers.{text_of}

module _ (recorded : List ℕ) (short : Short recorded) where
  -- beyond every text the place stays
  stays : (ws : Words) → follows recorded unlike ws ≡ unlike
  unfolding follows
  stays [] = refl
  stays (w ∷ ws) = ap (λ (n : ℕ). follows recorded n ws) (sym (beyond recorded unlike w short)) ∙ stays ws

  lost : (ws : Words) (at : ℕ) (w : List ℕ) → says recorded at w ≡ false → follows recorded (follow recorded at w) ws ≡ length recorded → ⊥
  unfolding follow
  lost ws at w f h = out (sym (ap (λ (b : Bool). follows recorded (cond b (at + length w) unlike) ws) f ∙ stays ws) ∙ h)
    where
      out : unlike ≡ length recorded → ⊥
      out e = omega (arith, short)

  -- where the last place is the end, the words are what is left of the text
  read_out : (ws : Words) (at : ℕ) → at ≤ length recorded → follows recorded at ws ≡ length recorded → drop at recorded ≡ text_of ws
  unfolding follows
  read_out [] at l h = drop_of_length-le recorded {i = at} (omega arith)
  read_out (w ∷ ws) at l h =
      by-test (says recorded at w)
      (λ t.
      let b = says_is recorded at w t in
      let long : at + length w ≤ length recorded = omega (arith, there-short recorded at w, ap length b.1) in
      let on = read_out ws (at + length w) long (ap (λ (n : ℕ). follows recorded n ws) (said recorded at w b.0 b.1) ∙ h) in
      sym (take-append-drop (length w) (drop at recorded))
      ∙ ap (λ (l : List ℕ). l ++ drop (length w) (drop at recorded)) b.1
      ∙ ap (λ (l : List ℕ). w ++ l) (drop-drop (length w) at recorded ∙ on))
      (λ f. absurd (lost ws at w f h))

  -- and where they are, it is
  read-in : (ws : Words) (at : ℕ) → at ≤ length recorded → drop at recorded ≡ text_of ws → follows recorded at ws ≡ length recorded
  unfolding follows
  read-in [] at l e = omega (arith, length-drop at recorded, ap length e)
  read-in (w ∷ ws) at l e =
      let there : take (length w) (drop at recorded) ≡ w = ap (take (length w)) e ∙ take-append_seam w (text_of ws) in
      let left : drop (at + length w) recorded ≡ text_of ws = sym (drop-drop (length w) at recorded) ∙ ap (drop (length w)) e ∙ drop-append_seam w (text_of ws) in
      let long : at + length w ≤ length recorded = omega (arith, there-short recorded at w, ap length there) in
      ap (λ (n : ℕ). follows recorded n ws) (sym (said recorded at w l there)) ∙ read-in ws (at + length w) long left

  pub read_whole : (ws : Words) (end : ℕ) → end ≡ follows recorded 0 ws → eqb end (length recorded) ≡ same_list (text_of ws) recorded
  read_whole ws end e =
      decided (eqb end (length recorded)) (text_of ws) recorded
      ((λ t. sym (read_out ws 0 (omega arith) (sym e ∙ eqb-true end (length recorded) t))), (λ t. eq-eqb end (length recorded) (e ∙ read-in ws 0 (omega arith) (sym t))))
