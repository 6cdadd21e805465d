-- The loop over the words of a file: what one more word shows. Assumes nothing.
use Prim.Native.Nat.{ℕ, suc, ◌+◌, ◌*◌, ◌≤◌, ◌<◌}
use native.Mathlib.Omega.{arith}
use mathlib.Core.Path.{◌≡◌, sym, ap, ◌∙◌}
use mathlib.Core.List.{List, [], ◌∷◌, ◌++◌}
use lib.ListN.{length, drop, get_or}
use lib.Seq.{drop-cons}
use lib.Dec.{eqb}
use Rattle.basics.proofs.TestLaws.{by-test}
use Rattle.definitions.specs.Words.{Word}
use Rattle.definitions.specs.Reader.{State, start, next}
use Rattle.texts.specs.SheetText.{show_word, show_from, show_words}
use Rattle.listing_lines.specs.Put.{Put}
use Rattle.listing_lines.proofs.Putting as Putting
use Rattle.listing_lines.proofs.Putting.{Wrote, begun}
use Rattle.sheet_words.specs.declared.state.State as Code
use Rattle.sheet_words.specs.Held.{no_word, state_with, state_of}

-- behind the first i words, which left state s
pub record Shown (ws : List Word) (old out : List ℕ) (s : Code.State) (end i : ℕ) : Type 0 where
  pub inside : i ≤ length ws
  pub short : end ≤ 64 * i
  -- no more words of one kind in a row than words
  pub few : s.row ≤ i
  -- what the code's state does not hold
  pub calls : List ℕ
  pub distances : List ℕ
  pub wrote : Wrote (show_words ws) (show_from (state_with calls distances s) (drop i ws)) 0 old out end

module _ (ws : List Word) (old : List ℕ) where
  pub set_out : (s : Code.State) → state_of s ≡ start → Shown ws old old s 0 0
  unfolding show_words
  set_out s e =
      let r : s.row ≡ 0 = ap (λ (t : State). t.row) e in
      record {
        inside = omega arith;
        short = omega arith;
        few = omega arith;
        calls = [];
        distances = [];
        wrote = rw e (begun (show_from start ws) 0 old (omega arith));
      }

  -- a row has at most one word more behind a word
  row-grows : (s : State) (w : Word) → (next s w).row ≤ suc s.row
  row-grows s w = by-test (eqb w.kind s.last.kind) (λ t. rw t (omega arith)) (λ f. rw f (omega arith))

  pub turn : {out new : List ℕ} {end r : ℕ} (s t : Code.State) (i k : ℕ) (w : Word) (q : Shown ws old out s end i) → 64 * length ws ≤ length old → i < length ws → w ≡ get_or ws i no_word
      → Put end (show_word (state_of s) w) out new r → r ≤ end + 64
      → (let was = state_with q.calls q.distances s in state_with (next was w).called (next was w).facing t ≡ next was w)
      → k ≡ suc i → Shown ws old new t r k
  turn s t i k w q room h e p l g m =
      let was = state_with q.calls q.distances s in
      let row : t.row ≡ (next was w).row = ap (λ (u : State). u.row) g in
      let left = show_from (next was w) (drop (suc i) ws) in
      let more : show_from was (drop i ws) ≡ show_word was w ++ left =
      ap (show_from was) (drop-cons ws i no_word h ∙ ap (λ (v : Word). v ∷ drop (suc i) ws) (sym e)) in
      record {
        inside = omega (arith, h, m);
        short = omega (arith, q.short, l, m);
        few = omega (arith, q.few, row, row-grows was w, m);
        calls = (next was w).called;
        distances = (next was w).facing;
        wrote = rw (m, g) (Putting.turn q.wrote left p more (omega (arith, q.short, l, room, h)));
      }
