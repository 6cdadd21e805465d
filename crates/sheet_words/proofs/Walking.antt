-- The reading by index: what it gives from a state at the word of index i, by what that word is. Assumes nothing.
use Prim.Native.Nat.{ℕ, suc, ◌≤◌, ◌<◌}
use native.Mathlib.Omega.{arith}
use mathlib.Core.Path.{◌≡◌, refl, sym, ap, subst, ◌∙◌}
use mathlib.Core.Bool.{Bool, true, false}
use mathlib.Core.List.{List, []}
use Rattle.std.specs.Prelude.{None, Some}
use lib.ListN.{length, drop, get_or, length-set, drop_of_length-le}
use lib.Seq.{drop-cons}
use lib.Dec.{eqb, leb, ltb}
use borrow.Author.Tests.{eqb-true, leb-true, ltb-true}
use Rattle.basics.proofs.TestLaws.{by-test, and_right, not-false}
use Rattle.definitions.specs.Words.{Word, word}
use Rattle.definitions.specs.Reader.{State, refused, start, next, may_stand, in_range, among, faults, fault_at, behind, walk}
use Rattle.theorems.proofs.InOrder.{none-fits}
use Rattle.refuse_lists.specs.Called.{none_called, Notes}
use Rattle.refuse_lists.proofs.Calling.{none-noted, one-noted}
use Rattle.sheet_words.specs.declared.state.State as Code
use Rattle.sheet_words.specs.Held.{no_word, state_with, state_of, notes_with}
use Rattle.sheet_words.proofs.ByIndex.{words-from}
use Rattle.sheet_words.proofs.Facing.{Facing, none-facing, facing-next}

-- ws are the words, and left says whether bytes are left over behind them
module _ (ws : List Word) (left : Bool) (i : ℕ) where
  pub behind-words : i < length ws → refused 3 i ≡ behind i (drop i ws) left
  behind-words h = rw (drop-cons ws i no_word h)

  pub behind-all : length ws ≤ i → behind i [] left ≡ behind i (drop i ws) left
  behind-all h = rw (drop_of_length-le ws h)

  module _ (s : State) where
    pub walk_ends : length ws ≤ i → refused 12 i ≡ walk s i (drop i ws) left
    unfolding walk
    walk_ends h = rw (drop_of_length-le ws h)

    module _ (w : Word) (h : i < length ws) (e : w ≡ get_or ws i no_word) where
      pub walk-bad : (n : ℕ) → Some n ≡ fault_at s i w → refused n i ≡ walk s i (drop i ws) left
      unfolding walk
      walk-bad n f = rw (words-from ws i w h e, ← f)

      pub walk-last : None ≡ fault_at s i w → eqb w.kind 0xF ≡ true → behind (suc i) (drop (suc i) ws) left ≡ walk s i (drop i ws) left
      unfolding walk
      walk-last f k = rw (words-from ws i w h e, ← f, k)

      pub walk-on : None ≡ fault_at s i w → eqb w.kind 0xF ≡ false → walk (next s w) (suc i) (drop (suc i) ws) left ≡ walk s i (drop i ws) left
      unfolding walk
      walk-on f k = rw (words-from ws i w h e, ← f, k)

-- what a word without fault passed
module _ (s : State) (i : ℕ) (w : Word) (h : fault_at s i w ≡ None) where
  stands : among w.kind (may_stand s) ≡ true
  unfolding fault_at
  stands = not-false (among w.kind (may_stand s)) (none-fits (faults s i w) h 11)

  in-range : in_range s w ≡ true
  unfolding fault_at
  in-range = not-false (in_range s w) (none-fits (faults s i w) h 1)

-- ---- the loop

-- at the word of index i, in state s and with these notes, what is left to read gives what the whole reading gives
pub record Reached (ws : List Word) (left : Bool) (s : Code.State) (called : List Bool) (i : ℕ) : Type 0 where
  pub inside : i ≤ length ws
  -- no more words of one kind in a row than words
  pub few : s.row ≤ i
  pub few-places : s.places ≤ 64
  -- the calls of the tour so far, whose customers are noted
  pub calls : List ℕ
  pub long : length called ≡ 64
  pub notes : Notes called calls
  -- the distances whose times have yet to come, which stand among the words
  pub distances : List ℕ
  pub facing : Facing ws (state_with calls distances s) i
  pub same : walk (state_with calls distances s) i (drop i ws) left ≡ walk start 0 ws left

module _ (ws : List Word) (left : Bool) where
  pub set_out : (s : Code.State) → state_of s ≡ start → Reached ws left s none_called 0
  set_out s e =
      let r : s.row ≡ 0 = ap (λ (t : State). t.row) e in
      let p : s.places ≡ 0 = ap (λ (t : State). t.places) e in
      record {
        inside = omega arith;
        few = omega arith;
        few-places = omega arith;
        calls = [];
        long = refl;
        notes = none-noted;
        distances = [];
        facing = rw e (none-facing ws);
        same = rw e;
      }

  -- a row has at most one word more behind a word
  row-grows : (s : State) (w : Word) → (next s w).row ≤ suc s.row
  row-grows s w = by-test (eqb w.kind s.last.kind) (λ t. rw t (omega arith)) (λ f. rw f (omega arith))

  module _ (s : State) (w : Word) (fit : in_range s w ≡ true) (few : s.places ≤ 64) where
    of-kind : (k : ℕ) → eqb w.kind k ≡ true → in_range s (word k w.value) ≡ true
    of-kind k t = subst (λ (j : ℕ). in_range s (word j w.value) ≡ true) (eqb-true w.kind k t) fit

    places-few : (next s w).places ≤ 64
    unfolding in_range
    places-few = by-test (eqb w.kind 1) (λ t. rw t (leb-true w.value 64 (and_right (leb 1 w.value) (leb w.value 64) (of-kind 1 t)))) (λ f. rw f few)

    -- there is a note for a call in range
    notes-more : (called : List Bool) → length called ≡ 64 → Notes called s.called → (length (notes_with called w) ≡ 64) × Notes (notes_with called w) (next s w).called
    unfolding in_range
    notes-more called long M =
        by-test (eqb w.kind 0xE)
        (λ t. let v = w.value in
        let below : v < s.places = ltb-true v s.places (and_right (leb 1 v) (ltb v s.places) (of-kind 0xE t)) in
        rw t (length-set called v true ∙ long, one-noted called s.called v (omega arith) M))
        (λ f. rw f (long, M))

  -- what the code's state is beside
  abbrev pub state_at : (s : Code.State) (called : List Bool) (i : ℕ) → Reached ws left s called i → State
  state_at s called i r = state_with r.calls r.distances s

  pub turn : (s t : Code.State) (called after : List Bool) (i k : ℕ) (w : Word) (r : Reached ws left s called i) → i < length ws → w ≡ get_or ws i no_word
      → None ≡ fault_at (state_at s called i r) i w → eqb w.kind 0xF ≡ false
      → state_with (next (state_at s called i r) w).called (next (state_at s called i r) w).facing t ≡ next (state_at s called i r) w
      → after ≡ notes_with called w → k ≡ suc i → Reached ws left t after k
  turn s t called after i k w r h e f n g m q =
      let was = state_at s called i r in
      let row : t.row ≡ (next was w).row = ap (λ (u : State). u.row) g in
      let places : t.places ≡ (next was w).places = ap (λ (u : State). u.places) g in
      let grows = row-grows was w in
      let fit = in-range was i w (sym f) in
      let noted = notes-more was w fit r.few-places called r.long r.notes in
      record {
        inside = omega arith;
        few = omega (arith, r.few);
        few-places = omega (arith, places-few was w fit r.few-places);
        calls = (next was w).called;
        long = rw m noted.0;
        notes = rw m noted.1;
        distances = (next was w).facing;
        facing = rw (q, g) (facing-next ws was i r.facing w e (stands was i w (sym f)) fit n);
        same = rw (q, g) (walk-on ws left i was w h e f n ∙ r.same);
      }
