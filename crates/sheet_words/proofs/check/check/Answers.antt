-- `check::check` meets its contract. Assumes nothing.
-- What is known where the word has been read and tried.
use Prim.Native.Nat.{ℕ, ◌<◌}
use native.Mathlib.Numerals.{add-one}
use native.Mathlib.Omega.{arith}
use mathlib.Core.Path.{◌≡◌, sym, ap, ◌∙◌}
use mathlib.Core.Bool.{Bool, ◌&&◌}
use mathlib.Core.List.{List}
use lib.Dec.{eqb}
use lib.ListN.{length}
use borrow.Author.Tests.{eq-eqb, ne_eqb}
use borrow.Author.Rules.{rules}
use Rattle.definitions.specs.Words.{Word, words_of, left_over}
use Rattle.definitions.specs.Reader.{State, refused, fault_at}
use Rattle.sheet_words.specs.Held.{held_word}
use Rattle.std.specs.Prelude.{None, Some}
use Rattle.sheet_words.proofs.Facing.{faces}
use Rattle.sheet_words.proofs.Walking.{state_at, set_out, turn, walk-bad, walk-last, walk_ends}
use Rattle.sheet_words.proofs.check.check.Goals as goal
use Rattle.sheet_words.proofs.check.check.Goals.{After-fault_at}

module _ (f : After-fault_at) where
  abbrev w : Word
  w = held_word f.word_at-w.result

  abbrev bytes : List ℕ
  bytes = f.args.bytes.now

  abbrev state : State
  state = state_at (words_of bytes) (left_over bytes) f.loop-i.state f.loop-i.called f.loop-i.i f.loop-i.invariant

  inside : f.loop-i.i < length (words_of bytes)
  inside = omega arith

  told : f.fault_at.result ≡ fault_at state f.loop-i.i w
  told =
      let r = f.loop-i.invariant in
      f.fault_at.ensures r.calls r.distances
      (f.calls_again-again.ensures ∙ ap (λ (b : Bool). eqb w.kind 0xE && b) (r.notes w.value))
      (faces (words_of bytes) state f.loop-i.i r.facing w f.full.result _ f.full.ensures f.closure_differs-differs.ensures)

pub loop-i-init : goal.loop-i-init
loop-i-init c = set_out _ _ _ c.start-state.ensures

pub returns-in-Some : goal.returns-in-Some
returns-in-Some c =
    let f = (goal.at.returns-in-Some c).After-fault_at in
    let q : f.fault_at.result ≡ Some c.in-Some.number = search rules in
    walk-bad (words_of (bytes f)) (left_over (bytes f)) f.loop-i.i (state f) (w f) (inside f) f.word_at-w.ensures _ (sym (q) ∙ told f) ∙ f.loop-i.invariant.same

pub returns-then-w-eq15 : goal.returns-then-w-eq15
returns-then-w-eq15 c =
    let f = (goal.at.returns-then-w-eq15 c).After-fault_at in
    let q : f.fault_at.result ≡ None = search rules in
    (rw add-one at c.behind.ensures)
    ∙ walk-last (words_of (bytes f)) (left_over (bytes f)) f.loop-i.i (state f) (w f) (inside f) f.word_at-w.ensures (sym (q) ∙ told f)
    (eq-eqb (w f).kind 15 c.if-w-eq15.true)
    ∙ f.loop-i.invariant.same

pub loop-i-preserved : goal.loop-i-preserved
loop-i-preserved c =
    let f = (goal.at.loop-i-preserved c).After-fault_at in
    let q : f.fault_at.result ≡ None = search rules in
    turn (words_of (bytes f)) (left_over (bytes f)) c.loop-i.state c.next-state.result c.loop-i.called _ c.loop-i.i _ (w f) c.loop-i.invariant (inside f) f.word_at-w.ensures
    (sym (q) ∙ told f) (ne_eqb (w f).kind 15 (omega arith)) (c.next-state.ensures c.loop-i.invariant.calls c.loop-i.invariant.distances) c.note_word.ensures (add-one c.loop-i.i)

pub returns : goal.returns
returns c =
    let ws = words_of c.args.bytes.now in
    let left = left_over c.args.bytes.now in
    let i = c.loop-i.i in
    let last : c.word_count-count.result ≡ i = omega arith in
    ap (λ (n : ℕ). refused 12 n) last
    ∙ walk_ends ws left i (state_at ws left c.loop-i.state c.loop-i.called i c.loop-i.invariant) (omega arith)
    ∙ c.loop-i.invariant.same
