-- Text put piece by piece: two pieces one after the other are one piece of the joined text. Assumes nothing.
use Rattle.std.proofs.Common.{◌≡◌, ℕ, ◌+◌, ◌<◌, ◌≤◌, List, [], ◌∷◌, ◌++◌, length, take, drop, set, sym, refl, ap, ◌∙◌, append_assoc, append-nil, add-zero, add_assoc, add-one, arith, length-append, length-drop, take-append-drop, length-take-le, drop-drop, take_at}
use lib.Seq.{drop-append-add, set_split, append_snoc}
use Rattle.listing_lines.specs.Put.{put_at, Put}

-- up to the end of the text
front_length : (at : ℕ) (a old : List ℕ) → at + length a ≤ length old → length (take at old ++ a) ≡ at + length a
front_length at a old h = length-append (take at old) a ∙ ap (λ (n : ℕ). n + length a) (length-take-le at old (omega arith))

put-nothing : (at : ℕ) (old : List ℕ) → put_at at [] old ≡ old
unfolding put_at
put-nothing at old = rw (append-nil (take at old), add-zero at) (take-append-drop at old)

put_one : (at x : ℕ) (old : List ℕ) → at < length old → put_at at (x ∷ []) old ≡ set old at x
unfolding put_at
put_one at x old h = rw (append_snoc (take at old) x (drop (at + 1) old), add-one at) (sym (set_split old at x h))

put-length : (at : ℕ) (a old : List ℕ) → at + length a ≤ length old → length (put_at at a old) ≡ length old
unfolding put_at
put-length at a old h =
    length-append (take at old ++ a) (drop (at + length a) old)
    ∙ omega (arith, front_length at a old h, length-drop (at + length a) old)

put-more : (at : ℕ) (a b old : List ℕ) → at + length a ≤ length old → put_at (at + length a) b (put_at at a old) ≡ put_at at (a ++ b) old
unfolding put_at
put-more at a b old h =
    let front = take at old ++ a in
    let behind = drop (at + length a) old in
    let e = front_length at a old h in
    ap (λ (l : List ℕ). l ++ b ++ drop (at + length a + length b) (front ++ behind)) (take_at front behind (at + length a) e)
    ∙ ap (λ (l : List ℕ). front ++ b ++ l)
    (ap (λ (n : ℕ). drop (n + length b) (front ++ behind)) (sym e) ∙ drop-append-add front behind (length b) ∙ drop-drop (length b) (at + length a) old)
    ∙ ap (λ (l : List ℕ). l ++ drop (at + length a + length b) old) (append_assoc (take at old) a b)
    ∙ ap (λ (n : ℕ). take at old ++ (a ++ b) ++ drop n old) (add_assoc at (length a) (length b) ∙ ap (λ (n : ℕ). at + n) (sym (length-append a b)))

-- ---- the same of a place and the place after the text

pub nothing : (at : ℕ) (old : List ℕ) → Put at [] old old at
nothing at old = record { holds = sym (put-nothing at old); next = sym (add-zero at) }

pub one : (at x r : ℕ) (old : List ℕ) → at < length old → r ≡ at + 1 → Put at (x ∷ []) old (set old at x) r
one at x r old h e = record { holds = sym (put_one at x old h); next = e }

module _ {at r : ℕ} {a old new : List ℕ} (p : Put at a old new r) where
  pub kept : r ≤ length old → length new ≡ length old
  kept h = ap length p.holds ∙ put-length at a old (omega (arith, p.next))

  pub joined : {b last : List ℕ} {end : ℕ} → Put r b new last end → r ≤ length old → Put at (a ++ b) old last end
  joined {b} {last} {end} q h =
      record {
        holds =
            q.holds ∙ ap (λ (n : ℕ). put_at n b new) p.next ∙ ap (λ (l : List ℕ). put_at (at + length a) b l) p.holds
            ∙ put-more at a b old (omega (arith, p.next));
        next = omega (arith, p.next, q.next, length-append a b);
      }

  -- a piece of two parts
  pub joined-two : (b d : List ℕ) {last : List ℕ} {end : ℕ} → Put r (b ++ d) new last end → r ≤ length old → Put at (a ++ b ++ d) old last end
  joined-two b d {last} {end} q h = rw (append_assoc a b d) (joined q h)

  -- of three parts
  pub joined-three : (b d e : List ℕ) {last : List ℕ} {end : ℕ} → Put r (b ++ d ++ e) new last end → r ≤ length old → Put at (a ++ b ++ d ++ e) old last end
  joined-three b d e {last} {end} q h = rw (append_assoc a b d, append_assoc a (b ++ d) e) (joined q h)

-- three pieces
pub joined-all : {at r₁ r₂ end : ℕ} {a b c old n₁ n₂ last : List ℕ} → Put at a old n₁ r₁ → Put r₁ b n₁ n₂ r₂ → Put r₂ c n₂ last end → r₂ ≤ length old → Put at (a ++ b ++ c) old last end
joined-all p q s h = joined (joined p q (omega (arith, q.next))) s h

-- a line of four pieces
pub joined_line : {at r₁ r₂ r₃ end : ℕ} {a old n₁ n₂ n₃ last : List ℕ} (b b' c c' d d' e : List ℕ) → Put at a old n₁ r₁ → Put r₁ (b ++ b') n₁ n₂ r₂
    → Put r₂ (c ++ c') n₂ n₃ r₃ → Put r₃ (d ++ d' ++ e) n₃ last end → r₃ ≤ length old → Put at (a ++ b ++ b' ++ c ++ c' ++ d ++ d' ++ e) old last end
joined_line b b' c c' d d' e p q s u h =
    let two = joined-two p b b' q (omega (arith, q.next, s.next)) in
    let three = joined-two two c c' s (omega (arith, s.next)) in
    joined-three three d d' e u h

-- ---- a loop that puts a piece at each turn

-- up to `end` some of the whole text is put, and `rest` is still to be
pub record Wrote (whole rest : List ℕ) (at : ℕ) (old out : List ℕ) (end : ℕ) : Type 0 where
  pub done : List ℕ
  pub put : Put at done old out end
  pub same : done ++ rest ≡ whole
  pub room : end ≤ length old

pub begun : (whole : List ℕ) (at : ℕ) (old : List ℕ) → at ≤ length old → Wrote whole whole at old old at
begun whole at old h = record { done = []; put = nothing at old; same = refl; room = h }

module _ {whole rest : List ℕ} {at end : ℕ} {old out : List ℕ} (w : Wrote whole rest at old out end) where
  pub same-room : length out ≡ length old
  same-room = kept w.put w.room

  pub turn : {piece new : List ℕ} {r : ℕ} (left : List ℕ) → Put end piece out new r → rest ≡ piece ++ left → r ≤ length old → Wrote whole left at old new r
  turn {piece} {new} {r} left p e h =
      record {
        done = w.done ++ piece;
        put = joined w.put p w.room;
        same = append_assoc w.done piece left ∙ ap (λ (l : List ℕ). w.done ++ l) (sym e) ∙ w.same;
        room = h;
      }

  pub ended : rest ≡ [] → Put at whole old out end
  ended e =
      let all : w.done ≡ whole = sym (append-nil w.done) ∙ ap (λ (l : List ℕ). w.done ++ l) (sym e) ∙ w.same in
      record { holds = w.put.holds ∙ ap (λ (l : List ℕ). put_at at l old) all; next = w.put.next ∙ ap (λ (l : List ℕ). at + length l) all }
