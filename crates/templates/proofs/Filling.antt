-- A template filled byte by byte. Assumes nothing.
use Prim.Native.Nat.{ℕ, ◌+◌, ◌≤◌, ◌<◌}
use native.Mathlib.Omega.{arith}
use mathlib.Core.Path.{◌≡◌, refl, sym, ap, ◌∙◌}
use mathlib.Core.Bool.{true, false, true≢false}
use mathlib.Core.List.{List, [], ◌∷◌, ◌++◌, append_assoc}
use lib.ListN.{length, drop, get_or, drop_of_length-le}
use lib.Dec.{ltb}
use borrow.Author.Tests.{ltb-true, ltb-false}
use Rattle.basics.proofs.TestLaws.{by-test, and_left, and_right}
use Rattle.definitions.specs.Listing.{decimal}
use Rattle.listing_lines.proofs.Pieces.{next-left}
use Rattle.templates.specs.Fill.{is_gap, piece, left, takes_one, used_by, fill}

-- ---- a byte of the template, with k of so many numbers used

module _ (b k many : ℕ) where
  -- a number is left for a gap that takes one
  pub gap-left : takes_one b k many ≡ true → k < many
  unfolding takes_one
  gap-left e = ltb-true k many (and_right (is_gap b) (ltb k many) e)

  pub gap-used : takes_one b k many ≡ true → used_by b k many ≡ k + 1
  unfolding used_by
  gap-used e = rw e

  pub plain-used : takes_one b k many ≡ false → used_by b k many ≡ k
  unfolding used_by
  plain-used e = rw e

  pub used-few : k ≤ many → used_by b k many ≤ many
  used-few h = by-test (takes_one b k many) (λ e. rw (gap-used e) (omega (arith, gap-left e))) (λ e. rw (plain-used e) h)

-- ---- with k of these used

module _ (b k : ℕ) (ns : List ℕ) where
  pub gap-piece : takes_one b k (length ns) ≡ true → piece b (drop k ns) ≡ decimal (get_or ns k 0)
  unfolding takes_one
  gap-piece e = ap (piece b) (next-left ns k 0 (gap-left b k (length ns) e)) ∙ rw (and_left (is_gap b) (ltb k (length ns)) e)

  pub plain-piece : takes_one b k (length ns) ≡ false → piece b (drop k ns) ≡ b ∷ []
  unfolding takes_one
  plain-piece e =
      by-test (ltb k (length ns))
      (λ y. ap (piece b) (next-left ns k 0 (ltb-true k (length ns) y)) ∙ by-test (is_gap b) (λ g. absurd (true≢false (rw (g, y) at e))) (λ g. rw g))
      (λ f. ap (piece b) (drop_of_length-le ns {i = k} (ltb-false k (length ns) f)))

  -- the numbers left behind it
  left_is : left b (drop k ns) ≡ drop (used_by b k (length ns)) ns
  unfolding used_by takes_one
  left_is =
      by-test (ltb k (length ns))
      (λ y. let e = next-left ns k 0 (ltb-true k (length ns) y) in ap (left b) e ∙ by-test (is_gap b) (λ g. rw (g, y)) (λ g. rw g (sym e)))
      (λ f. let e = drop_of_length-le ns {i = k} (ltb-false k (length ns) f) in ap (left b) e ∙ by-test (is_gap b) (λ g. rw (g, f) (sym e)) (λ g. rw g (sym e)))

-- one more byte of the template
pub fill_more : (template : List ℕ) (i : ℕ) (k : ℕ) (ns : List ℕ) → i < length template
    → fill (drop i template) (drop k ns) ≡ piece (get_or template i 0) (drop k ns) ++ fill (drop (i + 1) template) (drop (used_by (get_or template i 0) k (length ns)) ns)
fill_more template i k ns h =
    let b = get_or template i 0 in
    ap (λ (l : List ℕ). fill l (drop k ns)) (next-left template i 0 h)
    ∙ ap (λ (l : List ℕ). piece b (drop k ns) ++ fill (drop (i + 1) template) l) (left_is b k ns)

-- ---- with more behind it

-- bracketed to the right, as definitions write a text
abbrev pub fill_then : List ℕ → List ℕ → List ℕ → List ℕ
fill_then [] ns more = more
fill_then (b ∷ bs) ns more = piece b ns ++ fill_then bs (left b ns) more

pub fill-then : (template ns more : List ℕ) → fill template ns ++ more ≡ fill_then template ns more
fill-then [] ns more = refl
fill-then (b ∷ bs) ns more = append_assoc (piece b ns) (fill bs (left b ns)) more ∙ ap (λ (l : List ℕ). piece b ns ++ l) (fill-then bs (left b ns) more)
