-- The pieces of a line, one more at a time. Assumes nothing.
use Rattle.std.proofs.Common.{◌≡◌, ℕ, zero, suc, ◌+◌, ◌<◌, List, ◌∷◌, ◌++◌, length, get_or, drop, sym, refl, ap, ◌∙◌, add-one, drop-cons}
use Rattle.definitions.specs.Drop.{call_at}
use Rattle.definitions.specs.Listing.{text, spaced, customers_text, rest_text, drop_lines}
use Rattle.listing_lines.specs.Lines.{start_if, drop_line}

-- what is left of a list: its next element, and what is left then
pub next-left : {A : Type 0} (l : List A) (k : ℕ) (d : A) → k < length l → drop k l ≡ get_or l k d ∷ drop (k + 1) l
next-left l k d h = drop-cons l k d h ∙ ap (λ (n : ℕ). get_or l k d ∷ drop n l) (sym (add-one k))

pub customers-more : (calls : List ℕ) (k : ℕ) → k < length calls → customers_text (drop k calls) ≡ spaced (get_or calls k 0) ++ customers_text (drop (k + 1) calls)
customers-more calls k h = ap customers_text (next-left calls k 0 h)

pub drops-more : (tour dropped : List ℕ) (k customer : ℕ) → k < length dropped → customer ≡ call_at tour (get_or dropped k 0)
    → drop_lines tour (drop k dropped) ≡ drop_line customer ++ drop_lines tour (drop (k + 1) dropped)
drops-more tour dropped k customer h e = ap (drop_lines tour) (next-left dropped k 0 h) ∙ ap (λ (c : ℕ). drop_line c ++ drop_lines tour (drop (k + 1) dropped)) (sym e)

-- a break that has a place is shown
pub rest-shown : (place start : ℕ) → (place ≡ 0 → ⊥) → rest_text place (start_if place start) ≡ text " rest" ++ spaced place ++ spaced start
rest-shown zero start h = absurd (h refl)
rest-shown (suc k) start h = refl
