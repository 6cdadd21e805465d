-- The decimal text of a number: how long it is, and how it is put digit by digit. Assumes nothing.
use Rattle.std.proofs.Common.{◌≡◌, ℕ, zero, suc, ◌+◌, ◌/◌, ◌%◌, ◌^◌, ◌<◌, ◌≤◌, ltb, List, [], ◌∷◌, ◌++◌, length, set, refl, ap, ◌∙◌, not-suc-le-zero, arith, length-append, ltb-false, ltb-true, le-ltb, lt-ltb}
use Prim.Native.Char.{code}
use Rattle.basics.proofs.TestLaws.{by-test}
use Rattle.definitions.specs.Listing.{digits_in, decimal}
use Rattle.listing_lines.specs.Put.{Put}
use Rattle.listing_lines.proofs.Putting.{one, kept, joined}

-- more turns than the number needs change nothing
digits_same : (t u n : ℕ) → n < t → n < u → digits_in t n ≡ digits_in u n
unfolding digits_in
digits_same zero u n h k = absurd (not-suc-le-zero h)
digits_same (suc t) zero n h k = absurd (not-suc-le-zero k)
digits_same (suc t) (suc u) n h k =
    by-test (ltb n 10) (λ y. rw y)
    (λ f. let g = ltb-false n 10 f in
    rw f (ap (λ (l : List ℕ). l ++ ((code "0" + n % 10) ∷ [])) (digits_same t u (n / 10) (omega arith) (omega arith))))

decimal-small : (n : ℕ) → n < 10 → decimal n ≡ (48 + n) ∷ []
unfolding digits_in
decimal-small n h = rw (lt-ltb n 10 h)

decimal-more : (n : ℕ) → 10 ≤ n → decimal n ≡ decimal (n / 10) ++ ((48 + n % 10) ∷ [])
unfolding digits_in
decimal-more n h =
    rw (le-ltb n 10 h) (ap (λ (l : List ℕ). l ++ ((48 + n % 10) ∷ [])) (digits_same n (suc (n / 10)) (n / 10) (omega arith) (omega arith)))

digits-few : (k n : ℕ) → n < 10 ^ suc k → length (decimal n) ≤ suc k
digits-few zero n h = rw (decimal-small n (omega arith)) (omega arith)
digits-few (suc k) n h =
    by-test (ltb n 10) (λ y. rw (decimal-small n (ltb-true n 10 y)) (omega arith))
    (λ f. rw (decimal-more n (ltb-false n 10 f), length-append (decimal (n / 10)) ((48 + n % 10) ∷ [])) (omega (arith, digits-few k (n / 10) (omega arith))))

-- 64 bits hold at most 20 digits
pub decimal-short : (n : ℕ) → n < 2 ^ 64 → length (decimal n) ≤ 20
decimal-short n h = digits-few 19 n (omega arith)

-- ---- how much room it takes

pub small-room : (n : ℕ) → n < 10 → length (decimal n) ≡ 1
small-room n h = ap length (decimal-small n h)

pub more_room : (n : ℕ) → 10 ≤ n → length (decimal n) ≡ length (decimal (n / 10)) + 1
more_room n h = ap length (decimal-more n h) ∙ length-append (decimal (n / 10)) ((48 + n % 10) ∷ [])

-- ---- it is put digit by digit

pub put_small : (at n d : ℕ) (old : List ℕ) → n < 10 → d ≡ 48 + n → at < length old → Put at (decimal n) old (set old at d) (at + 1)
put_small at n d old h e l = rw (decimal-small n h, e) (one at (48 + n) (at + 1) old l refl)

pub put-more : {at end : ℕ} (n d : ℕ) {old mid : List ℕ} → 10 ≤ n → d ≡ 48 + n % 10 → Put at (decimal (n / 10)) old mid end → end < length old → Put at (decimal n) old (set mid end d) (end + 1)
put-more {at} {end} n d {old} {mid} h e p l =
    rw (decimal-more n h, e) (joined p (one end (48 + n % 10) (end + 1) mid (omega (arith, kept p (omega arith))) refl) (omega arith))
