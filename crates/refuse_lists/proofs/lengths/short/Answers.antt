-- `lengths::short` meets its contract: lists that are as many are compared one by one. Assumes nothing.
use Rattle.std.proofs.Common.{◌≡◌, ℕ, ◌<◌, ◌≤◌, Bool, true, List, [], ◌∷◌, length, refl, ap, ◌∙◌, arith, nat_lt, ◌||◌, rules, tests}
use Rattle.std.specs.List.{list_any, zip}
use Rattle.std.proofs.lemmas.Bool.Decides.{nat_tests}
use Rattle.std.proofs.lemmas.Iterator.{YieldsList-from_slice, YieldsList-from_zip}
use Rattle.std.proofs.lemmas.Iterator.Consumers.{YieldsList-at}
use Rattle.std.proofs.lemmas.Iterator.Search.{any_from_yields_List}
use Rattle.definitions.specs.Room.{short}
use Rattle.refuse_lists.proofs.lengths.short.Goals as goal

abbrev pub room_is_less : ℕ × ℕ → Bool
room_is_less p = nat_lt p.1 p.0

fewer_is_short : (needs rooms : List ℕ) → length rooms < length needs → true ≡ short needs rooms
fewer_is_short [] rooms h = absurd (omega arith)
fewer_is_short (n ∷ needs) [] h = refl
fewer_is_short (n ∷ needs) (r ∷ rooms) h = let e = fewer_is_short needs rooms (omega arith) in grind (arith, nat_tests, e)

any_is_short : (needs rooms : List ℕ) → length needs ≤ length rooms → list_any room_is_less (zip needs rooms) ≡ short needs rooms
any_is_short [] rooms h = refl
any_is_short (n ∷ needs) [] h = absurd (omega arith)
any_is_short (n ∷ needs) (r ∷ rooms) h = ap (λ b. nat_lt r n || b) (any_is_short needs rooms (omega arith))

pub returns-then-rooms-needs : goal.returns-then-rooms-needs
returns-then-rooms-needs c = let e = fewer_is_short c.args.needs.now c.args.rooms.now c.if-rooms-needs.true in grind (arith, nat_tests)

pub returns-else-rooms-needs : goal.returns-else-rooms-needs
returns-else-rooms-needs c =
    let road = YieldsList-from_zip (YieldsList-at c.zip.ensures.first (YieldsList-from_slice c.args.needs.now c.iter.ensures.rest)) (YieldsList-from_slice c.args.rooms.now c.zip.ensures.second.0) in
    any_from_yields_List room_is_less c.any.new.self _ _ c.any.ensures.ran road (λ x b q k. search (rules, tests)) ∙ any_is_short c.args.needs.now c.args.rooms.now c.if-rooms-needs.false
