-- `two_opt::reverse_if_allowed` meets its contract. Assumes nothing.
-- what the guard says of the reversal
use native.Mathlib.Omega.{arith}
use mathlib.Core.Path.{◌≡◌, sym, ap, ◌∙◌}
use Rattle.distance.specs.Lookup.{number_f}
use Rattle.cut_stops.specs.Stops.{numbers, listed}
use Rattle.two_opt.specs.Rules.{rules_of}
use Rattle.improve_base.specs.Prefix.{prefix_of}
use Rattle.improve_base.specs.Route.{far_f}
use Rattle.two_opt.specs.TwoOpt.{too_far_f}
use Rattle.two_opt.proofs.Trying.{made, put_back, undone, refused, allowed-from, far-asked}
use Rattle.two_opt.proofs.two_opt.reverse_if_allowed.Goals as goal
use Rattle.two_opt.proofs.two_opt.reverse_if_allowed.Goals.{After-is_too_far}

guard : (c : After-is_too_far) → let a = c.args in
    too_far_f (number_f a.distances.now a.size) (rules_of a.rules) a.i a.j a.current.now ≡ c.is_too_far.result
guard c =
    let S = c in
    let a = S.args in
    let told = S.requires.fact_2 in
    far-asked (number_f a.distances.now a.size) (rules_of a.rules) a.i a.j a.current.now a.delta told.0 a.tried.far told.1 _ c.is_too_far.ensures

pub returns : goal.returns
returns c =
    let tested = c in
    let asked = tested in
    let reversed = asked in
    let asked-far = reversed in
    let S = asked-far in
    let a = S.args in
    let t = listed (numbers a.codes.now a.figures.now) a.distances.now a.times.now a.size in
    let s = rules_of a.rules in
    let yes = allowed-from t s a.i a.current.now _ (prefix_of a.prefix) (omega (arith, S.requires.long.1, S.requires.long.2)) S.requires.fact _ asked.is_allowed.ensures
    ∙ (tested.if-not-is_allowed.false) in
    let near = guard (goal.at.returns c).After-is_too_far ∙ reversed.if-is_too_far.false in
    record { improved_after = made t s a.i a.j a.current.now a.tried.improved _ reversed.reverse.ensures near yes; far_value = c.limited_distance-far.ensures }

pub returns-then-is_too_far : goal.returns-then-is_too_far
returns-then-is_too_far c =
    let S = c in
    let a = S.args in
    let t = listed (numbers a.codes.now a.figures.now) a.distances.now a.times.now a.size in
    record { improved_after = refused t (rules_of a.rules) a.i a.j a.current.now a.tried.improved (guard (goal.at.returns-then-is_too_far c).After-is_too_far ∙ c.if-is_too_far.true); far_value = S.requires.fact_2.1 }

pub returns-then-not-is_allowed : goal.returns-then-not-is_allowed
returns-then-not-is_allowed c =
    let tested = c in
    let asked = tested in
    let reversed = asked in
    let S = reversed in
    let a = S.args in
    let t = listed (numbers a.codes.now a.figures.now) a.distances.now a.times.now a.size in
    let s = rules_of a.rules in
    let no = allowed-from t s a.i a.current.now _ (prefix_of a.prefix) (omega (arith, S.requires.long.1, S.requires.long.2)) S.requires.fact _ asked.is_allowed.ensures
    ∙ (tested.if-not-is_allowed.true) in
    let near = guard (goal.at.returns-then-not-is_allowed c).After-is_too_far ∙ reversed.if-is_too_far.false in
    let again = c.reverse-then-not-is_allowed.ensures in
    let back = put_back t s a.i a.j a.current.now a.tried.improved _ reversed.reverse.ensures S.requires.long.1 S.requires.long.2 _ again in record { improved_after = undone t s a.i a.j a.current.now a.tried.improved _ reversed.reverse.ensures near S.requires.long.1 S.requires.long.2 no _ again; far_value = S.requires.fact_2.1 ∙ ap (far_f s.limits (number_f a.distances.now a.size)) (sym back) }
