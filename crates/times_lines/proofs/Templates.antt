-- The templates of the lines, filled, are the definitions' texts. Assumes nothing.
use Prim.Native.Nat.{ℕ, ◌-◌}
use mathlib.Core.Path.{◌≡◌, sym, ap, subst, ◌∙◌}
use mathlib.Core.Bool.{true, false}
use mathlib.Core.List.{List, [], ◌∷◌, ◌++◌}
use Rattle.std.specs.Prelude.{Some}
use lib.Dec.{leb}
use Rattle.definitions.specs.Listing.{text, end_of_line}
use Rattle.definitions.specs.Run.{Totals}
use Rattle.definitions.specs.Visits.{window_shut, break_not_placeable, over_capacity, over_distance, over_duration, over_wheelchairs, closed_leg}
use Rattle.listing_lines.specs.Put.{Put}
use Rattle.texts.specs.MarkText.{figure}
use Rattle.texts.specs.TimesText.{Pause, Told, rest_words, window_words, stop_line, totals_line, violation_line}
use Rattle.templates.specs.Fill.{fill}
use Rattle.templates.proofs.Filling.{fill_then, fill-then}
use Rattle.templates.proofs.Chains.{chained}

-- a text by another name
pub put_as : {at r : ℕ} {a b old new : List ℕ} → a ≡ b → Put at a old new r → Put at b old new r
put_as {at} {r} {a} {b} {old} {new} e p = subst (λ (l : List ℕ). Put at l old new r) e p

-- ---- a call

pub rest-is : (p : Pause) → fill (text " break % to %,") (p.from ∷ p.until ∷ []) ≡ rest_words (Some p)
rest-is p = sym (chained (figure " break" p.from) (figure " to" p.until ∷ []) (text ","))

module _ (ready due begin : ℕ) where
  abbrev words : List ℕ
  words = window_words (Some (record { ready = ready; due = due })) begin

  pub slack-is : leb begin due ≡ true → fill (text ", window % to %, slack %\n") (ready ∷ due ∷ (due - begin) ∷ []) ≡ words
  slack-is e = rw e (sym (chained (figure ", window" ready) (figure " to" due ∷ figure ", slack" (due - begin) ∷ []) end_of_line))

  pub late_is : leb begin due ≡ false → fill (text ", window % to %, late %\n") (ready ∷ due ∷ (begin - due) ∷ []) ≡ words
  late_is e = rw e (sym (chained (figure ", window" ready) (figure " to" due ∷ figure ", late" (begin - due) ∷ []) end_of_line))

pub stop_is : (n k : ℕ) (x : Told)
    → fill (text "run % call % customer %: arrive %,") (n ∷ k ∷ x.customer ∷ x.arrival ∷ [])
    ++ (rest_words x.rest
    ++ (fill (text " serve %, leave %, seats %, wheelchairs %") (x.begin ∷ x.departure ∷ x.load.seats ∷ x.load.wheelchairs ∷ []) ++ window_words x.window x.begin))
    ≡ stop_line n k x
unfolding stop_line
stop_is n k x =
    let end = window_words x.window x.begin in
    let service = x.begin ∷ x.departure ∷ x.load.seats ∷ x.load.wheelchairs ∷ [] in
    let reached = n ∷ k ∷ x.customer ∷ x.arrival ∷ [] in
    ap (λ (l : List ℕ). fill (text "run % call % customer %: arrive %,") reached ++ (rest_words x.rest ++ l)) (fill-then (text " serve %, leave %, seats %, wheelchairs %") service end)
    ∙ fill-then (text "run % call % customer %: arrive %,") reached (rest_words x.rest ++ fill_then (text " serve %, leave %, seats %, wheelchairs %") service end)
    ∙ sym
    (chained (figure "run" n) (
    figure " call" k ∷ figure " customer" x.customer ∷ figure ": arrive" x.arrival ∷ text "," ∷ rest_words x.rest ∷ figure " serve" x.begin ∷ figure ", leave" x.departure
    ∷ figure ", seats" x.load.seats ∷ figure ", wheelchairs" x.load.wheelchairs ∷ []
    ) end)

-- ---- a run

pub totals-is : (n : ℕ) (t : Totals)
    → fill (text "run %: home at %, distance %, lateness %, pay %\n") (n ∷ t.duration ∷ t.distance ∷ t.lateness ∷ t.pay ∷ []) ≡ totals_line n t
unfolding totals_line
totals-is n t =
    sym (chained (figure "run" n) (figure ": home at" t.duration ∷ figure ", distance" t.distance ∷ figure ", lateness" t.lateness ∷ figure ", pay" t.pay ∷ []) end_of_line)

-- ---- a violation

module _ (n : ℕ) where
  pub shut-is : (customer readiness due : ℕ)
      → fill (text "run % customer %: window shut at %, ready at %\n") (n ∷ customer ∷ due ∷ readiness ∷ []) ≡ violation_line n (window_shut customer readiness due)
  unfolding violation_line
  shut-is customer readiness due =
      sym (chained (figure "run" n) (figure " customer" customer ∷ figure ": window shut at" due ∷ figure ", ready at" readiness ∷ []) end_of_line)

  pub unbroken-is : fill (text "run % without its break\n") (n ∷ []) ≡ violation_line n break_not_placeable
  unfolding violation_line
  unbroken-is = sym (chained (figure "run" n) (text " without its break" ∷ []) end_of_line)

  pub seats-is : (load capacity : ℕ) → fill (text "run % overloaded: % of % seats\n") (n ∷ load ∷ capacity ∷ []) ≡ violation_line n (over_capacity load capacity)
  unfolding violation_line
  seats-is load capacity = sym (chained (figure "run" n) (figure " overloaded:" load ∷ figure " of" capacity ∷ text " seats" ∷ []) end_of_line)

  pub far-is : (distance limit : ℕ) → fill (text "run % too far: % of %\n") (n ∷ distance ∷ limit ∷ []) ≡ violation_line n (over_distance distance limit)
  unfolding violation_line
  far-is distance limit = sym (chained (figure "run" n) (figure " too far:" distance ∷ figure " of" limit ∷ []) end_of_line)

  pub long-is : (duration limit : ℕ) → fill (text "run % too long: % of %\n") (n ∷ duration ∷ limit ∷ []) ≡ violation_line n (over_duration duration limit)
  unfolding violation_line
  long-is duration limit = sym (chained (figure "run" n) (figure " too long:" duration ∷ figure " of" limit ∷ []) end_of_line)

  pub wheelchairs-is : (load capacity : ℕ)
      → fill (text "run % overloaded: % of % wheelchair places\n") (n ∷ load ∷ capacity ∷ []) ≡ violation_line n (over_wheelchairs load capacity)
  unfolding violation_line
  wheelchairs-is load capacity = sym (chained (figure "run" n) (figure " overloaded:" load ∷ figure " of" capacity ∷ text " wheelchair places" ∷ []) end_of_line)

  pub closed_is : (leg : ℕ) → fill (text "run % leg %: no road\n") (n ∷ leg ∷ []) ≡ violation_line n (closed_leg leg)
  unfolding violation_line
  closed_is leg = sym (chained (figure "run" n) (figure " leg" leg ∷ text ": no road" ∷ []) end_of_line)
