-- The answer of a call goes by what the numbers that it is lent mean, however they are held. Assumes nothing.
use Prim.Native.Nat.{ℕ}
use mathlib.Core.Path.{◌≡◌, refl, ap, ap₂, ◌∙◌}
use mathlib.Core.Bool.{Bool, ◌||◌}
use mathlib.Core.List.{List, [], ◌∷◌, map}
use Rattle.std.specs.Prelude.{Option, None, Some, option_map}
use lib.ListN.{length-map}
use Rattle.basics.specs.Options.{present}
use Rattle.basics.specs.Lists.{is_empty, any}
use Rattle.basics.proofs.ListLaws.{take-map}
use Rattle.definitions.specs.Domain.{is_penalty, is_number, is_closed, closed_apart, is_leg}
use Rattle.definitions.specs.Sheet.{WindowOf, BreakOf, CustomerOf, SheetOf, Sheet, records, map_window, map_break, map_customer, map_sheet, soft, any_soft}
use Rattle.definitions.specs.Lent.{Lent, whole, whole_sheet, Call}
use Rattle.definitions.specs.Refusals.{unfit, bad_optional, bad_break, bad_window, bad_customer, bad_depot, bad_sheet, out_of_range, window_falls, break_falls, pairs_fall, disagree, closures_differ, any_closed, refusals, refusal_of}
use Rattle.definitions.specs.Answers.{unless_refused, answer}

-- ---- maps

module _ {A B : Type 0} (g : A → B) where
  any-map : (p : A → Bool) (q : B → Bool) → ((x : A) → q (g x) ≡ p x) → (l : List A) → any q (map g l) ≡ any p l
  any-map p q h [] = refl
  any-map p q h (x ∷ l) = ap₂ ◌||◌ (h x) (any-map p q h l)

  map-map : {C : Type 0} (f : B → C) (h : A → C) → ((x : A) → f (g x) ≡ h x) → (l : List A) → map f (map g l) ≡ map h l
  map-map f h e [] = refl
  map-map f h e (x ∷ l) = ap₂ (λ (y : _) (r : List _). y ∷ r) (e x) (map-map f h e l)

  map-held : {C : Type 0} (f : B → C) (h : A → C) → ((x : A) → f (g x) ≡ h x) → (o : Option A) → option_map f (option_map g o) ≡ option_map h o
  map-held f h e None = refl
  map-held f h e (Some x) = ap Some (e x)

  present-map : (o : Option A) → present (option_map g o) ≡ present o
  present-map None = refl
  present-map (Some x) = refl

  empty-map : (l : List A) → is_empty (map g l) ≡ is_empty l
  empty-map [] = refl
  empty-map (x ∷ l) = refl

-- a number that is held as what it means
abbrev pub itself : Option ℕ → Option ℕ
itself o = o

module _ {F : Type 0} (value : F → Option ℕ) where
  -- what is lent, with what each number means in its place
  abbrev pub meant : Lent F → Lent (Option ℕ)
  meant l = record { sheet = map_sheet value l.sheet; tour = l.tour; calls = l.calls; ends = l.ends; breaks = l.breaks; rooms = l.rooms }

  -- ---- the tests

  limit-meant : (p : ℕ → Bool) (o : Option F) → bad_optional itself p (option_map value o) ≡ bad_optional value p o
  limit-meant p None = refl
  limit-meant p (Some x) = refl

  break-meant : (b : Option (BreakOf F)) → bad_break itself (option_map (map_break value) b) ≡ bad_break value b
  break-meant None = refl
  break-meant (Some b) = refl

  window-meant : (w : Option (WindowOf F)) → bad_window itself (option_map (map_window value) w) ≡ bad_window value w
  window-meant None = refl
  window-meant (Some w) = refl

  customer-meant : (c : CustomerOf F) → bad_customer itself (map_customer value c) ≡ bad_customer value c
  customer-meant c = rw (window-meant c.window, limit-meant is_penalty c.penalty) refl

  depot-meant : (cs : List (CustomerOf F)) → bad_depot itself (map (map_customer value) cs) ≡ bad_depot value cs
  depot-meant [] = refl
  depot-meant (c ∷ cs) = rw (present-map (map_window value) c.window, present-map value c.penalty) refl

  break-falls : (b : Option (BreakOf F)) → break_falls itself (option_map (map_break value) b) ≡ break_falls value b
  break-falls None = refl
  break-falls (Some b) = refl

  window-falls : (c : CustomerOf F) → window_falls itself (map_customer value c).window ≡ window_falls value c.window
  window-falls c = go c.window
    where
      go : (w : Option (WindowOf F)) → window_falls itself (option_map (map_window value) w) ≡ window_falls value w
      go None = refl
      go (Some w) = refl

  disagree-meant : (ds ts : List F) → disagree itself (map value ds) (map value ts) ≡ disagree value ds ts
  disagree-meant [] ts = refl
  disagree-meant (d ∷ ds) [] = refl
  disagree-meant (d ∷ ds) (t ∷ ts) = ap (λ (b : Bool). closed_apart (whole value d) (whole value t) || b) (disagree-meant ds ts)

  soft-meant : (c : CustomerOf F) → soft (map_customer value c) ≡ soft c
  soft-meant c = rw (present-map (map_window value) c.window, present-map value c.penalty) refl

  module _ (s : SheetOf F) where
    records-meant : records (map_sheet value s) ≡ map (map_customer value) (records s)
    records-meant = take-map (map_customer value) s.head.places s.customers

    bad-meant : bad_sheet itself (map_sheet value s) ≡ bad_sheet value s
    unfolding bad_sheet
    bad-meant =
        rw (
          limit-meant is_number s.head.max_distance,
          limit-meant is_number s.head.max_duration,
          break-meant s.head.rest,
          records-meant,
          depot-meant (records s),
          any-map (map_customer value) (bad_customer value) (bad_customer itself) customer-meant (records s),
          any-map value (unfit value is_leg) (unfit itself is_leg) (λ x. refl) s.legs.distances,
          any-map value (unfit value is_leg) (unfit itself is_leg) (λ x. refl) s.legs.times,
        )
        refl

    pairs-meant : pairs_fall itself (map_sheet value s) ≡ pairs_fall value s
    unfolding pairs_fall
    pairs-meant =
        rw (break-falls s.head.rest, records-meant)
        (ap (λ (b : Bool). break_falls value s.head.rest || b)
        (any-map (map_customer value) (λ (c : CustomerOf F). window_falls value c.window)
        (λ (c : CustomerOf (Option ℕ)). window_falls itself c.window) window-falls (records s)))

    closures-meant : closures_differ itself (map_sheet value s).legs ≡ closures_differ value s.legs
    unfolding closures_differ
    closures-meant = disagree-meant s.legs.distances s.legs.times

    closed-meant : any_closed itself (map_sheet value s).legs ≡ any_closed value s.legs
    unfolding any_closed
    closed-meant =
        any-map value (λ (x : F). is_closed (whole value x)) (λ (o : Option ℕ). is_closed (whole itself o)) (λ x. refl) s.legs.distances

    pay-meant : any_soft (records (map_sheet value s)) ≡ any_soft (records s)
    unfolding any_soft
    pay-meant = rw records-meant (any-map (map_customer value) soft soft soft-meant (records s))

    -- ---- the sheet that is meant

    whole-window : (w : WindowOf F) → map_window (whole itself) (map_window value w) ≡ map_window (whole value) w
    whole-window w = refl

    whole-customer : (c : CustomerOf F) → map_customer (whole itself) (map_customer value c) ≡ map_customer (whole value) c
    whole-customer c =
        λ i.
        record {
          demand = c.demand;
          service = whole value c.service;
          window = map-held (map_window value) (map_window (whole itself)) (map_window (whole value)) whole-window c.window i;
          penalty = map-held value (whole itself) (whole value) (λ x. refl) c.penalty i;
        }

    whole-meant : whole_sheet itself (map_sheet value s) ≡ whole_sheet value s
    unfolding whole_sheet
    whole-meant =
        λ i.
        record {
          head =
              record {
                places = s.head.places;
                capacity = s.head.capacity;
                fixed = whole value s.head.fixed;
                max_distance = map-held value (whole itself) (whole value) (λ x. refl) s.head.max_distance i;
                max_duration = map-held value (whole itself) (whole value) (λ x. refl) s.head.max_duration i;
                rest = map-held (map_break value) (map_break (whole itself)) (map_break (whole value)) (λ b. refl) s.head.rest i;
              };
          customers =
              (ap (map (map_customer (whole itself))) records-meant
              ∙ map-map (map_customer value) (map_customer (whole itself)) (map_customer (whole value)) whole-customer (records s)) i;
          legs =
              record {
                distances = map-map value (whole itself) (whole value) (λ x. refl) s.legs.distances i;
                times = map-map value (whole itself) (whole value) (λ x. refl) s.legs.times i;
              };
        }

  -- ---- the refusal, and the answer

  refusal-meant : (k : Call) (l : Lent F) → refusal_of itself k (meant l) ≡ refusal_of value k l
  unfolding refusal_of refusals out_of_range
  refusal-meant k l =
      let s = l.sheet in
      rw (
        length-map s.customers (map_customer value),
        length-map s.legs.distances value,
        length-map s.legs.times value,
        empty-map value s.legs.times,
        bad-meant s,
        pairs-meant s,
        closures-meant s,
        present-map (map_break value) s.head.rest,
        pay-meant s,
        closed-meant s,
      )
      refl

  pub answer-meant : {A : Type 0} (k : Call) (result : Sheet → A) (l : Lent F) → answer itself k result (meant l) ≡ answer value k result l
  unfolding answer
  answer-meant k result l = λ i. unless_refused (refusal-meant k l i) (result (whole-meant l.sheet i))
