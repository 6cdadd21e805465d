-- What the reading of accepted bytes into arrays leaves in them. Assumes nothing.
use Prim.Native.Nat.{ℕ, ◌≤◌}
use mathlib.Core.Path.{◌≡◌, sym, ap, ◌∙◌}
use mathlib.Core.List.{List, map}
use lib.ListN.{length, take, length-map}
use Rattle.whole.specs.Whole.{fl}
use Rattle.cut_theory.specs.Tab.{most_cut}
use Rattle.definitions.specs.Sheet.{Sheet}
use Rattle.definitions.specs.Words.{words_of}
use Rattle.definitions.specs.Reader.{sheet, read, sheet_of, tour_of}
use Rattle.definitions.specs.Room.{written}
use Rattle.models.specs.Records.{customer_of, head_of}
use Rattle.models.specs.Image.{fl_customer}
use Rattle.sheet_read.specs.declared.read.Contents.{Contents}
use Rattle.sheet_read.specs.Summary.{Counted, held_counts}
use Rattle.sheet_read.specs.Fitting.{fitting}
use Rattle.sheet_read.specs.Parts.{floats_of, depots}
use Rattle.sheet_read.proofs.Accepted.{distances-whole, times-whole, tour-whole, customers-whole}
use Rattle.cut_table.proofs.Fronts.{front, inside, counted}
use Rattle.sheet_loaded.specs.declared.load.Loaded.{Loaded}
use Rattle.sheet_loaded.specs.Held.{Held, Found}
use Rattle.sheet_loaded.specs.Loaded.{Arrays, Holds}
use Rattle.sheet_loaded.proofs.Reading.{found-is, holds}

-- what is written as far as there is room is written whole
whole_of : {A : Type 0} (part old : List A) {all new : List A} → fitting part old ≡ all → new ≡ written (fitting part old) old → new ≡ written all old
whole_of part old e w = w ∙ ap (λ (x : List _). written x old) e

module _ (bytes : List ℕ) (l : Loaded) (old new : Arrays) where
  -- what the functions that write each part ensure
  pub record Written : Type 0 where
    pub distances-are : new.distances ≡ written (fitting (floats_of 0xC bytes) old.distances) old.distances
    pub times-are : new.times ≡ written (fitting (floats_of 0xD bytes) old.times) old.times
    pub tour-is : new.tour ≡ written (fitting (tour_of (words_of bytes)) old.tour) old.tour
    pub customers-are : map customer_of l.customers ≡ written (fitting (map fl_customer (sheet_of (words_of bytes)).customers) depots) depots

  -- the arrays have room for the largest sheet
  pub record Large : Type 0 where
    pub distances : 4096 ≤ length old.distances
    pub times : 4096 ≤ length old.times
    pub tour : most_cut ≤ length old.tour

  -- head and counts are taken from what was found
  pub record Taken (found : Contents) : Type 0 where
    pub head-is : l.head ≡ found.head
    pub far-is : l.distance_count ≡ found.distances
    pub long-is : l.time_count ≡ found.times
    pub calls_are : l.calls ≡ found.calls

  module _ (W : Written) (R : Large) (found : Contents) (T : Taken found) (f : Found bytes found) (s : Sheet) (calls : List ℕ) (e : read bytes ≡ sheet s calls) where
    abbrev c : Counted
    c = held_counts found

    far-count : l.distance_count ≡ length (map fl s.legs.distances)
    far-count = T.far-is ∙ ap (λ (x : Counted). x.distances) (found-is bytes s calls e c f) ∙ sym (length-map s.legs.distances fl)

    long-count : l.time_count ≡ length (map fl s.legs.times)
    long-count = T.long-is ∙ ap (λ (x : Counted). x.times) (found-is bytes s calls e c f) ∙ sym (length-map s.legs.times fl)

    calls_count : l.calls ≡ length calls
    calls_count = T.calls_are ∙ ap (λ (x : Counted). x.calls) (found-is bytes s calls e c f)

    distances-are : new.distances ≡ written (map fl s.legs.distances) old.distances
    distances-are = whole_of (floats_of 0xC bytes) old.distances (distances-whole bytes s calls e old.distances R.distances) W.distances-are

    times-are : new.times ≡ written (map fl s.legs.times) old.times
    times-are = whole_of (floats_of 0xD bytes) old.times (times-whole bytes s calls e old.times R.times) W.times-are

    tour-is : new.tour ≡ written calls old.tour
    tour-is = whole_of (tour_of (words_of bytes)) old.tour (tour-whole bytes s calls e old.tour R.tour) W.tour-is

    customers-are : map customer_of l.customers ≡ written (map fl_customer s.customers) depots
    customers-are = W.customers-are ∙ ap (λ (x : List _). written x depots) (customers-whole bytes s calls e)

    pub loaded : Holds s calls l old new
    loaded =
        record {
          far-count = far-count;
          long-count = long-count;
          calls_count = calls_count;
          distances-are = distances-are;
          times-are = times-are;
          tour-is = tour-is;
          customers-are = customers-are;
          in_memory =
              holds bytes s calls e l.head (ap head_of T.head-is ∙ ap (λ (x : Counted). x.head) (found-is bytes s calls e c f)) l.customers customers-are
              (take l.calls new.tour) (front l.calls calls old.tour new.tour calls_count tour-is)
              (take l.distance_count new.distances) (take l.time_count new.times)
              (front l.distance_count (map fl s.legs.distances) old.distances new.distances far-count distances-are)
              (front l.time_count (map fl s.legs.times) old.times new.times long-count times-are);
        }

-- ---- what callers of `load` ask for

module _ {s : Sheet} {calls : List ℕ} {l : Loaded} {old new : Arrays} (H : Holds s calls l old new) where
  -- the parts at the front of the arrays lie inside them, and are as long as is counted
  pub far-inside : l.distance_count ≤ length new.distances
  far-inside = inside l.distance_count (map fl s.legs.distances) old.distances new.distances H.far-count H.distances-are

  pub far-counted : l.distance_count ≡ length (take l.distance_count new.distances)
  far-counted = counted l.distance_count (map fl s.legs.distances) old.distances new.distances H.far-count H.distances-are

  pub long-inside : l.time_count ≤ length new.times
  long-inside = inside l.time_count (map fl s.legs.times) old.times new.times H.long-count H.times-are

  pub long-counted : l.time_count ≡ length (take l.time_count new.times)
  long-counted = counted l.time_count (map fl s.legs.times) old.times new.times H.long-count H.times-are

  pub calls-inside : l.calls ≤ length new.tour
  calls-inside = inside l.calls calls old.tour new.tour H.calls_count H.tour-is

  pub calls-counted : l.calls ≡ length (take l.calls new.tour)
  calls-counted = counted l.calls calls old.tour new.tour H.calls_count H.tour-is

  -- the calls at the front are the tour
  pub calls_are : take l.calls new.tour ≡ calls
  calls_are = front l.calls calls old.tour new.tour H.calls_count H.tour-is

  pub held : Held (take l.calls new.tour) l.head l.customers (take l.distance_count new.distances) (take l.time_count new.times)
  held = (s, H.in_memory)
