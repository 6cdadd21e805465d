-- Costs that are pairs, compared by the first part and then by the second.
use Rattle.std.specs.Prelude.{Bool, not, ◌&&◌, ◌||◌}
use Rattle.cut_theory.specs.Runs.{Runs}

module _ {C D : Type 0} (P : Runs C) (Q : Runs D) where
  abbrev pub lower_lex : C × D → C × D → Bool
  lower_lex a b = P.lower a.0 b.0 || (not (P.lower b.0 a.0) && Q.lower a.1 b.1)

  -- the runs are those of P
  abbrev pub lex : Runs (C × D)
  lex =
      record {
        lower = lower_lex;
        start = (P.start, Q.start);
        top = (P.top, Q.top);
        legal = P.legal;
        ext = λ c i j. (P.ext c.0 i j, Q.ext c.1 i j);
      }
