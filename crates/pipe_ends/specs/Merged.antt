-- What is known of each of several streams, and of all of them.
use Rattle.std.specs.Prelude.{◌≡◌, List, [], ◌∷◌}
use Rattle.sub_types.specs.Stream.{Stream, followed_by, glue}
use Rattle.plan_denote.specs.Rows.{Row}

-- one by one
abbrev pub AreOf : {P : Type 0} → (Stream Row → P → Type 0) → List (Stream Row) → List P → Type 0
AreOf of [] [] = Unit {0}
AreOf of (rows ∷ streams) (known ∷ rest) = of rows known × AreOf of streams rest
AreOf of _ _ = ⊥

-- of the whole, something is known of the first rows, and what is left is of those behind them
pub record IsSoFar {P : Type 0} (of : Stream Row → P → Type 0) (whole : Stream Row) (known : P) (left : List P) : Type 0 where
  pub rows : Stream Row
  pub is : of rows known
  pub streams : List (Stream Row)
  pub later : AreOf of streams left
  pub whole_is : followed_by rows (glue streams) ≡ whole
