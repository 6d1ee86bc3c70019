-- What is added, one for each.
use Rattle.std.specs.Prelude.{◌≡◌, List, ◌++◌}
use Rattle.std.specs.List.{AllZip}

-- more stands behind what stood there, one for each of these
pub record Adds {X Y : Type 0} (P : X → Y → Type 0) (xs : List X) (old new : List Y) : Type 0 where
  pub more : List Y
  pub added : new ≡ old ++ more
  pub each_is : AllZip P xs more
