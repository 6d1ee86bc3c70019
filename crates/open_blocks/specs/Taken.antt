-- What is added, one for each, and the readers that are given back.
use Rattle.std.specs.Prelude.{◌≡◌, ℕ, ◌+◌, ◌-◌, List, ◌++◌}
use Rattle.std.specs.List.{AllZip}

-- more stands behind what stood there, one for each of these
pub record Adds {X Y : Type 0} (P : X → Y → Type 0) (xs : List X) (old new : List Y) : Type 0 where
  pub more : List Y
  pub added : new ≡ old ++ more
  pub each_is : AllZip P xs more

-- of so many readers so many are kept, and the others were given back
pub record IsKept (before now all kept : ℕ) : Type 0 where
  pub back : ℕ
  pub lent : now ≡ before - back
  pub whole : back + kept ≡ all
