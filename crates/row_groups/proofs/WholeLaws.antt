-- What needs all rows of an input.
use Rattle.std.proofs.Common.{◌≡◌, List, true, false, Option, Some, None, ap}
use Rattle.std.specs.Prelude.{is_some}
use Rattle.sub_types.specs.declared.fault.Fault.{Fault}
use Rattle.sub_types.specs.Stream.{Stream, ended}
use Rattle.plan_denote.specs.Rows.{from_all}

-- a fault leaves no rows
pub of_fault : {A B : Type 0} (given : List A → Stream B) (rows : List A) (end : Option Fault) (all : Stream A) → record { rows = rows; end = end } ≡ all → is_some end ≡ true → ended end ≡ from_all given all
of_fault given rows None all e some = absurd (cc)
of_fault given rows (Some fault) all e some = ap (from_all given) e

-- all rows are there
pub of_all : {A B : Type 0} (given : List A → Stream B) (rows : List A) (end : Option Fault) (all : Stream A) → record { rows = rows; end = end } ≡ all → is_some end ≡ false → given rows ≡ from_all given all
of_all given rows None all e none = ap (from_all given) e
of_all given rows (Some fault) all e none = absurd (cc)
