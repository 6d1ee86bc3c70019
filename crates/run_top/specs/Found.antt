-- What was found under the plan's name.
use Rattle.std.specs.Prelude.{◌≡◌, ℕ, ◌<◌, ◌≤◌, List, Option, Some, None, length}
use Rattle.run_top.specs.declared.plan.Found.{Found}
use Rattle.run_top.specs.declared.plan.Found.TheVariants.{Missing, TooLong, Plan}
use Rattle.run_top.specs.Answer.{MAX_PLAN}

abbrev pub IsFound : Found → Option (List ℕ) → Type 0
IsFound Missing file = file ≡ None
IsFound TooLong file = (bytes : List ℕ) × (file ≡ Some bytes) × (MAX_PLAN < length bytes)
IsFound (Plan bytes) file = file ≡ Some bytes.items

-- a plan that was read isn't too long
abbrev pub IsShort : Found → Type 0
IsShort (Plan bytes) = length bytes.items ≤ MAX_PLAN
IsShort _ = Unit {0}
