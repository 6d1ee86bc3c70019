-- The last check of a plan.
use Rattle.std.specs.Prelude.{ℕ, List, ◌==◌, length}
use Rattle.plan_typed.specs.declared.rel.Rel.{Rel}
use Rattle.plan_typed.specs.declared.rel.Typed.{Typed}
use Rattle.plan_typed.specs.Types.{columns_of}
use Rattle.plan_verdict.specs.declared.rule.Rule.TheVariants as rules
use Rattle.plan_verdict.specs.Checking.{Checking, ◌>>=◌, ◌>>◌, accept, must}

-- a relation with a name for each column
abbrev pub named : List (List ℕ) → Rel → Checking Typed
named names rel = do
  must 0 (length names == length (columns_of rel)) rules.BadNames
  accept (record { rel = rel; names = names })
