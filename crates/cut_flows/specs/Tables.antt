-- How many tables pipelines build.
use Rattle.std.specs.Prelude.{ℕ, ◌+◌, List, [], ◌∷◌}
use Rattle.plan_pipes.specs.declared.pipe.Breaker.{Breaker}
use Rattle.plan_pipes.specs.declared.pipe.Breaker.TheVariants as breakers
use Rattle.plan_pipes.specs.declared.pipe.Pipe.{Pipe}

abbrev pub tables_of : Breaker → ℕ
tables_of (breakers.Build spec) = 1
tables_of _ = 0

abbrev pub tables_in : List Pipe → ℕ
tables_in [] = 0
tables_in (pipe ∷ pipes) = tables_of pipe.breaker + tables_in pipes
