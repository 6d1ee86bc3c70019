use Rattle.std.proofs.Common.{◌≡◌, drop}
use Rattle.plan_pipes.specs.Run.{through}
use Rattle.pipe_types.specs.Exact.{exact_steps}
use Rattle.pipe_steps.specs.Tables.{joins_of}
use Rattle.pipe_steps.proofs.stored_types.types_through.Given as goal

-- through the steps that are left the types so far are those of all
abbrev pub invariant-loop-step : goal.invariant-loop-step
invariant-loop-step l = through exact_steps (joins_of l.tables) (drop l.step-index l.steps) l.stored.items ≡ through exact_steps (joins_of l.tables) l.steps l.types
