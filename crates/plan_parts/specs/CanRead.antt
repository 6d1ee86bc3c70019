-- What a reader asks of what goes one level further down.
use Rattle.std.specs.Prelude.{ℕ, ◌≤◌}
use Rattle.plan_parts.specs.declared.deeper.Deeper.{Ghosts}

-- it reads the relations and expressions in a message that may have so many levels of messages below it
pub record CanRead {D : Type 0} (reads : Ghosts D) (deeper : D) (below : ℕ) : Type 0 where
  pub ready : reads.is_ready deeper
  pub deep : below ≤ reads.levels deeper
