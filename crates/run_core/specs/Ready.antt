-- A run as its callers see it.
use Rattle.std.specs.Prelude.{ℕ, ◌≤◌}
use Rattle.run_core.specs.Machine.{Machine, Keeps}
use Rattle.run_core.specs.Memory.{machine_of, IsReady}
use Rattle.run_core.specs.declared.state.State.{State}

-- the state, and for how many steps there is room
pub record Ready : Type 0 where
  pub machine : Machine
  pub spare : ℕ

-- the state keeps what every state keeps, and there is the room that is told
pub record IsSound (s : State) (spare : ℕ) : Type 0 where
  pub kept : Keeps (machine_of s)
  pub room : 1 ≤ spare → IsReady s
