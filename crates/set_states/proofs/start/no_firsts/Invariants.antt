use Rattle.set_states.specs.States.{AreNone}
use Rattle.set_states.proofs.start.no_firsts.Given as goal

-- the measures so far
abbrev pub invariant-loop : goal.invariant-loop
invariant-loop l = AreNone l.counter l.firsts.items
