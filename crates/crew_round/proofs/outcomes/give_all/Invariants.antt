use Rattle.std.proofs.Common.{◌≡◌, ◌++◌, map, drop}
use Rattle.std.specs.List.{flat_map}
use Rattle.crew_round.proofs.outcomes.give_all.Given as goal

abbrev pub invariant-loop-labour : goal.invariant-loop-labour
invariant-loop-labour g l = record {
  about : map g.L.Labour.about l.labours ≡ map g.L.Labour.about l.fn.labours;
  loaded : map g.L.Labour.loaded l.labours ≡ map g.L.Labour.loaded l.fn.labours;
  failures : map g.L.Labour.failures l.labours ≡ map g.L.Labour.failures l.fn.labours;
  given : l.outs.items ++ flat_map g.L.Labour.results (drop l.labour-index l.labours) ≡ l.fn.outs.items ++ flat_map g.L.Labour.results l.fn.labours;
}
