use Rattle.std.proofs.Common.{◌≡◌, None, take, drop}
use Rattle.plan_denote.specs.Denote.{measure_of}
use Rattle.group_laws.specs.Columns.{members}
use Rattle.group_inputs.specs.Taking.{AreWholly}
use Rattle.group_inputs.proofs.EachLaws.{IsLeft, members_short, members_full}
use Rattle.group_inputs.proofs.taking.takings.Given as goal

-- the measures so far, and those that are left
abbrev pub invariant-loop-measure : goal.invariant-loop-measure
invariant-loop-measure l = record {
  left : IsLeft (λ measure. members (measure_of measure)) (λ measure. members_short (measure_of measure)) (λ measure. members_full (measure_of measure)) l.measures (drop l.measure-index l.measures) l.batch l.fn.before l.state;
  wholly : l.state.stop ≡ None → AreWholly (take l.measure-index l.measures) l.batch l.fn.before.rows l.all.items;
}
