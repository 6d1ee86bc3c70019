use Rattle.std.proofs.Common.{◌≡◌, drop, length}
use Rattle.aggregate.specs.Finals.{finals_at}
use Rattle.aggregate.proofs.FinalLaws.{behind}
use Rattle.aggregate.proofs.finals.finals.Given as goal

-- the values so far, and those of the measures that are left
abbrev pub invariant-loop-measure : goal.invariant-loop-measure
invariant-loop-measure l = record {
  values : finals_at l.group l.measures l.columns ≡ behind l.values (finals_at l.group (drop l.place l.measures) (drop l.place l.columns));
  place : l.place ≡ l.measure-index;
  all : length l.columns ≡ length l.measures;
}
