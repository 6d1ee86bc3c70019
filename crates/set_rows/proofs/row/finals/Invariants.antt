use Rattle.std.proofs.Common.{◌≡◌, drop, length, map}
use Rattle.set_states.specs.States.{measure_in}
use Rattle.aggregate.specs.Finals.{finals_at}
use Rattle.aggregate.proofs.FinalLaws.{behind}
use Rattle.set_rows.proofs.row.finals.Given as goal

-- the values so far, and those of the measures that are left
abbrev pub invariant-loop-one : goal.invariant-loop-one
invariant-loop-one l = record {
  values : finals_at l.group (map measure_in l.measures) l.columns ≡ behind l.values (finals_at l.group (drop l.place (map measure_in l.measures)) (drop l.place l.columns));
  place : l.place ≡ l.one-index;
  all : length l.columns ≡ length l.measures;
}
