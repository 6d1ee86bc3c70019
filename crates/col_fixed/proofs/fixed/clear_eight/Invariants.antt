use Rattle.std.proofs.Common.{◌≡◌, ◌≤◌, ◌+◌, ◌*◌, List, length}
use Rattle.col_fixed.specs.Column.{IsClearedBelow}
use Rattle.col_fixed.proofs.fixed.clear_eight.Given as goal

abbrev pub invariant-loop-i : goal.invariant-loop-i
invariant-loop-i g l =
    record {
      long : length l.values.items ≡ length l.valid;
      within : l.to ≤ length l.valid;
      from : 8 * l.place ≤ l.i;
      to : l.to ≤ 8 * l.place + 8;
      cleared : (start : List g.row.T.Denot) → IsClearedBelow g.T.Native.zero start l.initial.values.items l.valid (8 * l.place) → IsClearedBelow g.T.Native.zero start l.values.items l.valid l.i;
    }
