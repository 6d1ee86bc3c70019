use Rattle.std.proofs.Common.{◌≡◌, take, true}
use Rattle.std.specs.List.{list_all}
use Rattle.arrow_meta.specs.Values.{has_digits}
use Rattle.arrow_decode.proofs.fixed.all_have_digits.Given as goal

abbrev pub invariant-loop-i : goal.invariant-loop-i
invariant-loop-i l = list_all (has_digits l.fn.precision) (take l.i l.column) ≡ true
