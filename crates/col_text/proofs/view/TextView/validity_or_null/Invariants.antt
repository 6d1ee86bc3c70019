use Rattle.std.proofs.Common.{◌≡◌, take, map, is_some}
use Rattle.col_text.specs.Text.{values_at}
use Rattle.col_text.proofs.view.TextView.validity_or_null.Given as goal

abbrev pub invariant-loop-i : goal.invariant-loop-i
invariant-loop-i l = l.bits ≡ map is_some (values_at l.self (take l.i-index l.at))
