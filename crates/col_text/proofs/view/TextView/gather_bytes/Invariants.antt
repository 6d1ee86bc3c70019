use Rattle.std.proofs.Common.{◌≡◌, take}
use Rattle.std.specs.List.{concat}
use Rattle.col_text.specs.Text.{texts_at}
use Rattle.col_text.proofs.view.TextView.gather_bytes.Given as goal

abbrev pub invariant-loop-i : goal.invariant-loop-i
invariant-loop-i l = l.bytes.items ≡ concat (texts_at l.self (take l.i-index l.at))
