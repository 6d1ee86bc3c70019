use Rattle.std.proofs.Common.{◌≡◌, take}
use Rattle.std.specs.List.{concat}
use Rattle.col_text.specs.Text.{picked}
use Rattle.col_text.proofs.narrow.NarrowTexts.gather_bytes.Given as goal

abbrev pub invariant-loop-i : goal.invariant-loop-i
invariant-loop-i l = l.bytes.items ≡ concat (picked l.self (take l.i-index l.at))
