use Rattle.std.proofs.Common.{◌≡◌, ◌&&◌, not, drop}
use Rattle.std.specs.Char.{is_ascii}
use Rattle.std.specs.List.{list_all}
use Rattle.arrow_decode.proofs.text.are_ascii.Given as goal

-- what is left tells whether all are
abbrev pub invariant-loop-byte : goal.invariant-loop-byte
invariant-loop-byte l = list_all is_ascii l.bytes ≡ (not l.is_high && list_all is_ascii (drop l.byte-index l.bytes))
