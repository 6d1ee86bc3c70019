use Rattle.std.proofs.Common.{◌≡◌, ◌++◌, drop, length}
use Rattle.sub_types.specs.Optional.{optional}
use Rattle.col_text.specs.Text.{pieces, Rise}
use Rattle.arrow_decode.proofs.text.without_nulls.Given as goal

-- the values so far, and those that are left
abbrev pub invariant-loop-i : goal.invariant-loop-i
invariant-loop-i l = record {
  values : l.builder ++ optional (pieces l.start (drop l.i l.ends) l.bytes) (drop l.i l.valid) ≡ optional (pieces 0 l.ends l.bytes) l.valid;
  rising : Rise l.start (drop l.i l.ends) (length l.bytes);
}
