use Rattle.std.proofs.Common.{◌≡◌, chars, drop, encode_utf8_all}
use Rattle.std.specs.Str.Iter.{chars_rest}
use Rattle.eval_values.proofs.parts.after_chars.Given as goal

abbrev pub invariant-loop-passed : goal.invariant-loop-passed
invariant-loop-passed l = chars_rest l.rest ≡ encode_utf8_all (drop l._passed (chars l.text))
