use Rattle.std.proofs.Common.{◌∙◌, sym, arith}
use Rattle.std.proofs.lemmas.List.{at_drop_all}
use Rattle.group_numbers.specs.Codes as spec
use Rattle.group_numbers.proofs.CodeLaws.{digits_from}
use Rattle.group_numbers.proofs.codes.with_bytes.Goals as goal

pub returns : goal.returns
returns c = record {
  is = sym (at_drop_all (spec.with_bytes c.loop-byte.code) c.args.bytes.now c.loop-byte.byte-index (omega arith)) ∙ c.loop-byte.invariant;
  digits = digits_from c.args.bytes.now (λ k. (c.type_inv.bytes k).fits);
}
