use Rattle.std.proofs.Common.{◌≡◌, length, arith, rules}
use Rattle.std.specs.List.{All}
use Rattle.col_fixed.proofs.Cleared.{IsColumn-full}
use Rattle.col_fixed.proofs.fixed.Fixed.from_parts.Goals as goal

pub invariant_of-result : goal.invariant_of-result
invariant_of-result g c =
    let same : length c.args.values.items ≡ length c.args.valid = omega (arith, c.requires, c.args.values.ok) in
    let bytes = c.bytes.result.now in
    let full : All (λ byte. byte ≡ 255) bytes = search rules in
    IsColumn-full g.T.Native.zero c.args.values.items c.args.valid bytes same c.bytes.ensures.bits c.bytes.ensures.packed.enough full
