use Rattle.std.proofs.Common.{◌≡◌, ap, ◌∙◌, ℕ, replicate, rules}
use Rattle.sub_types.proofs.BitLaws.{zeros-bits_of}
use Rattle.sub_types.specs.Bits.{bits_of}
use Rattle.sub_types.proofs.bits.Bits.zeros.Goals as goal

pub returns : goal.returns
returns c =
    let zeros : c.in_ok-bytes.bytes.items ≡ replicate {A = ℕ} c.byte_count.result 0 = search rules in
    ap (bits_of c.args.n) zeros ∙ zeros-bits_of c.args.n c.byte_count.result
