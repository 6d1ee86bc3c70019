use Rattle.std.proofs.Common.{◌≡◌, ap, ◌∙◌, ℕ, replicate, rules}
use Rattle.sub_types.proofs.StepLaws.{ones-bits_of}
use Rattle.sub_types.specs.Bits.{bits_of}
use Rattle.sub_types.proofs.bits.Bits.ones.Goals as goal

pub returns : goal.returns
returns c =
    let ones : c.in_ok-bytes.bytes.items ≡ replicate {A = ℕ} c.byte_count.result 255 = search rules in
    ap (bits_of c.args.n) ones ∙ ones-bits_of c.args.n c.byte_count.result c.byte_count.ensures.enough
