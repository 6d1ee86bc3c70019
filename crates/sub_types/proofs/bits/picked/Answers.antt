use Rattle.std.proofs.Common.{◌≡◌, ◌+◌, ◌-◌, ◌∙◌, ap, ℕ, get_or, arith}
use Rattle.sub_types.specs.Bits.{bit_of}
use Rattle.sub_types.proofs.StepLaws.{pushed_more, IsPushed-same}
use Rattle.sub_types.proofs.bits.picked.Goals as goal

pub loop-j-init : goal.loop-j-init
loop-j-init c = λ m lt. absurd (omega arith)

pub loop-j-preserved : goal.loop-j-preserved
loop-j-preserved c =
    let f = λ (k : ℕ). bit_of c.args.source.now (get_or c.args.at.now (c.args.from + k) 0) in
    pushed_more f c.args.count c.loop-j.j c.loop-j.byte c.pushed-byte.result c.requires.few (omega arith) (IsPushed-same _ _ _ _ c.bit_at.ensures c.pushed-byte.ensures) c.loop-j.invariant

pub returns : goal.returns
returns c = λ k lt.
    let place : c.args.from + (c.args.count - c.loop-j.j + k) ≡ c.args.from + k = omega arith in
    c.loop-j.invariant k (omega arith) ∙ ap (λ i. bit_of c.args.source.now (get_or c.args.at.now i 0)) place
