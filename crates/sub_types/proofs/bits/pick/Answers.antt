use Rattle.std.proofs.Common.{◌≡◌, ◌∙◌, subst, get_or, length, arith, rules}
use Rattle.std.proofs.lemmas.List.{length-set}
use Rattle.sub_types.specs.Bits.{bit_of}
use Rattle.sub_types.specs.BitSteps.{IsMade}
use Rattle.sub_types.proofs.StepLaws.{IsMade-none, IsMade-more}
use Rattle.sub_types.proofs.bits.pick.Goals as goal

pub loop-i-init : goal.loop-i-init
loop-i-init c = record { made = IsMade-none (λ k. bit_of c.args.source.now (get_or c.args.at.now k 0)) (length c.args.at.now) c.args.bytes.now; len = search rules }

pub loop-i-preserved : goal.loop-i-preserved
loop-i-preserved c = record {
  made = IsMade-more (λ k. bit_of c.args.source.now (get_or c.args.at.now k 0)) (length c.args.at.now) c.loop-i.bytes c.loop-i.i c.next_picked.result c.loop-i.invariant.made (omega arith) c.next_picked.ensures;
  len = length-set c.loop-i.bytes c.loop-i.i c.next_picked.result ∙ c.loop-i.invariant.len;
}

pub returns-clause-made : goal.returns-clause-made
returns-clause-made c =
    let end : c.loop-i.i ≡ length c.args.bytes.now = omega arith in
    subst (λ i. IsMade (λ k. bit_of c.args.source.now (get_or c.args.at.now k 0)) (length c.args.at.now) c.loop-i.bytes i) end c.loop-i.invariant.made
