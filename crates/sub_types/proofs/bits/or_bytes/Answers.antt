use Rattle.std.proofs.Common.{◌≡◌, ◌∙◌, ◌||◌, subst, length, get_or, arith, rules}
use Rattle.std.proofs.lemmas.List.{length-set}
use Rattle.sub_types.specs.BitSteps.{IsZipped}
use Rattle.sub_types.proofs.StepLaws.{is_set-or, IsZipped-none, IsZipped-more}
use Rattle.sub_types.proofs.bits.or_bytes.Goals as goal

pub loop-i-init : goal.loop-i-init
loop-i-init c = record { zipped = IsZipped-none ◌||◌ c.args.bytes.now c.args.which.now; len = search rules }

pub loop-i-preserved : goal.loop-i-preserved
loop-i-preserved c =
    let l = c.loop-i in
    let which = c.args.which.now in
    record {
      zipped = IsZipped-more ◌||◌ c.args.bytes.now which l.bytes l.i _ (omega arith) (is_set-or (get_or l.bytes l.i 0) (get_or which l.i 0)) l.invariant.zipped;
      len = length-set l.bytes l.i _ ∙ l.invariant.len;
    }

pub returns-clause-zipped : goal.returns-clause-zipped
returns-clause-zipped c =
    let end : c.loop-i.i ≡ length c.args.bytes.now = omega arith in
    subst (λ i. IsZipped ◌||◌ c.args.bytes.now c.args.which.now c.loop-i.bytes i) end c.loop-i.invariant.zipped
