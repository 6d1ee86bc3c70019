use Rattle.std.proofs.Common.{◌≤◌, ◌-◌, ◌%◌, ◌++◌, ◌∙◌, ap, replicate, arith}
use Rattle.arrow_write.proofs.BodyLaws.{zeros, fill_count}
use Rattle.arrow_write.proofs.body.fill_up.Goals as goal

pub returns : goal.returns
returns c =
    let n = (8 - c.args.len % 8) % 8 in
    let few : n ≤ 8 = omega arith in
    c.in_ok-extend_from_slice.ensures.items ∙ ap (λ fill. c.args.bytes.now.items ++ fill) (zeros n few ∙ ap (λ k. replicate k 0) (fill_count c.args.len))
