use Rattle.std.proofs.Common.{◌≡◌, ◌∙◌, length, replicate, true, ap}
use Rattle.col_fixed.proofs.GatherLaws.{IsColumn-all, optional-all}
use Rattle.col_fixed.proofs.fixed.Fixed.all_valid.Goals as goal

pub invariant_of-result : goal.invariant_of-result
invariant_of-result g c =
    let values = c.args.values in
    let ones : c.in_ok-valid.valid ≡ replicate (length values.items) true = c.in_ok-valid.ensures ∙ ap (λ n. replicate n true) (c.len.ensures ∙ values.ok.0) in
    rw ones (IsColumn-all g.T.Native.zero values.items)

pub returns : goal.returns
returns g c =
    let values = c.args.values in
    let ones : c.in_ok-valid.valid ≡ replicate (length values.items) true = c.in_ok-valid.ensures ∙ ap (λ n. replicate n true) (c.len.ensures ∙ values.ok.0) in
    rw ones (optional-all values.items)
