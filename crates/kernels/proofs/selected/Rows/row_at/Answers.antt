use Rattle.std.proofs.Common.{◌∙◌, get_or, sym, ap, arith}
use Rattle.std.proofs.lemmas.List.FromFn.{get_or-range_with_len}
use Rattle.kernels.proofs.RowsLaws.{seen-all, length-all}
use Rattle.kernels.proofs.selected.Rows.row_at.Goals as goal

pub returns-then-self : goal.returns-then-self
returns-then-self c =
    let i = c.self.inside in
    let is = seen-all i.is_all i.count i.listed.now c.args.self.now c.self.view_is c.if-self.true in
    let long = length-all i.count c.args.self.now is in
    sym (ap (λ rows. get_or rows c.args.i 0) is ∙ get_or-range_with_len 0 i.count c.args.i 0 (omega (arith, c.requires, long)) ∙ omega arith)
