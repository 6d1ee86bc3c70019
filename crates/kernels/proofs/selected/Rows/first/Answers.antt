use Rattle.std.proofs.Common.{◌∙◌, take, sym, ap, arith}
use Rattle.kernels.proofs.RowsLaws.{seen-all, length-all, take-range}
use Rattle.kernels.proofs.selected.Rows.first.Goals as goal

pub returns-then-self : goal.returns-then-self
returns-then-self c =
    let i = c.self.inside in
    let is = seen-all i.is_all i.count i.listed.now c.args.self.now c.self.view_is c.if-self.true in
    let long = length-all i.count c.args.self.now is in
    c.all.ensures ∙ sym (ap (take c.args.n) is ∙ take-range i.count c.args.n (omega (arith, c.requires, long)))
