use Rattle.std.proofs.Common.{◌∙◌, sym, ap}
use Rattle.std.specs.List.{range_with_len}
use Rattle.kernels.proofs.RowsLaws.{seen-all, length-all}
use Rattle.kernels.proofs.selected.Rows.list.Goals as goal

pub returns-then-self : goal.returns-then-self
returns-then-self c =
    let i = c.self.inside in
    let is = seen-all i.is_all i.count i.listed.now c.args.self.now c.self.view_is c.if-self.true in
    is ∙ ap (range_with_len 0) (sym (length-all i.count c.args.self.now is))
