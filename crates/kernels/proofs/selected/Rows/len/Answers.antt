use Rattle.std.proofs.Common.{sym}
use Rattle.kernels.proofs.RowsLaws.{seen-all, length-all}
use Rattle.kernels.proofs.selected.Rows.len.Goals as goal

pub returns-then-self : goal.returns-then-self
returns-then-self c =
    let i = c.self.inside in
    sym (length-all i.count c.args.self.now (seen-all i.is_all i.count i.listed.now c.args.self.now c.self.view_is c.if-self.true))
