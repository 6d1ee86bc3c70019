use Rattle.std.proofs.Common.{◌∙◌, ◌+◌, ap, map, is_some}
use Rattle.std.specs.List.{slice_range}
use Rattle.sub_types.specs.PartLaws.{part-map}
use Rattle.col_fixed.proofs.view.View.validity.Goals as goal

pub returns-clause-bits : goal.returns-clause-bits
returns-clause-bits g c =
    let part = c.self.inside in
    ap (λ xs. slice_range xs part.from (part.from + part.len)) c.validity.ensures
    ∙ part-map is_some part.column.now part.from (part.from + part.len) ∙ ap (map is_some) c.self.view_is
