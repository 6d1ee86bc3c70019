use Rattle.std.proofs.Common.{◌∙◌, sym, ap, map, is_some}
use Rattle.sub_types.specs.OptionalLaws.{validity-optional}
use Rattle.col_fixed.proofs.bools.BoolCol.validity.Goals as goal

pub returns : goal.returns
returns c =
    let column = c.self.inside in
    sym (validity-optional column.values column.valid c.self.invariant.same_length) ∙ ap (map is_some) c.self.view_is
