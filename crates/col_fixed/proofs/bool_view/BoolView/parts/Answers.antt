use Rattle.std.proofs.Common.{◌∙◌, ◌+◌, ap, map, is_some, unwrap_or, false}
use Rattle.std.specs.List.{slice_range}
use Rattle.sub_types.specs.Slots.{slots}
use Rattle.sub_types.specs.PartLaws.{part-map}
use Rattle.col_fixed.proofs.bool_view.BoolView.parts.Goals as goal

pub returns-clause-values : goal.returns-clause-values
returns-clause-values c =
    let part = c.self.inside in
    ap (λ xs. slice_range xs part.from (part.from + part.len)) c.values.ensures
    ∙ part-map (λ value. unwrap_or value false) part.column.now part.from (part.from + part.len) ∙ ap (slots false) c.self.view_is

pub returns-clause-validity : goal.returns-clause-validity
returns-clause-validity c =
    let part = c.self.inside in
    ap (λ xs. slice_range xs part.from (part.from + part.len)) c.validity.ensures
    ∙ part-map is_some part.column.now part.from (part.from + part.len) ∙ ap (map is_some) c.self.view_is
