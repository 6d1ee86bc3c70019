use Rattle.std.proofs.Common.{◌∙◌, ◌+◌, ap, unwrap_or}
use Rattle.std.specs.List.{slice_range}
use Rattle.sub_types.specs.Slots.{slots}
use Rattle.sub_types.specs.PartLaws.{part-map}
use Rattle.col_fixed.proofs.view.View.values.Goals as goal

pub returns : goal.returns
returns g c =
    let part = c.self.inside in
    ap (λ xs. slice_range xs part.from (part.from + part.len)) c.values.ensures
    ∙ part-map (λ value. unwrap_or value g.T.Native.zero) part.column.now part.from (part.from + part.len)
    ∙ ap (slots g.T.Native.zero) c.self.view_is
