use Rattle.std.proofs.Common.{◌∙◌, ◌+◌, [], ap, unwrap_or}
use Rattle.std.specs.List.{concat}
use Rattle.sub_types.specs.Slots.{slots}
use Rattle.sub_types.specs.PartLaws.{part-map}
use Rattle.col_text.proofs.view.TextView.bytes.Goals as goal

pub returns : goal.returns
returns c =
    let part = c.self.inside in
    c.bytes_between.ensures
    ∙ ap concat (part-map (λ value. unwrap_or value []) part.column.now part.from (part.from + part.len) ∙ ap (slots []) c.self.view_is)
