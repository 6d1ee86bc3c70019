use Rattle.std.proofs.Common.{◌≡◌, ◌∙◌, ◌+◌, [], ap, length, unwrap_or, arith}
use Rattle.std.specs.List.{slice_range}
use Rattle.sub_types.specs.Slots.{slots, length-slots}
use Rattle.sub_types.specs.PartLaws.{part-map, length-part}
use Rattle.col_text.specs.Text.{offset_of}
use Rattle.col_text.proofs.TextLaws.{offset_of-slice}
use Rattle.col_text.proofs.view.TextView.offset.Goals as goal

pub returns : goal.returns
returns c =
    let part = c.self.inside in
    let column = part.column.now in
    let texts = slots [] column in
    let end = part.from + part.len in
    let same : slice_range texts part.from end ≡ slots [] c.args.self.now = part-map (λ value. unwrap_or value []) column part.from end ∙ ap (slots []) c.self.view_is in
    let long = length-part column part.from end c.self.invariant.within in
    let place = offset_of-slice texts part.from end c.args.i (omega (arith, long, ap length c.self.view_is)) (omega (arith, length-slots [] column)) in
    let here : offset_of (slice_range texts part.from end) c.args.i ≡ offset_of (slots [] c.args.self.now) c.args.i = ap (λ xs. offset_of xs c.args.i) same in
    omega (arith, c.extent-begin.ensures.begin, c.extent-begin.ensures.end, place, here)
