use Rattle.std.proofs.Common.{rules, ◌∙◌, ◌+◌, ◌≤◌, [], ap, length, unwrap_or, arith}
use Rattle.std.specs.List.{slice_range}
use Rattle.sub_types.specs.Slots.{slots, length-slots}
use Rattle.sub_types.specs.PartLaws.{part-map}
use Rattle.col_text.proofs.TextLaws.{length-ends_of}
use Rattle.col_text.proofs.NarrowLaws.{part_rises, part_pieces}
use Rattle.col_text.proofs.view.TextView.narrow_texts.Goals as goal

pub offset_bounds-ends-self-inside : goal.offset_bounds-ends-self-inside
offset_bounds-ends-self-inside c =
    let column = c.self.inside.column.now in
    let room : c.self.inside.from + c.self.inside.len ≤ length c.in-Some.ends.now =
    omega (arith, ap length c.in-Some.ensures, ap length c.ends.ensures, length-ends_of 0 (slots [] column), length-slots [] column, c.self.invariant.within) in
    search rules

pub slice_bounds-new-end : goal.slice_bounds-new-end
slice_bounds-new-end c =
    let column = c.self.inside.column.now in
    omega (arith, ap length c.in-Some.ensures, ap length c.ends.ensures, length-ends_of 0 (slots [] column), length-slots [] column, c.self.invariant.within)

pub new-requires : goal.new-requires
new-requires c =
    let part = c.self.inside in
    let texts = slots [] part.column.now in
    let to = part.from + part.len in
    let within : to ≤ length texts = omega (arith, length-slots [] part.column.now, c.self.invariant.within) in
    part_rises texts part.from to c.extent-first.result.0 _ c.bytes_between-bytes.result.now (omega arith) within c.extent-first.ensures.begin
    (ap (λ xs. slice_range xs part.from to) (c.in-Some.ensures ∙ c.ends.ensures)) c.bytes_between-bytes.ensures

pub returns : goal.returns
returns c =
    let part = c.self.inside in
    let texts = slots [] part.column.now in
    let to = part.from + part.len in
    let within : to ≤ length texts = omega (arith, length-slots [] part.column.now, c.self.invariant.within) in
    c.new.ensures
    ∙ part_pieces texts part.from to c.extent-first.result.0 _ c.bytes_between-bytes.result.now (omega arith) within c.extent-first.ensures.begin
    (ap (λ xs. slice_range xs part.from to) (c.in-Some.ensures ∙ c.ends.ensures)) c.bytes_between-bytes.ensures
    ∙ part-map (λ value. unwrap_or value []) part.column.now part.from to ∙ ap (slots []) c.self.view_is
