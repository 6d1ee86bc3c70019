use Rattle.std.proofs.Common.{◌≡◌, ◌∙◌, ◌++◌, ◌+◌, ◌-◌, ◌^◌, ◌%◌, ◌≤◌, ◌<◌, [], ℕ, List, length, map, ap, sym, unwrap_or, arith, zero-add}
use Rattle.std.specs.List.{slice_range, concat}
use Rattle.std.proofs.lemmas.Result.{on_ok_weaker}
use Rattle.sub_types.specs.Slots.{slots, length-slots}
use Rattle.sub_types.specs.PartLaws.{part-map}
use Rattle.col_text.specs.Text.{ends_of, offset_of}
use Rattle.col_text.proofs.TextLaws.{length-ends_of, offset_of-part}
use Rattle.col_text.proofs.EndLaws.{ends_of-part, ends_of-moved_all}
use Rattle.col_text.proofs.view.TextView.add_ends.Goals as goal

pub extend_moved-requires-clause-within : goal.extend_moved-requires-clause-within
extend_moved-requires-clause-within c =
    let texts = slots [] c.self.inside.column.now in
    omega (arith, ap length c.ends.ensures, length-ends_of 0 texts, length-slots [] c.self.inside.column.now, c.self.invariant.within)

pub returns-clause-ok : goal.returns-clause-ok
returns-clause-ok c =
    let part = c.self.inside in
    let texts = slots [] part.column.now in
    let mine = slots [] c.args.self.now in
    let from = part.from in
    let to = part.from + part.len in
    let start = c.args.start in
    let begin = c.extent-begin.result.0 in
    let same : slice_range texts from to ≡ mine = part-map (λ value. unwrap_or value []) part.column.now from to ∙ ap (slots []) c.self.view_is in
    let move = λ (n : ℕ). (n + (start + (2 ^ 64 - begin)) % 2 ^ 64) % 2 ^ 64 in
    let room : to ≤ length texts = omega (arith, length-slots [] part.column.now, c.self.invariant.within) in
    let long = offset_of-part texts from to (omega arith) room in
    let inside : begin + length (concat mine) < 2 ^ 64 = omega (arith, c.extent-begin.ensures.begin, c.extent-begin.ensures.end, long, ap (λ xs. length (concat xs)) same) in
    let ends : slice_range c.ends.result.now from to ≡ ends_of begin mine =
    ap (λ xs. slice_range xs from to) c.ends.ensures ∙ ends_of-part texts 0 from to (omega arith) room
    ∙ ap (λ n. ends_of n (slice_range texts from to)) (zero-add (offset_of texts from) ∙ sym c.extent-begin.ensures.begin) ∙ ap (ends_of begin) same in
    let all = ap (map move) ends ∙ ends_of-moved_all mine start begin c.requires inside in
    on_ok_weaker c.extend_moved.result (λ added. added ∙ ap (λ (xs : List ℕ). c.args.ends.now ++ xs) all) c.extend_moved.ensures.ok
