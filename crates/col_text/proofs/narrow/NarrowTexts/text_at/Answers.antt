use Rattle.std.proofs.Common.{◌∙◌, ◌≤◌, [], ap, length, get_or, arith}
use Rattle.std.proofs.lemmas.List.{length-take, length-drop}
use Rattle.col_text.proofs.NarrowLaws.{piece_at, piece_from, no_piece_past}
use Rattle.col_text.proofs.narrow.NarrowTexts.text_at.Goals as goal

pub returns-then-i-self-clause-text : goal.returns-then-i-self-clause-text
returns-then-i-self-clause-text c =
    let own = c.self.inside in
    let past : length own.ends.now ≤ c.args.i = omega arith in
    no_piece_past own.first own.ends.now own.bytes.now c.args.i past ∙ ap (λ texts. get_or texts c.args.i []) c.self.view_is

pub slice_bounds-result-count : goal.slice_bounds-result-count
slice_bounds-result-count c =
    let own = c.self.inside in
    let place = piece_at own.first own.ends.now own.bytes.now c.args.i c.self.invariant (omega arith) in
    omega (arith, c.begin_at-begin.ensures, place.0, place.1.0)

pub slice_bounds-result-start : goal.slice_bounds-result-start
slice_bounds-result-start c = slice_bounds-result-count c

pub overflow_sub-result : goal.overflow_sub-result
overflow_sub-result c =
    let own = c.self.inside in
    let place = piece_at own.first own.ends.now own.bytes.now c.args.i c.self.invariant (omega arith) in
    omega (arith, c.begin_at-begin.ensures, place.0)

pub returns-clause-within : goal.returns-clause-within
returns-clause-within c =
    let own = c.self.inside in
    let begin = c.begin_at-begin.result in
    let place = piece_at own.first own.ends.now own.bytes.now c.args.i c.self.invariant (omega arith) in
    simp (length-take, length-drop) (omega (arith, c.begin_at-begin.ensures, place.0, place.1.0))

pub returns-clause-text : goal.returns-clause-text
returns-clause-text c =
    let own = c.self.inside in
    piece_from own.first own.ends.now own.bytes.now c.args.i c.begin_at-begin.result c.self.invariant (omega arith) c.begin_at-begin.ensures ∙ ap (λ texts. get_or texts c.args.i []) c.self.view_is
