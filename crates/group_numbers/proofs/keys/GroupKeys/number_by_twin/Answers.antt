use Rattle.std.proofs.Common.{rules, ◌≡◌, ◌∙◌, ◌<◌, Some, length, slice_index_or, sym, ap, subst}
use Rattle.std.specs.List.{slice_get}
use Rattle.row_keys.specs.Keys.{key_of}
use Rattle.group_numbers.proofs.TwinLaws.{known_key, all_at, number_at}
use Rattle.group_numbers.proofs.keys.GroupKeys.number_by_twin.Goals as goal

pub bounds-numbers-twin : goal.bounds-numbers-twin
bounds-numbers-twin c =
    let key = key_of c.args.columns.now c.args.batch.now in
    subst (λ n. c.args.twin < n) (sym (all_at key c.args.self.now.rows c.args.numbers.now c.args.row c.requires.numbers)) c.if-twin-row.true

pub offset_bounds-numbers-twin : goal.offset_bounds-numbers-twin
offset_bounds-numbers-twin c =
    let key = key_of c.args.columns.now c.args.batch.now in
    let within : c.args.twin < length c.args.numbers.now
    = subst (λ n. c.args.twin < n) (sym (all_at key c.args.self.now.rows c.args.numbers.now c.args.row c.requires.numbers)) c.if-twin-row.true in
    search (rules, within)

pub returns-then-twin-row-clause-rows : goal.returns-then-twin-row-clause-rows
returns-then-twin-row-clause-rows c =
    let key = key_of c.args.columns.now c.args.batch.now in
    let rows = c.args.self.now.rows in
    let number = slice_index_or c.args.numbers.now c.args.twin 0 in
    let found : slice_get rows number ≡ Some (key c.args.row)
    = number_at key rows c.args.numbers.now c.args.row c.args.twin c.requires.numbers c.if-twin-row.true ∙ ap (λ k. Some k) c.requires.same in
    known_key rows number (key c.args.row) found

pub returns-then-twin-row-clause-number : goal.returns-then-twin-row-clause-number
returns-then-twin-row-clause-number c =
    let key = key_of c.args.columns.now c.args.batch.now in
    number_at key c.args.self.now.rows c.args.numbers.now c.args.row c.args.twin c.requires.numbers c.if-twin-row.true ∙ ap (λ k. Some k) c.requires.same
