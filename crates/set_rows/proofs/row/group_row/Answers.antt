use Rattle.std.proofs.Common.{◌≡◌, ◌∙◌, ◌<◌, ◌++◌, [], Result, Ok, List, length, map, get_or, sym, ap, arith}
use Rattle.sub_types.specs.declared.fault.FaultKind.{FaultKind}
use Rattle.sub_types.specs.declared.value.Value.{Value}
use Rattle.plan_denote.specs.Rows.{◌>>=◌}
use Rattle.group_tallies.specs.Kept.{tallies_in}
use Rattle.group_states.proofs.StateLaws.{each_of}
use Rattle.set_states.specs.States.{measure_in}
use Rattle.aggregate.specs.Finals.{finals_at}
use Rattle.set_rows.proofs.RowLaws.{row_err}
use Rattle.set_rows.proofs.row.group_row.Goals as goal

pub finals-requires-clause-group : goal.finals-requires-clause-group
finals-requires-clause-group c =
    each_of (λ tallies. length (tallies_in tallies) ≡ length c.args.keys.now) (λ tallies. c.args.group < length (tallies_in tallies)) (λ tallies e. omega (arith, e, c.requires.group)) c.args.columns.now c.requires.sized

pub returns-in_ok-row-in-Ok : goal.returns-in_ok-row-in-Ok
returns-in_ok-row-in-Ok c =
    let key = get_or c.args.keys.now c.args.group [] in
    let numbered = c.args.numbered.now in
    ap (λ (r : Result (List Value) FaultKind). r >>= (λ found. Ok (key ++ found ++ numbered))) c.in-Ok.ensures
    ∙ ap Ok (sym (c.in_ok-row-in-Ok.ensures ∙ ap (λ k. k ++ c.in-Ok.values ++ c.in_ok-last-in-Ok.last) c.in_ok-key-in-Ok.ensures ∙ ap (λ l. key ++ c.in-Ok.values ++ l) c.in_ok-last-in-Ok.ensures))

pub returns-in-Err : goal.returns-in-Err
returns-in-Err c = row_err c.in-Err.error (finals_at c.args.group (map measure_in c.args.measures.now) c.args.columns.now) (get_or c.args.keys.now c.args.group []) c.args.numbered.now c.in-Err.ensures
