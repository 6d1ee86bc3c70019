use Rattle.std.proofs.Common.{◌≡◌, ◌∙◌, ◌<◌, ◌≤◌, ◌++◌, [], Result, Ok, Err, List, length, map, get_or, sym, ap, ap₂, subst, arith}
use Rattle.std.specs.List.{All}
use Rattle.sub_types.specs.declared.fault.FaultKind.{FaultKind}
use Rattle.sub_types.specs.declared.value.Value.{Value}
use Rattle.plan_denote.specs.Rows.{◌>>=◌}
use Rattle.plan_denote.specs.Aggregate.{MAX_INPUT}
use Rattle.group_columns.specs.Columns.{count_in}
use Rattle.group_tallies.specs.Kept.{keeping_in, tallies_in}
use Rattle.group_states.proofs.StateLaws.{each_of}
use Rattle.aggregate.specs.Finals.{Makes, finals_at}
use Rattle.aggregate.specs.States.{keeping}
use Rattle.aggregate.proofs.FinalLaws.{row_err}
use Rattle.aggregate.proofs.finals.group_row.Goals as goal

pub finals-requires-clause-kept : goal.finals-requires-clause-kept
finals-requires-clause-kept c = ap (map keeping_in) c.as_slice-2.ensures.value ∙ c.requires.stands.1 ∙ sym (ap (map keeping) c.as_slice.ensures.value)

pub finals-requires-clause-group : goal.finals-requires-clause-group
finals-requires-clause-group c =
    let groups = c.args.groups.now in
    subst (All (λ tallies. c.args.group < length (tallies_in tallies))) (sym c.as_slice-2.ensures.value)
    (each_of (λ tallies. length (tallies_in tallies) ≡ length groups.keys.rows) (λ tallies. c.args.group < length (tallies_in tallies)) (λ tallies e. omega (arith, e, c.requires.group)) groups.columns.items c.requires.stands.0.sized)

pub finals-requires-clause-few : goal.finals-requires-clause-few
finals-requires-clause-few c =
    let groups = c.args.groups.now in
    subst (All (λ tallies. count_in (tallies_in tallies) ≤ MAX_INPUT)) (sym c.as_slice-2.ensures.value)
    (each_of (λ tallies. count_in (tallies_in tallies) ≤ groups.rows) (λ tallies. count_in (tallies_in tallies) ≤ MAX_INPUT) (λ tallies e. omega (arith, e, c.requires.stands.2)) groups.columns.items c.requires.stands.0.counted)

pub returns-in_ok-row-in-Ok : goal.returns-in_ok-row-in-Ok
returns-in_ok-row-in-Ok c =
    let groups = c.args.groups.now in
    let key = get_or groups.keys.rows c.args.group [] in
    let own = ap₂ (finals_at c.args.group) (sym c.as_slice.ensures.value) (sym c.as_slice-2.ensures.value) ∙ c.in-Ok.ensures in
    ap (λ (r : Result (List Value) FaultKind). r >>= (λ found. Ok (key ++ found))) own
    ∙ ap Ok (sym (c.in_ok-row-in-Ok.ensures ∙ ap (λ k. k ++ c.in-Ok.values) c.in_ok-key-in-Ok.ensures))

pub returns-in-Err : goal.returns-in-Err
returns-in-Err c =
    let groups = c.args.groups.now in
    row_err c.in-Err.error (finals_at c.args.group c.args.spec.now.measures.items groups.columns.items) (get_or groups.keys.rows c.args.group [])
    (subst (Makes (Err c.in-Err.error)) (ap₂ (finals_at c.args.group) c.as_slice.ensures.value c.as_slice-2.ensures.value) c.in-Err.ensures)
