use Rattle.std.proofs.Common.{◌≡◌, ◌∙◌, map, sym, ap, rules}
use Rattle.sub_types.specs.Stream.{rows_alone}
use Rattle.plan_typed.specs.declared.rel.SortKey.{SortKey}
use Rattle.plan_denote.specs.Denote.{direction_of}
use Rattle.plan_denote.specs.Eval.{eval}
use Rattle.plan_denote.specs.Rows.{Formula, each_row}
use Rattle.plan_denote.specs.Sort.{keyed}
use Rattle.row_steps.specs.Seen.{seen}
use Rattle.row_steps.proofs.JoinedLaws.{none_of}
use Rattle.row_sorts.proofs.SortedLaws.{if_found, sorted_fault, sorted_whole}
use Rattle.row_sorts.proofs.sort.sorted.Goals as goal

pub returns-then-is_some : goal.returns-then-is_some
returns-then-is_some c =
    let formula : SortKey → Formula = λ key. eval key.expr in
    let keys = map formula c.args.keys.now in
    let input = seen c.args.input in
    let is = if_found (λ s. seen s ≡ each_row c.args.number (keyed keys) input) c.each_row.result c.in_ok-keyed.keyed c.in_ok-keyed.was (c.each_row.ensures (keyed keys) (λ _ _ post. search rules)) in
    c.ended.ensures ∙ sorted_fault c.args.number keys (map direction_of c.args.keys.now) input (seen c.in_ok-keyed.keyed) is (sym c.is_some.ensures ∙ c.if-is_some.true)

pub returns : goal.returns
returns c =
    let formula : SortKey → Formula = λ key. eval key.expr in
    let keys = map formula c.args.keys.now in
    let input = seen c.args.input in
    let is = if_found (λ s. seen s ≡ each_row c.args.number (keyed keys) input) c.each_row.result c.in_ok-keyed.keyed c.in_ok-keyed.was (c.each_row.ensures (keyed keys) (λ _ _ post. search rules)) in
    ap rows_alone c.in_ok-rows_in_order.ensures
    ∙ sorted_whole c.args.number keys (map direction_of c.args.keys.now) input (seen c.in_ok-keyed.keyed) is (none_of c.in_ok-keyed.keyed.end (sym c.is_some.ensures ∙ c.if-is_some.false))
