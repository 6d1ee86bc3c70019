use Rattle.std.proofs.Common.{◌≡◌, [], true, false, sym, subst, map, length, rules}
use Rattle.std.specs.Prelude.{IfOk, nat_le}
use Rattle.plan_denote.specs.Aggregate.{MAX_INPUT, keys_in}
use Rattle.plan_denote.specs.Denote.{measure_of}
use Rattle.plan_denote.specs.Eval.{eval}
use Rattle.row_steps.specs.Seen.{seen}
use Rattle.row_groups.proofs.AggregateLaws.{rows_of_few, many_rows}
use Rattle.row_groups.proofs.aggregate.rows_of_entries.Goals as goal

pub returns-then-not-are_few : goal.returns-then-not-are_few
returns-then-not-are_few c =
    let many : nat_le (length c.args.entries.now) MAX_INPUT ≡ false = search rules in
    let none : c.new.result ≡ [] = c.new.ensures in
    let ending = sym (many_rows c.args.number (map eval c.args.groups.now) (map measure_of c.args.measures.now) c.args.entries.now many) in
    search (rules, ending)

pub returns : goal.returns
returns c =
    let few : nat_le (length c.args.entries.now) MAX_INPUT ≡ true = search rules in
    let keys : c.in_ok-keys.keys ≡ keys_in c.args.groups.now c.new-2.result c.args.entries.now = search rules in
    subst (λ all. IfOk c.group_rows-2.result (λ s. seen s ≡ all))
    (rows_of_few c.args.number c.args.groups.now c.args.measures.now c.args.entries.now c.new-2.result c.new-3.result c.in_ok-keys.keys few c.new-2.ensures keys c.new-3.ensures)
    c.group_rows-2.ensures
