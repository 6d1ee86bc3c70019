use Rattle.std.proofs.Common.{ap, sym}
use Rattle.std.specs.Option.{option_map}
use Rattle.func_table.specs.Entry.{fits}
use Rattle.func_table.specs.Table.{table}
use Rattle.func_table.proofs.ListLaws.{found_Contains}
use Rattle.func_table.proofs.look_up.find_bytes.Goals as goal

pub returns-clause-of_table : goal.returns-clause-of_table
returns-clause-of_table c =
    let test = fits c.args.file.now c.args.name.now c.args.kinds.now c.args.class in
    let found = rw c.in_ok-line.was at c.line_for.ensures in
    found_Contains test (λ entry. entry.row) table _ (ap (option_map (λ entry. entry.row)) (sym found))
