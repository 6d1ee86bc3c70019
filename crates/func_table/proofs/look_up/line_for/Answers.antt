use Rattle.std.proofs.Common.{rules, tests}
use Rattle.std.proofs.lemmas.Iterator.{YieldsList-from_slice}
use Rattle.std.proofs.lemmas.Iterator.Search.{find_from_yields_List}
use Rattle.func_table.specs.Entry.{fits}
use Rattle.func_table.specs.Seen.{entry_seen}
use Rattle.func_table.specs.Table.{table}
use Rattle.func_table.proofs.ListLaws.{found_seen}
use Rattle.func_table.proofs.look_up.line_for.Goals as goal

pub returns : goal.returns
returns c =
    let test = fits c.args.file.now c.args.name.now c.args.kinds.now c.args.class in
    let line = find_from_yields_List (λ line. test (entry_seen line)) _ _ c.find.result c.find.ensures.ran (YieldsList-from_slice c.lines.result.now cc) (λ x b q k. search (rules, tests)) in
    found_seen (λ line. line.now) entry_seen test c.lines.result.now table c.find.result c.lines.ensures line
