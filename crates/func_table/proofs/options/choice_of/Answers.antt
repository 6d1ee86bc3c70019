use Rattle.std.proofs.Common.{rules, tests}
use Rattle.std.proofs.lemmas.Iterator.{YieldsList-from_slice}
use Rattle.std.proofs.lemmas.Iterator.Search.{find_from_yields_List}
use Rattle.std.specs.Str.{bytes_eq}
use Rattle.func_table.specs.Options.{options_of}
use Rattle.func_table.specs.Seen.{seen, choice_seen}
use Rattle.func_table.proofs.ListLaws.{found_seen}
use Rattle.func_table.proofs.options.choice_of.Goals as goal

pub returns : goal.returns
returns c =
    let choice = find_from_yields_List (λ choice. bytes_eq choice.option.now c.args.name.now) _ _ c.find.result c.find.ensures.ran (YieldsList-from_slice c.options_of.result.now cc) (λ x b q k. search (rules, tests)) in
    found_seen (λ choice. choice.now) choice_seen (λ choice. bytes_eq choice.option c.args.name.now) c.options_of.result.now (options_of (seen c.args.row.now)) c.find.result c.options_of.ensures choice
