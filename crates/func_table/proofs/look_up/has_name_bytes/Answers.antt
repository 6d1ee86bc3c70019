use Rattle.std.proofs.Common.{rules, tests, ◌∙◌, ap, sym}
use Rattle.std.specs.List.{list_any}
use Rattle.std.proofs.lemmas.Iterator.{YieldsList-from_slice}
use Rattle.std.proofs.lemmas.Iterator.Search.{any_from_yields_List}
use Rattle.func_table.specs.Entry.{is_named}
use Rattle.func_table.specs.Seen.{entry_seen}
use Rattle.func_table.proofs.ListLaws.{list_any-map}
use Rattle.func_table.proofs.look_up.has_name_bytes.Goals as goal

pub returns : goal.returns
returns c =
    let test = is_named c.args.file.now c.args.name.now c.args.class in
    any_from_yields_List (λ line. test (entry_seen line)) _ _ c.any.result c.any.ensures.ran (YieldsList-from_slice c.lines.result.now cc) (λ x b q k. search (rules, tests))
    ∙ sym (list_any-map test entry_seen c.lines.result.now)
    ∙ ap (list_any test) c.lines.ensures
