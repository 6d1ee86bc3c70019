use Rattle.std.proofs.Common.{rules, tests, ◌∙◌, sym}
use Rattle.std.specs.Str.{bytes_eq}
use Rattle.std.proofs.lemmas.Iterator.{YieldsList-from_slice}
use Rattle.std.proofs.lemmas.Iterator.Search.{any_from_yields_List}
use Rattle.func_table.proofs.ListLaws.{list_any-map}
use Rattle.func_table.proofs.options.Choice.is_honoured.Goals as goal

pub returns : goal.returns
returns c =
    any_from_yields_List (λ one. bytes_eq one.now c.args.value.now) _ _ c.any.result c.any.ensures.ran (YieldsList-from_slice c.args.self.now.values.now cc) (λ x b q k. search (rules, tests))
    ∙ sym (list_any-map (λ one. bytes_eq one c.args.value.now) (λ one. one.now) c.args.self.now.values.now)
