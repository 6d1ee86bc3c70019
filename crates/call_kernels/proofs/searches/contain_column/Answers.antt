-- The bits are those of the texts, and the nulls stay null.
use Rattle.std.proofs.Common.{◌∙◌, List, Bool, Option, Ok, length, map, is_some, sym, ap, ap₂}
use Rattle.std.proofs.lemmas.List.{length-map}
use Rattle.sub_types.specs.Nullable.{bool_value}
use Rattle.sub_types.specs.Optional.{optional}
use Rattle.plan_denote.specs.Computed.{Computed}
use Rattle.call_kernels.proofs.NullLaws.{all_range}
use Rattle.call_kernels.proofs.SearchLaws.{column_tested}
use Rattle.call_kernels.proofs.searches.contain_column.Goals as goal

pub returns : goal.returns
returns c =
    let column = c.args.column.now in
    let see = λ (truth : Option Bool). let one : Computed = Ok (bool_value truth) in one in
    let long = c.len.ensures ∙ sym (ap length c.validity.ensures ∙ length-map column is_some) in
    ap (map see) (c.from_parts.ensures ∙ ap₂ (λ (values valid : List Bool). optional values valid) c.in_ok-values.ensures (c.in_ok-valid.ensures ∙ all_range c.validity.result.now c.len.result long ∙ c.validity.ensures))
    ∙ column_tested column c.args.pattern.now c.requires.texts c.requires.pattern
