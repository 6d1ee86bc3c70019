-- Each bit is there.
use Rattle.std.proofs.Common.{◌∙◌, List, Bool, true, Option, Ok, map, replicate, ap, ap₂}
use Rattle.sub_types.specs.Nullable.{bool_value}
use Rattle.sub_types.specs.Optional.{optional}
use Rattle.plan_denote.specs.Computed.{Computed}
use Rattle.call_kernels.proofs.NullLaws.{all_range, all_there}
use Rattle.call_kernels.proofs.nulls.known.Goals as goal

pub returns : goal.returns
returns c =
    let bits = c.args.bits.now in
    let see = λ (truth : Option Bool). let one : Computed = Ok (bool_value truth) in one in
    ap (map see) (c.from_parts.ensures ∙ ap₂ (λ (values valid : List Bool). optional values valid) (c.in_ok-values.ensures ∙ all_range bits c.len.result c.len.ensures) (c.in_ok-valid.ensures ∙ ap (λ n. replicate n true) c.len-2.ensures))
    ∙ all_there bits
