-- The pattern is the same at each place.
use Rattle.std.proofs.Common.{◌∙◌, ℕ, List, Option, Bor, map, replicate, option_copied, ap}
use Rattle.sub_types.specs.Nullable.{bytes_value}
use Rattle.kernels.proofs.ConstantLaws.{map-replicated}
use Rattle.call_kernels.proofs.texts.contain_constant.Goals as goal

pub contain_known-requires-clause-constant : goal.contain_known-requires-clause-constant
contain_known-requires-clause-constant c =
    let n = c.args.n in
    ap (map bytes_value) c.requires.constant
    ∙ map-replicated bytes_value n (option_copied c.args.pattern)
    ∙ ap (λ (text : Option (Bor (List ℕ))). replicate n (bytes_value (option_copied text))) c.in-Some.is
