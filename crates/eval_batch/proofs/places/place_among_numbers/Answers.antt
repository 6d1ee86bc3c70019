-- The first key that equals the number.
use Rattle.std.proofs.Common.{◌∙◌, ℕ, Option, map, sym, ap, ap₂}
use Rattle.std.specs.Option.{unwrap_or}
use Rattle.sub_types.specs.declared.value.Value.{Value}
use Rattle.sub_types.specs.declared.value.Value.TheVariants as values
use Rattle.batch_nodes.specs.Options.{place_of}
use Rattle.eval_batch.proofs.PlaceLaws.{place_number, place_not_number}
use Rattle.eval_batch.proofs.places.place_among_numbers.Goals as goal

pub returns-in-Int : goal.returns-in-Int
returns-in-Int c =
    let keys = c.args.numbers.now.keys in
    place_number c.in-Int.number keys c.unwrap_or.result (c.unwrap_or.ensures ∙ ap₂ (λ (place : Option ℕ) (len : ℕ). unwrap_or place len) c.get_index_of.ensures.index c.len.ensures.len)
    ∙ ap (λ (value : Value). place_of value (map values.Int keys)) (sym c.in-Int.is)

pub returns-in_default : goal.returns-in_default
returns-in_default c = c.len-in_default.ensures.len ∙ place_not_number c.args.value.now c.in_default.not-Int c.args.numbers.now.keys
