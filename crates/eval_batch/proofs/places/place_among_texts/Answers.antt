-- The first key that equals the text.
use Rattle.std.proofs.Common.{◌∙◌, ℕ, Option, map, sym, ap, ap₂}
use Rattle.std.specs.Option.{unwrap_or}
use Rattle.sub_types.specs.declared.value.Value.{Value}
use Rattle.sub_types.specs.declared.value.Value.TheVariants as values
use Rattle.batch_nodes.specs.Options.{place_of}
use Rattle.eval_batch.proofs.PlaceLaws.{place_text, place_not_text}
use Rattle.eval_batch.proofs.places.place_among_texts.Goals as goal

pub returns-in-Bytes : goal.returns-in-Bytes
returns-in-Bytes c =
    let keys = c.args.texts.now.keys in
    place_text c.bytes.result.now keys c.unwrap_or.result (c.unwrap_or.ensures ∙ ap₂ (λ (place : Option ℕ) (len : ℕ). unwrap_or place len) c.get_index_of.ensures.index c.len.ensures.len)
    ∙ ap (λ (value : Value). place_of value (map (λ text. values.Bytes text.items) keys)) (ap values.Bytes c.bytes.ensures ∙ sym c.in-Bytes.is)

pub returns-in_default : goal.returns-in_default
returns-in_default c = c.len-in_default.ensures.len ∙ place_not_text c.args.value.now c.in_default.not-Bytes c.args.texts.now.keys
