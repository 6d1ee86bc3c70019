use Rattle.std.proofs.Common.{chars, ◌∙◌, sym}
use Rattle.std.proofs.lemmas.Str.{encodes-chars}
use Rattle.eval_values.proofs.Chars.{front_of, rest_within}
use Rattle.eval_values.proofs.parts.first_chars.Goals as goal

pub slice_bounds-result-count : goal.slice_bounds-result-count
slice_bounds-result-count c =
    rest_within (chars c.args.text.now) _ _ c.args.count (encodes-chars c.args.text.now c.utf8.text ∙ sym c.as_bytes-bytes.ensures.value) c.after_chars.ensures

pub returns : goal.returns
returns c =
    front_of (chars c.args.text.now) _ _ c.args.count (encodes-chars c.args.text.now c.utf8.text ∙ sym c.as_bytes-bytes.ensures.value) c.after_chars.ensures
