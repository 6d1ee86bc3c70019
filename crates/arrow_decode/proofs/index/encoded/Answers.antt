use Rattle.std.proofs.Common.{◌≡◌, ◌∙◌, List, ℕ, Option, Some, None, get_or, map, ap, sym, arith}
use Rattle.std.specs.Option.{option_map}
use Rattle.arrow_decode.proofs.IndexLaws.{encoded_in-short, encoded_in-places}
use Rattle.arrow_decode.proofs.index.encoded.Goals as goal

pub returns-then-size-count : goal.returns-then-size-count
returns-then-size-count c =
    sym (encoded_in-short c.args.size c.args.count c.args.signed c.args.valid.now c.args.dictionary.now c.args.buffer.now c.requires.size (omega arith))

pub returns-in_default : goal.returns-in_default
returns-in_default c =
    let found : None ≡ option_map (λ at. at.items) c.in_ok-at.field-0 = sym (ap (option_map (λ at. at.items)) c.in_default.is) in
    sym (encoded_in-places c.args.size c.args.count c.len.result c.args.signed c.args.valid.now c.args.dictionary.now c.args.buffer.now None c.requires.size (omega arith) c.len.ensures (found ∙ c.in_ok-at.ensures))

pub returns : goal.returns
returns c =
    let found : Some c.in-Some.at.items ≡ option_map (λ at. at.items) c.in_ok-at.field-0 = sym (ap (option_map (λ at. at.items)) c.in-Some.is) in
    let picked = c.in_ok-gather_or_null.ensures ∙ ap (λ (dictionary : List (Option (List ℕ))). map (λ i. get_or dictionary i None) c.deref.result.now) c.view.ensures
    ∙ ap (map (λ i. get_or c.args.dictionary.now i None)) c.deref.ensures.value in
    ap (λ column. Some column) picked
    ∙ sym (encoded_in-places c.args.size c.args.count c.len.result c.args.signed c.args.valid.now c.args.dictionary.now c.args.buffer.now (Some c.in-Some.at.items) c.requires.size (omega arith) c.len.ensures (found ∙ c.in_ok-at.ensures))
