use Rattle.std.proofs.Common.{◌∙◌, Some, map, ap, sym, arith}
use Rattle.std.proofs.lemmas.List.{take_all}
use Rattle.sub_types.specs.OptionSteps.{all_of}
use Rattle.arrow_decode.specs.Indices.{optional_indices, place_among}
use Rattle.arrow_decode.proofs.IndexLaws.{length-optional_indices, place_of, names_nothing, places_more, room_for_index}
use Rattle.arrow_decode.proofs.index.places.Goals as goal

pub place_at-requires-clause-within : goal.place_at-requires-clause-within
place_at-requires-clause-within c = room_for_index c.args.size c.args.count c.loop-i.i c.args.buffer.now c.requires.within (omega arith)

pub returns-in_default : goal.returns-in_default
returns-in_default c =
    let indices = optional_indices c.args.size c.args.signed c.args.count c.args.valid.now c.args.buffer.now in
    let long = length-optional_indices c.args.size c.args.count c.args.signed c.args.valid.now c.args.buffer.now c.requires.long in
    let here = place_of c.args.values c.args.size c.args.count c.args.signed c.args.valid.now c.args.buffer.now c.loop-i.i c.place_at.result c.requires.long (omega arith) c.place_at.ensures.null c.place_at.ensures.valid in
    sym (names_nothing c.args.values indices c.loop-i.i (omega (arith, long)) (here ∙ c.in_default.is))

pub loop-i-preserved : goal.loop-i-preserved
loop-i-preserved c =
    let indices = optional_indices c.args.size c.args.signed c.args.count c.args.valid.now c.args.buffer.now in
    let long = length-optional_indices c.args.size c.args.count c.args.signed c.args.valid.now c.args.buffer.now c.requires.long in
    let here = place_of c.args.values c.args.size c.args.count c.args.signed c.args.valid.now c.args.buffer.now c.loop-i.i c.place_at.result c.requires.long (omega arith) c.place_at.ensures.null c.place_at.ensures.valid in
    places_more c.args.values indices c.loop-i.i c.loop-i.at.items c.in-Some.place (omega (arith, long)) c.loop-i.invariant (here ∙ c.in-Some.is) ∙ ap (λ xs. Some xs) (sym c.in_ok-push.ensures.items)

pub returns : goal.returns
returns c =
    let indices = optional_indices c.args.size c.args.signed c.args.count c.args.valid.now c.args.buffer.now in
    let long = length-optional_indices c.args.size c.args.count c.args.signed c.args.valid.now c.args.buffer.now c.requires.long in
    let all = take_all c.loop-i.i indices (omega (arith, long)) in
    sym (ap (λ xs. all_of (map (place_among c.args.values) xs)) (sym all) ∙ c.loop-i.invariant)
