-- One part more, and all of them.
use Rattle.std.proofs.Common.{rules, ◌≡◌, ◌∙◌, ◌<◌, ◌≤◌, ◌∷◌, ◌++◌, [], ℕ, List, Option, None, length, map, take, drop, option_copied, option_map, sym, ap, ap₂}
use Rattle.std.proofs.lemmas.List.{map_more, take_all}
use Rattle.call_kernels.proofs.parts.parts_of.Goals as goal

pub loop-i-preserved : goal.loop-i-preserved
loop-i-preserved c =
    let cut = λ (text : List ℕ). take c.args.most (drop c.args.before text) in
    let all = c.args.all.now in
    let i = c.loop-i.i in
    let below : i < length all = search rules in
    let grown : c.push.new.self ≡ c.loop-i.parts ++ option_copied c.part_if.result ∷ [] = search rules in
    let is = c.part_if.ensures ∙ ap (option_map cut) c.value_at.ensures in
    grown ∙ ap₂ (λ (made : List (Option (List ℕ))) (one : Option (List ℕ)). made ++ one ∷ []) c.loop-i.invariant is ∙ sym (map_more (option_map cut) all i None below)

pub returns : goal.returns
returns c =
    let cut = λ (text : List ℕ). take c.args.most (drop c.args.before text) in
    let all = c.args.all.now in
    let end : length all ≤ c.loop-i.i = search rules in
    c.finish.ensures ∙ c.loop-i.invariant ∙ ap (map (option_map cut)) (take_all c.loop-i.i all end)
