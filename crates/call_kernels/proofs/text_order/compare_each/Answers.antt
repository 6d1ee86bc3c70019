-- One comparison more, and all of them.
use Rattle.std.proofs.Common.{◌≡◌, ◌∙◌, ◌+◌, ◌<◌, ◌≤◌, List, [], ◌∷◌, ◌++◌, length, map, take, Bool, Option, Ok, rules, arith, sym, ap, ap₂, subst}
use Rattle.std.specs.Simd.Lanes.{zip2}
use Rattle.std.proofs.lemmas.List.{length-map}
use Rattle.sub_types.specs.Nullable.{bool_value, bytes_value}
use Rattle.plan_denote.specs.Computed.{Computed}
use Rattle.plan_denote.specs.Logic as logic
use Rattle.kernels.specs.Numbers.{test_of}
use Rattle.call_kernels.specs.Texts.{listed}
use Rattle.call_kernels.proofs.PlaceLaws.{zipped_more, zipped_all, text_place}
use Rattle.call_kernels.proofs.text_order.compare_each.Goals as goal

pub loop-i-preserved : goal.loop-i-preserved
loop-i-preserved c =
    let f = logic.compared (test_of c.args.op) in
    let n = c.args.n in
    let i = c.loop-i.i in
    let a = map bytes_value (listed n c.args.a.now) in
    let b = map bytes_value (listed n c.args.b.now) in
    let see = λ (truth : Option Bool). let one : Computed = Ok (bool_value truth) in one in
    let below : i < n = search rules in
    let long_a : length a ≡ n = length-map (listed n c.args.a.now) bytes_value ∙ c.requires.a in
    let long_b : length b ≡ n = length-map (listed n c.args.b.now) bytes_value ∙ c.requires.b in
    let grown : c.push.new.self ≡ c.loop-i.column ++ c.compared.result ∷ [] = search rules in
    let is = c.compared.ensures ∙ ap₂ f (ap bytes_value c.bytes_at.ensures ∙ text_place c.args.a.now n i below) (ap bytes_value c.bytes_at-in-loop-i.ensures ∙ text_place c.args.b.now n i below) in
    subst (λ (made : List (Option Bool)). map see made ≡ take (i + 1) (zip2 f a b)) (sym grown) (zipped_more f a b see c.loop-i.column i c.compared.result (long_a ∙ sym long_b) (omega (arith, below, long_a)) c.loop-i.invariant is)

pub returns : goal.returns
returns c =
    let f = logic.compared (test_of c.args.op) in
    let n = c.args.n in
    let a = map bytes_value (listed n c.args.a.now) in
    let b = map bytes_value (listed n c.args.b.now) in
    let end : n ≤ c.loop-i.i = search rules in
    ap (map (λ truth. Ok (bool_value truth))) c.finish.ensures ∙ c.loop-i.invariant
    ∙ zipped_all f a b n c.loop-i.i (length-map (listed n c.args.a.now) bytes_value ∙ c.requires.a) (length-map (listed n c.args.b.now) bytes_value ∙ c.requires.b) end
