use Rattle.std.proofs.Common.{◌∙◌, ◌<◌, ◌≤◌, ℕ, length, map, arith, rules, Vec, Global}
use Rattle.std.proofs.lemmas.List.{length-map}
use Rattle.set_rows.proofs.RowLaws.{numbered, unnumbered}
use Rattle.set_rows.proofs.rows.set_number.Goals as goal

pub returns-then-places-le1 : goal.returns-then-places-le1
returns-then-places-le1 c =
    let places = map (λ (set : Vec ℕ Global). set.items) c.args.places.now in
    let few : length places ≤ 1 = omega (arith, c.if-places-le1.true, length-map c.args.places.now (λ (set : Vec ℕ Global). set.items)) in
    c.new-last.ensures ∙ unnumbered places c.args.place few

pub returns : goal.returns
returns c =
    let places = map (λ (set : Vec ℕ Global). set.items) c.args.places.now in
    let many : 1 < length places = omega (arith, c.if-places-le1.false, length-map c.args.places.now (λ (set : Vec ℕ Global). set.items)) in
    search (rules, numbered places c.args.place many)
