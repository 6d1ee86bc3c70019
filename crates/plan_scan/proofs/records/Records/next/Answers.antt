use Rattle.std.proofs.Common.{◌≡◌, ◌∙◌, ◌∷◌, ◌++◌, sym, ap, List, ℕ, true, drop, Some, Result, Ok, subst}
use Rattle.std.specs.List.{concat}
use Rattle.std.proofs.lemmas.Bool.{and_parts}
use Rattle.pb_wire.specs.declared.record.Record.{Record}
use Rattle.pb_wire.specs.Payloads.{fields_of, is_whole}
use Rattle.pb_wire.specs.Seen.{IsFirstField, field_seen}
use Rattle.plan_scan.specs.Pieces.{pieces_of}
use Rattle.plan_scan.proofs.PieceLaws.{first_of_pieces}
use Rattle.plan_scan.proofs.records.Records.next.Goals as goal

pub returns-in-Some-Ok-clause-first : goal.returns-in-Some-Ok-clause-first
returns-in-Some-Ok-clause-first c =
    let later : List ℕ = concat (pieces_of (drop c.loop-found.self-inside.index c.loop-found.self-inside.later.now)) in
    let P : Result Record ℕ → Type 0 = λ next. IsFirstField c.new-fields.result c.next.new.self (Some next) in
    let first : IsFirstField c.new-fields.result c.next.new.self (Some (Ok c.in-Some-Ok.found)) = subst P c.in-Some-Ok.field-0-is c.in-Some-Ok.ensures.field in
    let rest : c.new-fields.result.bytes ≡ c.loop-found.self-inside.rest.now = ap (λ r. r.bytes) c.new-fields.ensures in
    let whole : is_whole c.new-fields.result.bytes ≡ true = ap is_whole rest ∙ (and_parts _ _ c.loop-found.invariant.whole).0 in
    ap fields_of (sym c.loop-found.invariant.same ∙ ap (λ r. r ++ later) (sym rest))
    ∙ first_of_pieces c.new-fields.result.bytes c.next.new.self.bytes later (field_seen c.in-Some-Ok.found) whole first
    ∙ ap (λ r. field_seen c.in-Some-Ok.found ∷ fields_of (r ++ later)) (sym c.rest-self-inside.ensures)
