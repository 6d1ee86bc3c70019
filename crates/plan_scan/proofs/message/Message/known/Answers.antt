use Rattle.std.proofs.Common.{◌∙◌, ◌<◌, length, sym, ap, arith}
use Rattle.std.proofs.lemmas.Bool.{ltb-true}
use Rattle.pb_wire.specs.Payloads.{fields_of, blocks}
use Rattle.plan_scan.specs.Scanned.{Scanned}
use Rattle.plan_scan.specs.Pieces.{pieces_of}
use Rattle.plan_scan.proofs.IndexLaws.{list_of_field}
use Rattle.plan_scan.proofs.message.Message.known.Goals as goal

pub returns-in-Some : goal.returns-in-Some
returns-in-Some c =
    let within : c.args.number < length c.self.inside.index.now = ltb-true _ _ (sym c.in-Some.ensures.lookup.0) in
    ap pieces_of c.deref.ensures.value
    ∙ list_of_field 0 c.args.number c.args.number c.self.inside.index.now c.in-Some.found.now _ (omega arith) within c.in-Some.ensures.lookup.1 c.self.invariant.1
    ∙ ap (λ (m : Scanned). blocks c.args.number (fields_of m.bytes)) c.self.view_is
