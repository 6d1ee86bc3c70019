use Rattle.std.proofs.Common.{◌∙◌, ◌++◌, [], ap, refl, append-nil}
use Rattle.std.proofs.lemmas.Bool.{and_from}
use Rattle.pb_wire.specs.Payloads.{fields_of, blocks}
use Rattle.pb_wire.proofs.FieldLaws.{none_left}
use Rattle.plan_scan.specs.Pieces.{pieces_of}
use Rattle.plan_scan.proofs.blocks.Blocks.of.Goals as goal

pub new-requires : goal.new-requires
new-requires c = and_from _ _ (none_left [] refl).1 refl

pub returns : goal.returns
returns c = ap (λ bytes. pieces_of c.args.known.now ++ blocks 0 (fields_of bytes)) c.new.ensures ∙ ap (λ fields. pieces_of c.args.known.now ++ blocks 0 fields) (none_left [] refl).0 ∙ append-nil (pieces_of c.args.known.now)
