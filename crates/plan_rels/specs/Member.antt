-- The message of a relation's member, by the member's number.
use Rattle.std.specs.Prelude.{ℕ, List, ◌==◌, if◌then◌else◌}
use Rattle.pb_wire.specs.Payloads.{Field}
use Rattle.plan_raw.specs.declared.rel.RawRel.{RawRel}
use Rattle.plan_raw.specs.declared.rel.RawRel.TheVariants as rel
use Rattle.plan_parts.specs.Shapes.{Reader}
use Rattle.plan_parts.specs.Rels as rels

-- what the records of the message are read as
abbrev pub rel_in : Reader → ℕ → List Field → RawRel
rel_in r number fields =
    if number == 1 then rels.read_by r fields
    else if number == 2 then rels.filter_by r fields
    else if number == 3 then rels.fetch_by r fields
    else if number == 4 then rels.aggregate_by r fields
    else if number == 5 then rels.sort_by r fields
    else if number == 6 then rels.join_by r fields
    else if number == 7 then rels.project_by r fields
    else if number == 8 then rels.set_by r fields
    else if number == 12 then rels.cross_by r fields
    else rel.Unknown number
