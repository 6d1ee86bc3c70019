-- A relation read by its winner.
use Rattle.std.proofs.Common.{◌≡◌, ℕ, ◌+◌, List, Some, refl, ap}
use Rattle.pb_wire.specs.Payloads.{Field, fields_of, merged_message}
use Rattle.plan_scan.specs.declared.shape.Shape.{Shape}
use Rattle.plan_scan.specs.declared.shape.Shape.TheVariants as s
use Rattle.plan_scan.specs.Table.{use_of, HoldsMessage}
use Rattle.plan_raw.specs.declared.rel.RawRel.TheVariants as rel
use Rattle.plan_parts.specs.Shapes.{Reader}
use Rattle.plan_parts.specs.Rels.{rel_member}
use Rattle.plan_parts.specs.Reader.{reader}
use Rattle.plan_parts.proofs.ReaderLaws.{by_number, not_this, found_is}
use Rattle.plan_rels.specs.Member.{rel_in}

-- a member whose message was found
pub member_found : (below above number : ℕ) (fields : List Field) (bytes : List ℕ) → below + 1 ≡ above → merged_message number fields ≡ Some bytes → rel_member (reader above) number fields ≡ rel_in (reader below) number (fields_of bytes)
member_found below above number fields bytes one merged =
    by_number number 1 _ _ _ _ (λ e. found_is below above s.ReadRel number 1 fields bytes rel.Missing one e merged) (
    by_number number 2 _ _ _ _ (λ e. found_is below above s.FilterRel number 2 fields bytes rel.Missing one e merged) (
    by_number number 3 _ _ _ _ (λ e. found_is below above s.FetchRel number 3 fields bytes rel.Missing one e merged) (
    by_number number 4 _ _ _ _ (λ e. found_is below above s.AggregateRel number 4 fields bytes rel.Missing one e merged) (
    by_number number 5 _ _ _ _ (λ e. found_is below above s.SortRel number 5 fields bytes rel.Missing one e merged) (
    by_number number 6 _ _ _ _ (λ e. found_is below above s.JoinRel number 6 fields bytes rel.Missing one e merged) (
    by_number number 7 _ _ _ _ (λ e. found_is below above s.ProjectRel number 7 fields bytes rel.Missing one e merged) (
    by_number number 8 _ _ _ _ (λ e. found_is below above s.SetRel number 8 fields bytes rel.Missing one e merged) (
    by_number number 12 _ _ _ _ (λ e. found_is below above s.CrossRel number 12 fields bytes rel.Missing one e merged) (
    refl)))))))))

-- a member that isn't named
pub member_unknown : (r : Reader) (number : ℕ) (fields : List Field) → ((inner : Shape) → HoldsMessage s.Rel number inner → ⊥) → rel_member r number fields ≡ rel.Unknown number
member_unknown r number fields unnamed =
    not_this number 1 _ _ _ (λ e. unnamed s.ReadRel (ap (use_of s.Rel) e)) (
    not_this number 2 _ _ _ (λ e. unnamed s.FilterRel (ap (use_of s.Rel) e)) (
    not_this number 3 _ _ _ (λ e. unnamed s.FetchRel (ap (use_of s.Rel) e)) (
    not_this number 4 _ _ _ (λ e. unnamed s.AggregateRel (ap (use_of s.Rel) e)) (
    not_this number 5 _ _ _ (λ e. unnamed s.SortRel (ap (use_of s.Rel) e)) (
    not_this number 6 _ _ _ (λ e. unnamed s.JoinRel (ap (use_of s.Rel) e)) (
    not_this number 7 _ _ _ (λ e. unnamed s.ProjectRel (ap (use_of s.Rel) e)) (
    not_this number 8 _ _ _ (λ e. unnamed s.SetRel (ap (use_of s.Rel) e)) (
    not_this number 12 _ _ _ (λ e. unnamed s.CrossRel (ap (use_of s.Rel) e)) (
    refl)))))))))
