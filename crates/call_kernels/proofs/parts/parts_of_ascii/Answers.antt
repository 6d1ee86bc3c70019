-- The parts are those that the definition gives, and of its kind.
use Rattle.std.proofs.Common.{ℕ, List, Option, map, refl, sym, ap, subst}
use Rattle.std.specs.List.{All}
use Rattle.sub_types.specs.Kind.{IsKind}
use Rattle.sub_types.specs.Nullable.{bytes_value}
use Rattle.sub_types.specs.Value.{InKind}
use Rattle.batch.specs.ColumnValues.{kind_storage}
use Rattle.call_kernels.proofs.PartLaws.{parts_fit, parts_made}
use Rattle.call_kernels.proofs.parts.parts_of_ascii.Goals as goal

pub invariant_of-column : goal.invariant_of-column
invariant_of-column c =
    let ty = c.args.ty in
    let ascii = c.are_ascii.ensures c.if-not-are_ascii.false in
    let fit = parts_fit c.args.before c.args.most c.args.all.now ascii c.args.start.now c.args.count.now c.requires.start c.requires.count ty (map bytes_value c.args.all.now) refl c.args.n c.requires.long c.requires.in_kind in
    record {
      valid_kind = subst IsKind (sym c.requires.kind) tt;
      stored = ap kind_storage (sym c.requires.kind);
      in_kind = subst (λ (parts : List (Option (List ℕ))). All (InKind ty.kind) (map bytes_value parts)) (sym c.in_ok-parts.ensures) fit;
    }

pub returns : goal.returns
returns c =
    let ascii = c.are_ascii.ensures c.if-not-are_ascii.false in
    parts_made c.args.before c.args.most c.args.all.now ascii c.args.start.now c.args.count.now c.requires.start c.requires.count c.args.ty (map bytes_value c.args.all.now) refl c.args.n c.requires.long
    _ (ap (map bytes_value) c.in_ok-parts.ensures) refl
