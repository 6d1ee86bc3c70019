use Rattle.std.proofs.Common.{Vec, Global, ◌≡◌, ◌≤◌, ℕ, List, All, length, map, sym, ap, subst, arith}
use Rattle.std.proofs.lemmas.List.{length-map}
use Rattle.std.proofs.lemmas.List.Elements.{All-from_recursion, recursion_from_All}
use Rattle.sub_types.specs.Kind.{IsKind}
use Rattle.sub_types.specs.Stream.{Stream, glue}
use Rattle.sub_types.specs.Value.{Fits}
use Rattle.sub_types.specs.declared.kind.Ty.{Ty}
use Rattle.batch.specs.declared.batch.Piece.{Piece}
use Rattle.batch.specs.BatchRows.{rows_of, stream_of_piece, types_of}
use Rattle.plan_denote.specs.Rows.{Row}
use Rattle.rel_specs.specs.declared.groups.SetSpec.{SetSpec}
use Rattle.plan_pipes.specs.declared.pipe.Breaker.TheVariants as breakers
use Rattle.plan_pipes.specs.RowMeaning.{grouped_by, sets_of}
use Rattle.denote_typed.proofs.RowsLaws.{Rows}
use Rattle.denote_typed.proofs.GroupSetLaws.{grouping_sets_fit}
use Rattle.group_sets.specs.States.{IsOf, IsFor}
use Rattle.group_sets.specs.declared.partial.SetsPartial.{SetsPartial}
use Rattle.pipe_types.specs.Exact.{gathered_types}
use Rattle.pipe_steps.specs.Ready.{IsFit}
use Rattle.pipe_parts.specs.Parts.{IsPart, ArePartsOf}
use Rattle.pipe_parts.specs.declared.part.Part.{Part}
use Rattle.pipe_parts.specs.declared.part.Part.TheVariants as kept
use Rattle.pipe_ends.proofs.EndLaws.{one_stream, one_holds}
use Rattle.pipe_ends.specs.Merged.{AreOf}
use Rattle.pipe_ends.proofs.PartLaws.{all_of, all_for, rows_fit}
use Rattle.pipe_ends.proofs.grouping.group_parts.Goals as goal

known : (spec : SetSpec) (piece : Piece) (partial : SetsPartial) → IsPart (breakers.GroupSets spec) piece (kept.Sets partial) → IsOf spec (stream_of_piece piece) partial × IsFor (types_of piece.batch) spec partial
known spec piece partial is = is

-- what is known of all rows
of_rows : (spec : SetSpec) (types : List Ty) (rows : Stream Row) (all : List Part) (partials : List SetsPartial) (partial : SetsPartial) → map kept.Sets partials ≡ all
    → ((streams : List (Stream Row)) → AreOf (IsOf spec) streams partials → IsOf spec (glue streams) partial) → ArePartsOf (breakers.GroupSets spec) types rows all → IsOf spec rows partial
of_rows spec types rows all partials partial held merged are =
    subst (λ (s : Stream Row). IsOf spec s partial) are.rows_are
    (merged (map stream_of_piece are.pieces) (all_of kept.Sets (breakers.GroupSets spec) (IsOf spec) (λ own one. IsFor own spec one) (known spec) types all partials held rows are))

pub merged_sets-requires-clause-over : goal.merged_sets-requires-clause-over
merged_sets-requires-clause-over c = record {
  kinds = recursion_from_All (λ (ty : Ty). IsKind ty.kind) c.args.types.now (c.are_kinds.ensures.0 c.if-not-are_kinds.false);
  groups = c.requires.over.0;
  measures = c.requires.over.3;
  few = omega (arith, length-map c.args.spec.now.sets.items (λ (set : Vec ℕ Global). set.items), c.args.spec.now.sets.ok.0);
}

pub merged_sets-requires-clause-given : goal.merged_sets-requires-clause-given
merged_sets-requires-clause-given c =
    let spec = c.args.spec.now in
    all_for kept.Sets (breakers.GroupSets spec) (IsOf spec) (λ own one. IsFor own spec one) (known spec) c.args.types.now c.args.parts.items c.in_ok-partials.partials.items c.in_ok-partials.ensures c.requires.given

pub finals-requires : goal.finals-requires
finals-requires c = record { over = (c.args.types.now, c.in_ok-partial.ensures.over) }

pub returns-clause-stream : goal.returns-clause-stream
returns-clause-stream c = λ rows are.
    let spec = c.args.spec.now in
    let of : IsOf spec rows c.in_ok-partial.partial = of_rows spec c.args.types.now rows c.args.parts.items c.in_ok-partials.partials.items c.in_ok-partial.partial c.in_ok-partials.ensures c.in_ok-partial.ensures.of are in
    one_stream c.in_ok-out.out.items c.in_ok-piece.piece (grouped_by spec rows) c.in_ok-out.ensures (c.in_ok-piece.ensures.stream rows of)

pub returns-clause-typed : goal.returns-clause-typed
returns-clause-typed c =
    one_holds (λ (piece : Piece). types_of piece.batch ≡ gathered_types (breakers.GroupSets c.args.spec.now) c.args.types.now) c.in_ok-out.out.items c.in_ok-piece.piece c.in_ok-out.ensures c.in_ok-piece.ensures.types

pub returns-clause-fit : goal.returns-clause-fit
returns-clause-fit c =
    let spec = c.args.spec.now in
    let types = c.args.types.now in
    let all = c.args.parts.items in
    let rows = c.requires.given.0 in
    let are = c.requires.given.1 in
    let piece = c.in_ok-piece.piece in
    let given = gathered_types (breakers.GroupSets spec) types in
    let of : IsOf spec rows c.in_ok-partial.partial = of_rows spec types rows all c.in_ok-partials.partials.items c.in_ok-partial.partial c.in_ok-partials.ensures c.in_ok-partial.ensures.of are in
    let few : length (sets_of spec) ≤ 64 = omega (arith, length-map spec.sets.items (λ (set : Vec ℕ Global). set.items), spec.sets.ok.0) in
    let fits : Rows (Fits given) (grouped_by spec rows) =
    grouping_sets_fit types spec.groups.items (sets_of spec) spec.measures.items c.requires.over.0 few c.requires.over.3 spec.relation rows (rows_fit (breakers.GroupSets spec) types rows all are) in
    let fit : All (Fits given) (rows_of piece.batch) =
    subst (All (Fits given)) (sym (ap (λ (one : Stream Row). one.rows) (c.in_ok-piece.ensures.stream rows of))) (All-from_recursion (Fits given) (grouped_by spec rows).rows fits) in
    one_holds (λ (one : Piece). IsFit one.batch) c.in_ok-out.out.items piece c.in_ok-out.ensures (subst (λ (own : List Ty). All (Fits own) (rows_of piece.batch)) (sym c.in_ok-piece.ensures.types) fit)
