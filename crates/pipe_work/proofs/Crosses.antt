-- Which of a pipeline's parts many threads may share: its steps, tables and breaker, and a piece that is held with them. And what is kept of a piece goes from thread to thread.
use mathlib.Core.List.{[], ◌∷◌}
use denote.Builtin.{u32, u64}
use denote.Enum.Declared as enums
use denote.Param.Send.{IsSend, IsSync, sendable, enum_send, enum_sync, recorded_send, recorded_sync, shr_slice_sync, shr_sync, struct_send, struct_sync, view_sync}
use denote.RattleType.{RattleType}
use denote.Ref.{NamedLft}
use denote.Struct.Declared as structs
use denote.Struct.Field.{bool-field, u32-field, u64-field}
use denote.Struct.Tuple.{Tuple}
use Rattle.std.proofs.Crossing as crossing
use Rattle.std.proofs.alloc.Global.TheSendSync as heap_shared
use Rattle.std.proofs.option.Option.TheSendSync as option_shared
use Rattle.std.proofs.vec.Vec.TheSendSync as vec_shared
use Rattle.std.specs.contracts.alloc.Global as heap
use Rattle.std.specs.contracts.impls.GlobalAllocator.TheImpl.{ghosts}
use Rattle.std.specs.contracts.vec.Vec as vec
use Rattle.sub_types.proofs.byte_list.ByteList.TheSendSync as bytes_shared
use Rattle.sub_types.proofs.fault.Fault.TheSendSync as fault_shared
use Rattle.sub_types.proofs.kind.Ty.TheSendSync as ty_shared
use Rattle.sub_types.proofs.value.Value.TheSendSync as value_shared
use Rattle.sub_types.specs.contracts.byte_list.ByteList as bytes
use Rattle.sub_types.specs.contracts.fault.Fault as fault
use Rattle.sub_types.specs.contracts.kind.Ty as ty
use Rattle.sub_types.specs.contracts.value.Value as value
use Rattle.plan_leaves.proofs.boxed.Boxed.TheSendSync as boxed_shared
use Rattle.plan_leaves.proofs.items.Items.TheSendSync as items_shared
use Rattle.plan_typed.proofs.expr.Expr.TheLaws.TheKnot as expr_knot
use Rattle.plan_typed.proofs.expr.Func.TheSendSync as func_shared
use Rattle.plan_typed.proofs.expr.Overflow.TheSendSync as overflow_shared
use Rattle.plan_typed.proofs.rel.JoinKind.TheSendSync as kind_shared
use Rattle.plan_typed.specs.contracts.expr.Expr as expr
use Rattle.plan_typed.specs.contracts.rel.SetMeasure as set_measure
use Rattle.plan_typed.specs.contracts.rel.TypedMeasure as measure
use Rattle.batch.proofs.batch.Piece.TheSendSync as piece_shared
use Rattle.rel_specs.proofs.key_order.KeyOrder.TheSendSync as key_shared
use Rattle.rel_specs.specs.contracts.groups.AggSpec as groups
use Rattle.rel_specs.specs.contracts.groups.SetSpec as sets
use Rattle.rel_specs.specs.contracts.join.JoinSpec as spec
use Rattle.rel_specs.specs.contracts.key_order.KeyOrder as key
use Rattle.join_marks.proofs.row_marks.Marks.TheSendSync as marks_shared
use Rattle.join_marks.specs.contracts.row_marks.Marks as marks
use Rattle.aggregate.proofs.partial.Partial.TheSendSync as partial_shared
use Rattle.group_sets.proofs.state.State.TheSendSync as sets_state_shared
use Rattle.group_sets.specs.contracts.partial.SetsPartial as sets_partial
use Rattle.plan_pipes.specs.contracts.pipe.Breaker as breaker
use Rattle.plan_pipes.specs.contracts.pipe.Step as step
use Rattle.hash_chains.proofs.table.Chains.TheSendSync as chains_shared
use Rattle.join_keys.proofs.keyed_rows.KeyedBatch.TheSendSync as keyed_shared
use Rattle.join_keys.specs.contracts.keyed_rows.KeyedBatch as keyed
use Rattle.hash_join.proofs.build_part.BuildPart.TheSendSync as build_shared
use Rattle.hash_join.specs.contracts.table.JoinTable as table
use Rattle.hash_join.specs.contracts.table.JoinTable.TheInside as table_inside
use Rattle.pipe_steps.specs.contracts.built.BuiltTable as built
use Rattle.pipe_parts.specs.contracts.part.Part as part
use Rattle.pipe_work.specs.contracts.held.HeldPiece as held
use Rattle.pipe_work.specs.contracts.kept.Kept as kept
use Rattle.pipe_work.specs.contracts.pipe.PipeSteps as pipe
use Rattle.pipe_work.specs.contracts.pipe.PipeSteps.TheInside as pipe_inside

number_field : IsSync u32-field.row
number_field = search sendable

count_field : IsSync u64-field.row
count_field = search sendable

truth_field : IsSync bool-field.row
truth_field = search sendable

vec_of : (T : RattleType) → IsSync T → IsSync (vec.the_row T heap.the_row ghosts)
vec_of T shared = vec_shared.the_sync T heap.the_row ghosts shared heap_shared.the_sync

-- ---- expressions, which hold expressions

expr_field : IsSync expr.the_field.row
expr_field =
    expr_knot.sync-Expr value_shared.the_field_sync ty_shared.the_field_sync number_field func_shared.the_field_sync overflow_shared.the_field_sync
    items_shared.the_sync
    (λ one shared. items_shared.the_sync (Tuple (one ∷ one ∷ [])) (search sendable))
    boxed_shared.the_sync
    (λ one shared. items_shared.the_sync (Tuple (value.the_row ∷ one ∷ [])) (let own = value_shared.the_sync in search sendable))
    truth_field

expr_row : IsSync expr.the_row
expr_row = recorded_sync expr.the_field.row _ _ expr.the_type.to_one expr_field

-- ---- steps, and the tables of joins

step_row : IsSync step.the_row
step_row = recorded_sync step.the_field.row _ _ step.the_type.to_one (enum_sync (enums.shape step.the_type) (
  (
    number_field,
    (
      items_shared.the_sync bytes.the_row bytes_shared.the_sync,
      (items_shared.the_sync ty.the_row ty_shared.the_sync, (option_shared.the_field_sync expr.the_row expr_row, (items_shared.the_sync u32 number_field, tt))),
    ),
  ),
  (
    (number_field, (expr_field, tt)),
    ((number_field, (items_shared.the_sync expr.the_row expr_row, tt)), ((items_shared.the_sync u32 number_field, tt), ((number_field, tt), tt))),
  ),
))

spec_field : IsSync spec.the_field.row
spec_field = struct_sync (structs.shape spec.the_type) (
  kind_shared.the_field_sync,
  (
    vec_of (Tuple (u32 ∷ u32 ∷ [])) (search sendable),
    (vec_of expr.the_row expr_row, (vec_of ty.the_row ty_shared.the_sync, (vec_of ty.the_row ty_shared.the_sync, (number_field, tt)))),
  ),
)

table_row : IsSync table.the_row
table_row = view_sync table_inside.the_row _ _ _ _ (recorded_sync table_inside.the_field.row _ _ table_inside.the_type.to_one (struct_sync (structs.shape table_inside.the_type) (
  spec_field,
  (chains_shared.the_field_sync keyed.the_row keyed_shared.the_sync, tt),
)))

built_row : IsSync built.the_row
built_row = recorded_sync built.the_field.row _ _ built.the_type.to_one (struct_sync (structs.shape built.the_type) (table_row, (option_shared.the_field_sync fault.the_row fault_shared.the_sync, tt)))

-- ---- breakers

measure_field : IsSync measure.the_field.row
measure_field = struct_sync (structs.shape measure.the_type) (
  func_shared.the_field_sync,
  (option_shared.the_field_sync expr.the_row expr_row, (option_shared.the_field_sync expr.the_row expr_row, (ty_shared.the_field_sync, tt))),
)

measure_row : IsSync measure.the_row
measure_row = recorded_sync measure.the_field.row _ _ measure.the_type.to_one measure_field

set_measure_row : IsSync set_measure.the_row
set_measure_row = recorded_sync set_measure.the_field.row _ _ set_measure.the_type.to_one (struct_sync (structs.shape set_measure.the_type) (measure_field, (truth_field, tt)))

groups_field : IsSync groups.the_field.row
groups_field = struct_sync (structs.shape groups.the_type) (vec_of expr.the_row expr_row, (vec_of measure.the_row measure_row, (number_field, tt)))

sets_field : IsSync sets.the_field.row
sets_field = struct_sync (structs.shape sets.the_type) (
  vec_of expr.the_row expr_row,
  (vec_of (vec.the_row u32 heap.the_row ghosts) (vec_of u32 number_field), (vec_of set_measure.the_row set_measure_row, (number_field, tt))),
)

breaker_row : IsSync breaker.the_row
breaker_row = recorded_sync breaker.the_field.row _ _ breaker.the_type.to_one (enum_sync (enums.shape breaker.the_type) (
  tt,
  (
    (count_field, (option_shared.the_field_sync u64 count_field, tt)),
    ((groups_field, tt), ((items_shared.the_sync key.the_row key_shared.the_sync, tt), ((spec_field, tt), ((sets_field, tt), tt)))),
  ),
))

-- ---- what is shared

pub pipe_row : (a : NamedLft) → IsSync (pipe.the_row a)
pipe_row a = view_sync (pipe_inside.the_row a) _ _ _ _ (recorded_sync (pipe_inside.the_field a).row _ _ (pipe_inside.the_type a).to_one (struct_sync (structs.shape (pipe_inside.the_type a)) (
  shr_slice_sync _ _ step.the_row step_row,
  (shr_slice_sync _ _ built.the_row built_row, (shr_slice_sync _ _ ty.the_row ty_shared.the_sync, (shr_sync _ _ breaker.the_row breaker_row, tt))),
)))

pub held_row : (a b : NamedLft) → IsSync (held.the_row a b)
held_row a b = recorded_sync (held.the_field a b).row _ _ (held.the_type a b).to_one (struct_sync (structs.shape (held.the_type a b)) (shr_sync _ _ (pipe.the_row b) (pipe_row b), (piece_shared.the_field_sync, tt)))

-- ---- what is kept of a piece

number_sent : IsSend u32-field.row
number_sent = search sendable

truth_sent : IsSend bool-field.row
truth_sent = search sendable

vec_sent : (T : RattleType) → IsSend T → IsSend (vec.the_row T heap.the_row ghosts)
vec_sent T sent = vec_shared.the_send T heap.the_row ghosts sent heap_shared.the_send crossing.frees

expr_sent_field : IsSend expr.the_field.row
expr_sent_field =
    expr_knot.send-Expr value_shared.the_field_send ty_shared.the_field_send number_sent func_shared.the_field_send overflow_shared.the_field_send
    items_shared.the_send
    (λ one sent. items_shared.the_send (Tuple (one ∷ one ∷ [])) (search sendable))
    boxed_shared.the_send
    (λ one sent. items_shared.the_send (Tuple (value.the_row ∷ one ∷ [])) (let own = value_shared.the_send in search sendable))
    truth_sent

expr_sent : IsSend expr.the_row
expr_sent = recorded_send expr.the_field.row _ _ expr.the_type.to_one expr_sent_field

measure_sent : IsSend measure.the_row
measure_sent = recorded_send measure.the_field.row _ _ measure.the_type.to_one (struct_send (structs.shape measure.the_type) (
  func_shared.the_field_send,
  (option_shared.the_field_send expr.the_row expr_sent, (option_shared.the_field_send expr.the_row expr_sent, (ty_shared.the_field_send, tt))),
))

sets_sent : IsSend sets_partial.the_field.row
sets_sent = struct_send (structs.shape sets_partial.the_type) (sets_state_shared.the_field_send, (vec_sent measure.the_row measure_sent, tt))

part_sent : IsSend part.the_field.row
part_sent = enum_send (enums.shape part.the_type) (
  (piece_shared.the_field_send, tt),
  (
    (partial_shared.the_field_send, tt),
    ((sets_sent, tt), ((build_shared.the_field_send, (option_shared.the_field_send fault.the_row fault_shared.the_send, tt)), tt)),
  ),
)

pub kept_row : IsSend kept.the_row
kept_row = recorded_send kept.the_field.row _ _ kept.the_type.to_one (struct_send (structs.shape kept.the_type) (part_sent, (vec_sent marks.the_row marks_shared.the_send, tt)))
