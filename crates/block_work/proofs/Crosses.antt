-- Which of a table's steps many threads may share: each thread has a work of its own, and all of them the steps and the table.
use denote.Builtin.{u32}
use denote.Param.Send.{IsSend, IsSync, sendable, recorded_send, recorded_sync, shr_send, shr_slice_sync, shr_sync, struct_send, struct_sync}
use denote.Ref.{NamedLft}
use denote.Struct.Declared as structs
use denote.Struct.Field.{u32-field}
use Rattle.block_source.proofs.table.TableBlocks.TheSendSync as blocks_shared
use Rattle.block_source.specs.contracts.table.TableBlocks as blocks
use Rattle.pipe_work.proofs.Crosses.{pipe_row}
use Rattle.pipe_work.specs.contracts.pipe.PipeSteps as pipe
use Rattle.block_work.specs.contracts.reading.TableSteps as steps
use Rattle.block_work.specs.contracts.work.BlockWork as work

number_field : IsSync u32-field.row
number_field = search sendable

steps_row : (a b : NamedLft) → IsSync (steps.the_row a b)
steps_row a b = recorded_sync (steps.the_field a b).row _ _ (steps.the_type a b).to_one (struct_sync (structs.shape (steps.the_type a b)) (
  shr_sync _ _ (pipe.the_row b) (pipe_row b),
  (shr_sync _ _ blocks.the_row blocks_shared.the_sync, (shr_slice_sync _ _ u32 number_field, (number_field, tt))),
))

pub work_row : (a b c : NamedLft) → IsSend (work.the_row a b c)
work_row a b c = recorded_send (work.the_field a b c).row _ _ (work.the_type a b c).to_one (struct_send (structs.shape (work.the_type a b c)) (shr_send _ _ (steps.the_row b c) (steps_row b c), tt))
