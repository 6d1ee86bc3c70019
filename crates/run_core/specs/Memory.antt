-- The machine as it lies in memory.
use Rattle.std.specs.Prelude.{◌≡◌, ◌<◌, Bool, All, length, map, vec_len, MatchBool}
use Rattle.std.specs.Vec.{vec_capacity}
use Rattle.std.specs.VecDeque.{deque_len, deque_capacity}
use Rattle.run_core.specs.Receipts.{lists_of}
use Rattle.run_core.specs.Machine.{Machine, IsAllowed, after}
use Rattle.run_core.specs.declared.event.Event.{Event}
use Rattle.run_core.specs.declared.receipt.Receipt.{Receipt}
use Rattle.run_core.specs.declared.state.State.{State}

-- the state without where it lies in memory
abbrev pub machine_of : State → Machine
machine_of s = record { count = s.count; bound = s.bound; next = s.next; queue = s.queue.items; held = s.held.items; receipts = map lists_of s.receipts.items }

-- each list takes one more number without memory
pub record HasRoom (r : Receipt) : Type 0 where
  pub claimed : vec_len r.claimed < vec_capacity r.claimed
  pub offered : vec_len r.offered < vec_capacity r.offered
  pub taken : vec_len r.taken < vec_capacity r.taken
  pub finished : vec_len r.finished < vec_capacity r.finished

-- any one event can be done without memory
pub record IsReady (s : State) : Type 0 where
  pub workers : length s.held.items ≡ length s.receipts.items
  pub queue : deque_len s.queue < deque_capacity s.queue
  pub receipts : All HasRoom s.receipts.items

-- the event is allowed and was done, or it isn't and nothing changed
abbrev pub Does : Bool → Event → Machine → Machine → Type 0
Does done e old new = MatchBool done (IsAllowed old e × (new ≡ after old e)) ((¬ (IsAllowed old e)) × (new ≡ old))
