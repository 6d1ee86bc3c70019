-- The machine of a run: workers claim numbers, pass them on through a bounded queue, and finish them.
use Rattle.std.specs.Prelude.{◌≡◌, ℕ, ◌+◌, ◌-◌, ◌<◌, ◌≤◌, List, [], ◌∷◌, ◌++◌, All, Option, Some, None, length, drop, replicate, slice_get, slice_index, slice_index_or, slice_set, sum_by}
use Rattle.run_core.specs.Counts.{times, once_below}
use Rattle.run_core.specs.Receipts.{Lists, no_lists, total}
use Rattle.run_core.specs.declared.event.Event.{Event}
use Rattle.run_core.specs.declared.event.Event.TheVariants.{Claim, Put, Refuse, Take, Finish}
use Rattle.run_core.specs.declared.event.Held.{Held}
use Rattle.run_core.specs.declared.event.Held.TheVariants.{Fresh, Due}

-- how many numbers there are, how many the queue takes, the next number to claim, the queue from its front, and of each worker what it holds and its lists
pub record Machine : Type 0 where
  pub count : ℕ
  pub bound : ℕ
  pub next : ℕ
  pub queue : List ℕ
  pub held : List (Option Held)
  pub receipts : List Lists

-- nothing is claimed
abbrev pub start : ℕ → ℕ → ℕ → Machine
start n workers bound = record { count = n; bound = bound; next = 0; queue = []; held = replicate workers None; receipts = replicate workers no_lists }

-- the worker is there and holds nothing
abbrev pub IsIdle : Machine → ℕ → Type 0
IsIdle m w = slice_get m.held w ≡ Some None

-- the worker holds a number that it has just claimed
abbrev pub HoldsFresh : Machine → ℕ → Type 0
HoldsFresh m w = (x : ℕ) × (slice_get m.held w ≡ Some (Some (Fresh x)))

-- the worker holds a number that it has to work
abbrev pub HoldsDue : Machine → ℕ → Type 0
HoldsDue m w = (x : ℕ) × (slice_get m.held w ≡ Some (Some (Due x)))

-- where the event is allowed
abbrev pub IsAllowed : Machine → Event → Type 0
IsAllowed m (Claim w) = IsIdle m w × (m.next < m.count)
IsAllowed m (Put w) = HoldsFresh m w × (length m.queue < m.bound)
IsAllowed m (Refuse w) = HoldsFresh m w × (length m.queue ≡ m.bound)
IsAllowed m (Take w) = IsIdle m w × (0 < length m.queue)
IsAllowed m (Finish w) = HoldsDue m w

-- what the worker holds
abbrev pub held_by : Machine → ℕ → Option Held
held_by m w = slice_index_or m.held w None

-- the number that is held, fresh or due
abbrev pub number_in : Option Held → ℕ
number_in None = 0
number_in (Some (Fresh x)) = x
number_in (Some (Due x)) = x

-- the number that the worker holds
abbrev pub number_of : Machine → ℕ → ℕ
number_of m w = number_in (held_by m w)

-- the worker's lists
abbrev pub receipt_of : Machine → ℕ → Lists
receipt_of m w = slice_index_or m.receipts w no_lists

-- the worker now holds this
abbrev pub holding : Machine → ℕ → Option Held → Machine
holding m w h = record m { held = slice_set m.held w h }

-- the worker's lists are changed so
abbrev pub noting : Machine → ℕ → (Lists → Lists) → Machine
noting m w f = record m { receipts = slice_set m.receipts w (f (receipt_of m w)) }

-- the state after the event, where it is allowed
abbrev pub after : Machine → Event → Machine
after m (Claim w) = record (noting (holding m w (Some (Fresh m.next))) w (λ r. record r { claimed = r.claimed ++ m.next ∷ [] })) { next = m.next + 1 }
after m (Put w) = record (noting (holding m w None) w (λ r. record r { offered = r.offered ++ number_of m w ∷ [] })) { queue = m.queue ++ number_of m w ∷ [] }
after m (Refuse w) = holding m w (Some (Due (number_of m w)))
after m (Take w) = let front = slice_index m.queue 0 in record (noting (holding m w (Some (Due front))) w (λ r. record r { taken = r.taken ++ front ∷ [] })) { queue = drop 1 m.queue }
after m (Finish w) = noting (holding m w None) w (λ r. record r { finished = r.finished ++ number_of m w ∷ [] })

-- these events, each allowed in its turn, lead from the one state to the other
abbrev pub Leads : Machine → List Event → Machine → Type 0
Leads m [] end = m ≡ end
Leads m (e ∷ es) end = IsAllowed m e × Leads (after m e) es end

-- the number that is held
abbrev pub held_list : Option Held → List ℕ
held_list None = []
held_list (Some (Fresh x)) = x ∷ []
held_list (Some (Due x)) = x ∷ []

-- the number that is held fresh
abbrev pub fresh_list : Option Held → List ℕ
fresh_list (Some (Fresh x)) = x ∷ []
fresh_list _ = []

-- of one worker: what it offered and holds fresh is part of what it claimed, and what it took and claimed without an offer is what it finished and holds
pub record KeepsOwn (held : Option Held) (r : Lists) : Type 0 where
  pub offers_own : (x : ℕ) → times x r.offered + times x (fresh_list held) ≤ times x r.claimed
  pub finishes_own : (x : ℕ) → times x r.taken + (times x r.claimed - times x r.offered) ≡ times x r.finished + times x (held_list held)

-- what every state keeps
pub record Keeps (m : Machine) : Type 0 where
  pub workers : length m.held ≡ length m.receipts
  pub claims_within : m.next ≤ m.count
  pub queue_within : length m.queue ≤ m.bound
  pub claimed_once : (x : ℕ) → total (λ r. r.claimed) x m.receipts ≡ once_below x m.next
  pub passed_on : (x : ℕ) → total (λ r. r.offered) x m.receipts ≡ total (λ r. r.taken) x m.receipts + times x m.queue
  pub finished_once : (x : ℕ) → total (λ r. r.finished) x m.receipts + sum_by (λ h. times x (held_list h)) m.held + times x m.queue ≡ once_below x m.next
  pub own : (w : ℕ) → w < length m.held → KeepsOwn (held_by m w) (receipt_of m w)

-- every number is claimed, and no worker holds one
abbrev pub IsOver : Machine → Type 0
IsOver m = (m.next ≡ m.count) × All (λ h. h ≡ None) m.held
