-- A pass in memory as callers see it.
use Rattle.std.specs.Prelude.{◌≡◌, ◌≤◌, []}
use Rattle.crossbeam_queue.specs.Passes.{Pass, view}
use Rattle.hand_off.specs.Hand.{PassView}
use Rattle.hand_off.specs.declared.rule.Passed.{Passed}

module _ {T : Type 0} where
  -- the pass as callers see it
  abbrev pub view_of : Pass T (Passed T) → PassView T
  view_of p = record { of = record { table = p.table_id; capacity = p.table_id.slots; passes = (view p).passes }; offered = (view p).offered; taken = (view p).taken; share = (view p).share }

  -- it has a share, and no slot of the queue is out with it
  pub record IsPass (p : Pass T (Passed T)) : Type 0 where
    pub empty : p.me.1 ≡ []
    pub some_share : 1 ≤ (view p).share
