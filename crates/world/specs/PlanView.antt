-- The planned failures as plain lists.
use Rattle.world.specs.declared.plan.FailurePlan.{FailurePlan}
use Rattle.world.specs.declared.plan.ReaderPlan.{ReaderPlan}
use Rattle.world.specs.Told.{Plan, ReadersPlan}

abbrev pub plan_of : FailurePlan → Plan
plan_of p = record {
  opens = p.opens.items;
  lens = p.lens.items;
  reads = p.reads.items;
  places = p.places.items;
  agains = p.agains.items;
  appends = p.appends.items;
  create = p.create;
}

abbrev pub readers_plan_of : ReaderPlan → ReadersPlan
readers_plan_of p = record { len = p.len; reads = p.reads.items; places = p.places.items; agains = p.agains.items }
