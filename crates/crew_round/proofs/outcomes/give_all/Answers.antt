use Rattle.std.proofs.Common.{◌∙◌, arith}
use Rattle.crew_round.proofs.Giving.{set_map, give_step}
use Rattle.crew_round.proofs.outcomes.give_all.Goals as goal

pub returns-in_err-append-clause-about : goal.returns-in_err-append-clause-about
returns-in_err-append-clause-about g c =
    set_map g.L.Labour.about c.loop-labour.labours c.loop-labour.labour-index c.labour-item.result c.give-given.new.self (omega arith) c.give-given.ensures.about
    ∙ c.loop-labour.invariant.about

pub returns-in_err-append-clause-loaded : goal.returns-in_err-append-clause-loaded
returns-in_err-append-clause-loaded g c =
    set_map g.L.Labour.loaded c.loop-labour.labours c.loop-labour.labour-index c.labour-item.result c.give-given.new.self (omega arith) c.give-given.ensures.loaded
    ∙ c.loop-labour.invariant.loaded

pub returns-in_err-append-clause-failures : goal.returns-in_err-append-clause-failures
returns-in_err-append-clause-failures g c =
    set_map g.L.Labour.failures c.loop-labour.labours c.loop-labour.labour-index c.labour-item.result c.give-given.new.self (omega arith) c.give-given.ensures.failures
    ∙ c.loop-labour.invariant.failures

pub loop-labour-preserved : goal.loop-labour-preserved
loop-labour-preserved g c =
    let ls = c.loop-labour.labours in
    let i = c.loop-labour.labour-index in
    let x = c.labour-item.result in
    let y = c.give-given.new.self in
    let e = c.give-given.ensures in
    let before = c.loop-labour.invariant in
    record {
      about = set_map g.L.Labour.about ls i x y (omega arith) e.about ∙ before.about;
      loaded = set_map g.L.Labour.loaded ls i x y (omega arith) e.loaded ∙ before.loaded;
      failures = set_map g.L.Labour.failures ls i x y (omega arith) e.failures ∙ before.failures;
      given = give_step g.L.Labour.results ls i x y c.loop-labour.outs.items c.append.new.self.items c.give-given.result.items _ (omega arith) e.given c.in_ok-append.ensures.items before.given;
    }
