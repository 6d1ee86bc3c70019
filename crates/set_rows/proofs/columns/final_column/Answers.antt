use Rattle.std.proofs.Common.{◌∙◌, map, ap, arith}
use Rattle.group_firsts.specs.Firsts.{kept_once}
use Rattle.set_rows.proofs.columns.final_column.Goals as goal

pub tallies-requires-clause-within : goal.tallies-requires-clause-within
tallies-requires-clause-within c = (c.requires.within c.if-not-distinct.false).0

pub tallies-requires-clause-few : goal.tallies-requires-clause-few
tallies-requires-clause-few c = omega (arith, (c.requires.within c.if-not-distinct.false).1)

pub returns-clause-few : goal.returns-clause-few
returns-clause-few c = omega (arith, c.in_ok-once.ensures.counts, (c.requires.within c.if-not-distinct.false).1)

pub returns-clause-all : goal.returns-clause-all
returns-clause-all c = let h = c.if-not-distinct.false in λ e. absurd (cc)

pub returns-clause-once : goal.returns-clause-once
returns-clause-once c = λ keys entries place distinct are once many. c.in_ok-once.ensures.tallies keys entries place are once many ∙ ap (λ k. map (kept_once k entries place) keys) c.keeping_of.ensures
