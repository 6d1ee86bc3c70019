use Rattle.std.proofs.Common.{◌≡◌, IfOk, List, sym, subst}
use Rattle.sub_types.specs.Stream.{Stream}
use Rattle.plan_denote.specs.Rows.{Row}
use Rattle.plan_pipes.specs.RowMeaning.{gathered}
use Rattle.plan_pipes.specs.declared.pipe.Breaker.{Breaker}
use Rattle.plan_pipes.specs.declared.pipe.Breaker.TheVariants as breakers
use Rattle.set_rels.specs.Inputs.{stream_of}
use Rattle.pipe_parts.specs.Parts.{ArePartsOf}
use Rattle.pipe_parts.specs.declared.part.Part.{Part}
use Rattle.pipe_ends.proofs.gathering.gather.Goals as goal

pub returns-in-Gather-clause-stream : goal.returns-in-Gather-clause-stream
returns-in-Gather-clause-stream c =
    subst (λ (breaker : Breaker). IfOk c.all_pieces.result (λ out. (rows : Stream Row) → ArePartsOf breaker c.args.types.now rows c.args.parts.items → stream_of out.items ≡ gathered breaker rows)) (sym c.in-Gather.is)
    c.all_pieces.ensures.stream

pub returns-in-Build-clause-stream : goal.returns-in-Build-clause-stream
returns-in-Build-clause-stream c =
    subst (λ (breaker : Breaker). IfOk c.right_end.result (λ out. (rows : Stream Row) → ArePartsOf breaker c.args.types.now rows c.args.parts.items → stream_of out.items ≡ gathered breaker rows)) (sym c.in-Build.is)
    (subst (λ (all : List Part). IfOk c.right_end.result (λ out. (rows : Stream Row) → ArePartsOf (breakers.Build c.in-Build.join) c.args.types.now rows all → stream_of out.items ≡ gathered (breakers.Build c.in-Build.join) rows)) c.deref.ensures.value
    c.right_end.ensures.stream)

pub returns-in-GroupSets-clause-stream : goal.returns-in-GroupSets-clause-stream
returns-in-GroupSets-clause-stream c =
    subst (λ (breaker : Breaker). IfOk c.group_parts.result (λ out. (rows : Stream Row) → ArePartsOf breaker c.args.types.now rows c.args.parts.items → stream_of out.items ≡ gathered breaker rows)) (sym c.in-GroupSets.is)
    c.group_parts.ensures.stream
