use Rattle.std.proofs.Common.{◌∙◌, false, sym}
use Rattle.sub_types.specs.declared.kind.Kind.TheVariants as kinds
use Rattle.sub_types.specs.declared.kind.Ty.{Ty}
use Rattle.block_work.proofs.KindLaws.{kinds_differ, kinds_more}
use Rattle.block_work.proofs.kinds.have_kinds.Goals as goal

abbrev none : Ty
none = record { kind = kinds.Bool; nullable = false }

pub returns-then-not-is_equal-clause-differ : goal.returns-then-not-is_equal-clause-differ
returns-then-not-is_equal-clause-differ c =
    let loop = c.loop-index in
    λ _. kinds_differ c.args.columns.now c.args.types.now loop.index c.index-columns-index.result none c.loop-index-test.true (sym c.is_equal.ensures ∙ c.if-not-is_equal.true)

pub loop-index-preserved : goal.loop-index-preserved
loop-index-preserved c =
    let loop = c.loop-index in
    record {
      many = loop.invariant.many;
      same = kinds_more c.args.columns.now c.args.types.now loop.index c.index-columns-index.result none loop.invariant.many c.loop-index-test.true (sym c.is_equal.ensures ∙ c.if-not-is_equal.false) loop.invariant.same;
    }
