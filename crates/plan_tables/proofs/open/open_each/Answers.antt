use Rattle.std.proofs.Common.{◌≡◌, ◌∙◌, ◌++◌, [], ◌∷◌, List, map, sym, ap, subst, refl, arith}
use Rattle.std.proofs.lemmas.List.Elements.{All-nil, All-push, All-head, All-rest}
use Rattle.std.proofs.lemmas.List.Sums.{sum_by_push}
use Rattle.std.specs.List.{All}
use Rattle.std.specs.Vec.Iter.{into_iter_items}
use Rattle.sub_types.specs.ResultSteps.{collect}
use Rattle.plan_reads.specs.declared.reads.PlanRead.{PlanRead}
use Rattle.plan_reads.specs.Reads.{HasFewNames}
use Rattle.table_open.proofs.StepLaws.{followed, followed_none}
use Rattle.plan_tables.specs.declared.open.OpenRead.{OpenRead}
use Rattle.plan_tables.specs.Open.{open_seen, AreTold, AreReady, AllTold, AllReady, count_files, count_open, IsShaped}
use Rattle.plan_tables.specs.Tables.{open_read}
use Rattle.plan_tables.proofs.OpenLaws.{step_more, split_more}
use Rattle.plan_tables.proofs.open.open_each.Goals as goal

pub loop-read-init : goal.loop-read-init
loop-read-init g c =
    let bytes = g.F.R.Reader.bytes in
    let words = c.args.words.now in
    let gives = c.into_iter-read-iterator.ensures.into_iter_gives in
    let left = into_iter_items c.into_iter-read-iterator.result in
    let empty = c.requires.empty in
    record {
      shaped = subst (All IsShaped) (sym gives.0) c.requires.shaped;
      few = subst (All HasFewNames) (sym gives.0) c.requires.few;
      split = sym gives.0 ∙ ap (λ (l : List (OpenRead g.row.F-R.Denot)). map (λ (o : OpenRead g.row.F-R.Denot). o.read) l ++ left) (sym empty);
      told = λ files is.
          ap (λ (l : List PlanRead). collect (map (open_read files words) l)) (sym gives.0) ∙ followed_none (open_read files words) left
          ∙ ap (λ (l : List (OpenRead g.row.F-R.Denot)). followed (open_read files words) (map (open_seen bytes) l) left) (sym empty);
      tells = λ files is. subst (AllTold bytes) (sym empty) (All-nil (λ (o : OpenRead g.row.F-R.Denot). AreTold bytes o.tables.items));
      ready = subst (AllReady bytes) (sym empty) (All-nil (λ (o : OpenRead g.row.F-R.Denot). AreReady bytes o.read.types o.tables.items));
      never_falls = omega arith;
      files = refl;
      write_faults = refl;
      lent = omega (arith, ap count_open empty);
    }

pub open_read-requires-clause-shaped : goal.open_read-requires-clause-shaped
open_read-requires-clause-shaped g c κs within = All-head IsShaped c.in-Some.read (into_iter_items c.next.new.self) (subst (All IsShaped) c.in-Some.ensures.steps.0 c.loop-read.invariant.shaped)

pub open_read-requires-clause-few : goal.open_read-requires-clause-few
open_read-requires-clause-few g c κs within = All-head HasFewNames c.in-Some.read (into_iter_items c.next.new.self) (subst (All HasFewNames) c.in-Some.ensures.steps.0 c.loop-read.invariant.few)

pub loop-read-preserved : goal.loop-read-preserved
loop-read-preserved g c =
    let bytes = g.F.R.Reader.bytes in
    let words = c.args.words.now in
    let before = c.loop-read.invariant in
    let step = c.in-Some.ensures.steps.0 in
    let read = c.in-Some.read in
    let rest = into_iter_items c.next.new.self in
    let opened = c.loop-read.opened.items in
    let one = c.in_ok-one.one in
    let new = c.push_reserved.new.self.items in
    let next = c.in_ok-one.ensures in
    let is_told = λ (o : OpenRead g.row.F-R.Denot). AreTold bytes o.tables.items in
    let is_ready = λ (o : OpenRead g.row.F-R.Denot). AreReady bytes o.read.types o.tables.items in
    let pushed : new ≡ opened ++ one ∷ [] = c.push_reserved.ensures.items ∙ ap (λ (l : List (OpenRead g.row.F-R.Denot)). l ++ one ∷ []) c.in_ok-reserve.ensures.items in
    record {
      shaped = All-rest IsShaped read rest _ step before.shaped;
      few = All-rest HasFewNames read rest _ step before.few;
      split = split_more (λ (o : OpenRead g.row.F-R.Denot). o.read) c.args.reads.items _ opened new one read rest step pushed next.read before.split;
      told = λ files is.
          step_more (open_read files words) (open_seen bytes) (collect (map (open_read files words) c.args.reads.items)) opened new one _ read rest step pushed
          (next.told files (before.files ∙ is)) (before.told files is);
      tells = λ files is. subst (AllTold bytes) (sym pushed) (All-push is_told opened one (before.tells files is) (next.tells files (before.files ∙ is)));
      ready = subst (AllReady bytes) (sym pushed)
          (All-push is_ready opened one before.ready (subst (λ (r : PlanRead). AreReady bytes r.types one.tables.items) (sym next.read) next.ready));
      never_falls = omega (arith, next.cause.never_falls, before.never_falls);
      files = next.files ∙ before.files;
      write_faults = next.write_faults ∙ before.write_faults;
      lent = omega (arith, next.lent, before.lent, ap count_open pushed, sum_by_push (λ (o : OpenRead g.row.F-R.Denot). count_files o.tables.items) opened one);
    }
