use Rattle.std.proofs.Common.{◌≡◌, ◌∙◌, ◌<◌, ◌≤◌, ◌+◌, ℕ, List, Result, get_or, length, map, refl, sym, ap, subst, arith}
use Rattle.sub_types.specs.declared.fault.Fault.{Fault}
use Rattle.plan_denote.specs.Holes.{Worth, filled}
use Rattle.cut_laws.specs.Found.{read_rels}
use Rattle.cut_laws.specs.Reads.{reads_of}
use Rattle.open_blocks.specs.Files.{FilesSeen, files_seen}
use Rattle.open_blocks.specs.Taken.{Adds}
use Rattle.table_engine.specs.Inputs.{IsReceiptAt}
use Rattle.sub_query.specs.declared.worth.KnownWorth.{KnownWorth}
use Rattle.sub_query.specs.Known.{found_seen, known_seen}
use Rattle.plan_rounds.specs.Inputs.{IsWorthOf}
use Rattle.plan_rounds.specs.Ready.{IsReady}
use Rattle.plan_rounds.proofs.SoFarLaws.{IsSoFar, begins, next_ready, ends_so, goes_on, all_known}
use Rattle.plan_rounds.proofs.run.worths_of.Goals as goal

-- the subqueries, by the slice that the loop goes through
at_item : {A : Type 0} (xs ys : List A) (i : ℕ) (x : A) → xs ≡ ys → i < length xs → x ≡ get_or xs i x → (i < length ys) × (x ≡ get_or ys i x)
at_item xs ys i x same below here = (subst (λ all. i < length all) same below, subst (λ all. x ≡ get_or all i x) same here)

pub loop-sub-init : goal.loop-sub-init
loop-sub-init g c =
    let files = map (files_seen g.R.Reader.bytes) c.args.files.now.items in
    record {
      so_far =
          subst (λ (known : List KnownWorth). IsSoFar c.args.crew.now.workers files c.args.plan.now 0 known c.args.receipts.now.items) (sym c.new-known.ensures.items)
          (begins c.args.crew.now.workers files c.args.plan.now c.requires.typed c.args.receipts.now.items c.requires.none c.requires.awaited);
      seen = refl;
      never_falls = omega arith;
    }

pub worth_of_sub-requires-clause-ready : goal.worth_of_sub-requires-clause-ready
worth_of_sub-requires-clause-ready g c κs within =
    let files = map (files_seen g.R.Reader.bytes) c.args.files.now.items in
    let plan = c.args.plan.now in
    let sub = c.sub-item.result in
    let known = c.loop-sub.known.items in
    let at = at_item _ plan.subs c.loop-sub.sub-index sub c.as_slice-sub-items.ensures c.loop-sub-test.true c.sub-item.is in
    let ready = next_ready c.args.crew.now.workers files plan c.requires.typed c.loop-sub.sub-index sub known c.loop-sub.receipts.items at.0 at.1 c.loop-sub.invariant.so_far c.requires.files in
    subst (λ (all : List FilesSeen). IsReady (filled (known_seen c.deref.result.now) sub.rel) all) (sym c.loop-sub.invariant.seen)
    (subst (λ (all : List KnownWorth). IsReady (filled (known_seen all) sub.rel) files) (sym c.deref.ensures.value) ready)

pub returns-in-Err-clause-worths : goal.returns-in-Err-clause-worths
returns-in-Err-clause-worths g c =
    let files = map (files_seen g.R.Reader.bytes) c.args.files.now.items in
    let plan = c.args.plan.now in
    let sub = c.sub-item.result in
    let known = c.loop-sub.known.items in
    let at = at_item _ plan.subs c.loop-sub.sub-index sub c.as_slice-sub-items.ensures c.loop-sub-test.true c.sub-item.is in
    let first = subst (λ (all : List FilesSeen). IsWorthOf all sub (filled (known_seen c.deref.result.now) sub.rel) (found_seen c.in_ok-worth.field-0)) c.loop-sub.invariant.seen c.in_ok-worth.ensures.worth in
    let second = subst (λ (all : List KnownWorth). IsWorthOf files sub (filled (known_seen all) sub.rel) (found_seen c.in_ok-worth.field-0)) c.deref.ensures.value first in
    let is = subst (λ (found : Result Worth Fault). IsWorthOf files sub (filled (known_seen known) sub.rel) found) (ap found_seen c.in-Err.is) second in
    ends_so c.args.crew.now.workers files plan c.requires.typed c.loop-sub.sub-index sub known c.loop-sub.receipts.items at.0 at.1 c.loop-sub.invariant.so_far c.in-Err.fault c.worth_of_sub.new.receipts.items is

pub returns-in-Err-clause-seen : goal.returns-in-Err-clause-seen
returns-in-Err-clause-seen g c = c.in_ok-worth.ensures.seen ∙ c.loop-sub.invariant.seen

pub loop-sub-preserved : goal.loop-sub-preserved
loop-sub-preserved g c =
    let workers = c.args.crew.now.workers in
    let files = map (files_seen g.R.Reader.bytes) c.args.files.now.items in
    let plan = c.args.plan.now in
    let sub = c.sub-item.result in
    let known = c.loop-sub.known.items in
    let old = c.loop-sub.receipts.items in
    let new = c.worth_of_sub.new.receipts.items in
    let at = at_item _ plan.subs c.loop-sub.sub-index sub c.as_slice-sub-items.ensures c.loop-sub-test.true c.sub-item.is in
    let made : KnownWorth = record { hole = sub.hole; worth = c.in-Ok.worth } in
    let first = subst (λ (all : List FilesSeen). IsWorthOf all sub (filled (known_seen c.deref.result.now) sub.rel) (found_seen c.in_ok-worth.field-0)) c.loop-sub.invariant.seen c.in_ok-worth.ensures.worth in
    let second = subst (λ (all : List KnownWorth). IsWorthOf files sub (filled (known_seen all) sub.rel) (found_seen c.in_ok-worth.field-0)) c.deref.ensures.value first in
    let is = subst (λ (found : Result Worth Fault). IsWorthOf files sub (filled (known_seen known) sub.rel) found) (ap found_seen c.in-Ok.is) second in
    let adds =
    subst (λ (all : List KnownWorth). Adds (IsReceiptAt workers files (read_rels (filled (known_seen all) sub.rel))) (reads_of (filled (known_seen all) sub.rel)) old new) c.deref.ensures.value
    (subst (λ (all : List FilesSeen). Adds (IsReceiptAt workers all (read_rels (filled (known_seen c.deref.result.now) sub.rel))) (reads_of (filled (known_seen c.deref.result.now) sub.rel)) old new) c.loop-sub.invariant.seen c.in_ok-worth.ensures.receipts) in
    record {
      so_far =
          subst (λ (all : List KnownWorth). IsSoFar workers files plan (c.loop-sub.sub-index + 1) all new) (sym c.in_ok-push-in-Ok.ensures.items)
          (goes_on workers files plan c.requires.typed c.loop-sub.sub-index sub known old at.0 at.1 c.loop-sub.invariant.so_far made new refl is adds);
      seen = c.in_ok-worth.ensures.seen ∙ c.loop-sub.invariant.seen;
      never_falls = omega (arith, c.in_ok-worth.ensures.cause.never_falls, c.loop-sub.invariant.never_falls);
    }

pub returns-clause-worths : goal.returns-clause-worths
returns-clause-worths g c =
    let plan = c.args.plan.now in
    let most : length plan.subs ≤ c.loop-sub.sub-index = omega (arith, ap length c.as_slice-sub-items.ensures, c.loop-sub-test.false) in
    all_known c.args.crew.now.workers (map (files_seen g.R.Reader.bytes) c.args.files.now.items) plan c.requires.typed c.loop-sub.sub-index c.loop-sub.known c.loop-sub.receipts.items most c.requires.files c.loop-sub.invariant.so_far

pub returns-clause-seen : goal.returns-clause-seen
returns-clause-seen g c = c.loop-sub.invariant.seen
