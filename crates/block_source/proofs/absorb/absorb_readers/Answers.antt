use Rattle.std.proofs.Common.{◌≡◌, [], ◌∷◌, List, map, sum_by, vec_len, arith, append-nil, refl, sym, subst, ◌∙◌}
use Rattle.std.proofs.lemmas.List.{length-map, nil_from_length}
use Rattle.hand_off.proofs.Popping.{popped_sum}
use Rattle.block_source.specs.Absorbed.{AreJoined, IsRaised}
use Rattle.block_source.proofs.Joining.{joined_none, joined_more, popped_at, popped_told, raised_none, raised_more}
use Rattle.block_source.proofs.absorb.absorb_readers.Goals as goal

pub loop-second-init : goal.loop-second-init
loop-second-init g c = record {
  rest = ([], sym (append-nil c.args.seconds.items));
  before = λ complete. complete;
  reads = λ complete. joined_none (map g.R.Reader.reads c.args.readers.now.items) (map g.R.Reader.reads c.args.seconds.items) (vec_len c.args.seconds)
      (omega (arith, length-map c.args.readers.now.items g.R.Reader.reads, c.args.readers.now.ok.0, c.requires));
  faults = raised_none (sum_by g.R.Reader.faults c.args.readers.now.items) (sum_by g.R.Reader.faults c.args.seconds.items);
  bytes = refl;
  count = refl;
  room = omega (arith, c.requires);
}

pub loop-second-preserved : goal.loop-second-preserved
loop-second-preserved g c =
    let reads = g.R.Reader.reads in
    let e = c.in-Some.ensures in
    let i = c.loop-second.invariant in
    let a = c.absorb_one-complete.ensures in
    let n = c.len-file.result in
    let second = c.in-Some.second in
    let left = c.pop.new.self in
    let firsts = map reads c.args.readers.now.items in
    let all = c.args.seconds.items in
    let now = c.loop-second.readers.items in
    let after = c.absorb_one-complete.new.readers.items in
    let at = popped_at all c.loop-second.seconds.items left.items i.rest.0 second second i.rest.1 e.items in
    record {
      rest = (second ∷ i.rest.0, at.1);
      before = λ done. i.before (a.before done);
      reads = λ done.
          subst (λ k. AreJoined firsts (map reads all) (map reads after) k) c.len-file.ensures
          (joined_more firsts (map reads all) (map reads now) (map reads after) n (vec_len c.loop-second.seconds) (reads second) (a.reads done)
          (omega (arith, length-map now reads, c.loop-second.readers.ok.0, i.room, e.cases, c.len-file.ensures))
          (popped_told reads all c.loop-second.seconds.items left.items i.rest.0 second n i.rest.1 e.items (omega (arith, c.len-file.ensures, left.ok.0)))
          (omega (arith, e.cases, c.len-file.ensures))
          (i.reads (a.before done)));
      faults = raised_more _ _ _ _ _ _ (g.R.Reader.faults second) (popped_sum g.R.Reader.faults c.loop-second.seconds.items left.items second e.items) a.never_falls a.faults i.faults;
      bytes = a.bytes ∙ i.bytes;
      count = a.count ∙ i.count;
      room = omega (arith, e.cases, i.room, a.count);
    }

pub returns-clause-reads : goal.returns-clause-reads
returns-clause-reads g c = λ done.
    let none : vec_len c.loop-second.seconds ≡ 0 = omega (arith, c.in_default.ensures.cases) in
    subst (λ k. AreJoined (map g.R.Reader.reads c.args.readers.now.items) (map g.R.Reader.reads c.args.seconds.items) (map g.R.Reader.reads c.loop-second.readers.items) k) none
    (c.loop-second.invariant.reads done)

pub returns-clause-faults : goal.returns-clause-faults
returns-clause-faults g c =
    let none = nil_from_length c.loop-second.seconds.items (omega (arith, c.in_default.ensures.cases, c.loop-second.seconds.ok.0)) in
    subst (λ (ss : List g.row.R.Denot). IsRaised (sum_by g.R.Reader.faults c.args.readers.now.items) (sum_by g.R.Reader.faults c.loop-second.readers.items) (sum_by g.R.Reader.faults ss) (sum_by g.R.Reader.faults c.args.seconds.items)) none
    c.loop-second.invariant.faults
