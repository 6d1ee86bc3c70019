use Rattle.std.proofs.Common.{◌≡◌, ◌∙◌, ℕ, List, [], ◌∷◌, ◌++◌, length, map, Some, IsSome, refl, sym, ap, arith}
use Rattle.std.proofs.lemmas.List.{append-nil, length_push}
use Rattle.std.proofs.lemmas.Result.{err_from_is_err_and}
use Rattle.std.proofs.lemmas.List.Elements.{All-nil, All-push}
use Rattle.table_open.specs.declared.file.OpenFile.{OpenFile}
use Rattle.sub_types.specs.ResultSteps.{collect}
use Rattle.table_open.specs.Words.{bound_file, bindings_of}
use Rattle.table_open.specs.Files.{open_one}
use Rattle.table_open.specs.Ready.{IsReady}
use Rattle.table_open.proofs.StepLaws.{followed_none}
use Rattle.table_open.proofs.WordLaws.{bindings_from, bindings_all, found_is, bindings_done}
use Rattle.table_open.proofs.TableLaws.{numbers_more, some_binding, opened_more}
use Rattle.table_open.proofs.table.open_all.Goals as goal

pub loop-i-init : goal.loop-i-init
loop-i-init g c =
    let table = c.args.table in
    let words = c.args.words.now in
    let name = c.args.name.now in
    let empty = c.requires.empty in
    let numbers : List (ℕ × List ℕ) → List ℕ = λ bindings. map (λ binding. binding.0) bindings in
    record {
      told = λ files is. rw empty
          (ap (λ (bindings : List (ℕ × List ℕ)). collect (map (open_one files table.relation table.names.now table.types.now) bindings)) (bindings_all name words)
          ∙ followed_none (open_one files table.relation table.names.now table.types.now) (bindings_from name 0 words));
      tells = λ files is. rw empty (All-nil (λ (o : OpenFile g.row.F-R.Denot). IsSome (g.F.R.Reader.bytes o.reader)));
      numbers = rw empty (ap numbers (bindings_all name words));
      ready = rw empty (All-nil (IsReady g.F.R.Reader.bytes table.types.now));
      never_falls = omega arith;
      reads = refl;
      files = refl;
      write_faults = refl;
      lent = omega (arith, ap length empty);
    }

pub loop-i-preserved : goal.loop-i-preserved
loop-i-preserved g c =
    let table = c.args.table in
    let words = c.args.words.now in
    let name = c.args.name.now in
    let i = c.loop-i.i in
    let word = c.index-words-i.result in
    let file = c.in-Some.file.now in
    let one = c.in_ok-one.one in
    let opened = c.loop-i.opened.items in
    let new = c.push_reserved.new.self.items in
    let bytes = g.F.R.Reader.bytes in
    let found : bound_file name word ≡ Some file = found_is name word c.text.result.now file c.text.ensures c.in-Some.ensures in
    let pushed : new ≡ opened ++ one ∷ [] = c.push_reserved.ensures.items ∙ ap (λ (l : List (OpenFile g.row.F-R.Denot)). l ++ one ∷ []) c.in_ok-reserve.ensures.items in
    record {
      told = λ files is.
          opened_more files table.relation table.names.now table.types.now bytes opened new one (collect (map (open_one files table.relation table.names.now table.types.now) (bindings_of name words)))
          name words i word file c.loop-i-test.true c.index-words-i.is found pushed (c.in_ok-one.ensures.told files (c.loop-i.invariant.files ∙ is)) (c.loop-i.invariant.told files is);
      tells = λ files is.
          rw pushed (All-push (λ (o : OpenFile g.row.F-R.Denot). IsSome (bytes o.reader)) opened one (c.loop-i.invariant.tells files is) (c.in_ok-one.ensures.tells files (c.loop-i.invariant.files ∙ is)));
      numbers = numbers_more (λ (o : OpenFile g.row.F-R.Denot). o.file) opened new one (map (λ (b : ℕ × List ℕ). b.0) (bindings_of name words)) name words i word file
          c.loop-i-test.true c.index-words-i.is found pushed c.in_ok-one.ensures.number c.loop-i.invariant.numbers;
      ready = rw pushed (All-push (IsReady bytes table.types.now) opened one c.loop-i.invariant.ready c.in_ok-one.ensures.ready);
      never_falls = omega (arith, c.in_ok-one.ensures.cause.never_falls, c.loop-i.invariant.never_falls);
      reads = c.in_ok-one.ensures.reads ∙ c.loop-i.invariant.reads;
      files = c.in_ok-one.ensures.files ∙ c.loop-i.invariant.files;
      write_faults = c.in_ok-one.ensures.write_faults ∙ c.loop-i.invariant.write_faults;
      lent = omega (arith, c.in_ok-one.ensures.lent, c.loop-i.invariant.lent, ap length pushed, length_push opened one);
    }

pub returns-in_err-reserve-clause-bound : goal.returns-in_err-reserve-clause-bound
returns-in_err-reserve-clause-bound g c =
    let name = c.args.name.now in
    let word = c.index-words-i.result in
    let found : bound_file name word ≡ Some c.in-Some.file.now = found_is name word c.text.result.now c.in-Some.file.now c.text.ensures c.in-Some.ensures in
    let p = err_from_is_err_and c.from_residual.result c.from_residual.ensures.1 in
    rw p.1 (some_binding (λ (o : OpenFile g.row.F-R.Denot). o.file) c.loop-i.opened.items name c.args.words.now c.loop-i.i word c.in-Some.file.now c.loop-i-test.true c.index-words-i.is found
    c.loop-i.invariant.numbers)

pub returns-in_err-one-clause-bound : goal.returns-in_err-one-clause-bound
returns-in_err-one-clause-bound g c =
    let name = c.args.name.now in
    let word = c.index-words-i.result in
    let found : bound_file name word ≡ Some c.in-Some.file.now = found_is name word c.text.result.now c.in-Some.file.now c.text.ensures c.in-Some.ensures in
    let p = err_from_is_err_and c.from_residual-in_err-one.result c.from_residual-in_err-one.ensures.1 in
    rw p.1 (some_binding (λ (o : OpenFile g.row.F-R.Denot). o.file) c.loop-i.opened.items name c.args.words.now c.loop-i.i word c.in-Some.file.now c.loop-i-test.true c.index-words-i.is found
    c.loop-i.invariant.numbers)

pub returns-clause-opened : goal.returns-clause-opened
returns-clause-opened g c =
    let words = c.args.words.now in
    let name = c.args.name.now in
    let opened = map (λ (o : OpenFile g.row.F-R.Denot). o.file) c.loop-i.opened.items in
    record {
      numbers = sym (c.loop-i.invariant.numbers
          ∙ ap (λ (bindings : List (ℕ × List ℕ)). opened ++ map (λ (b : ℕ × List ℕ). b.0) bindings) (bindings_done name words c.loop-i.i c.loop-i-test.false)
          ∙ append-nil opened);
      ready = c.loop-i.invariant.ready;
    }
