-- Pipelines in order.
use Rattle.std.proofs.Common.{◌≡◌, ◌∙◌, ℕ, List, [], ◌∷◌, ◌++◌, false, Option, refl, sym, ap, subst, append_assoc, append-nil}
use Rattle.std.proofs.lemmas.List.Concat.{flat_map-append}
use Rattle.sub_types.specs.declared.kind.Ty.{Ty}
use Rattle.rel_specs.specs.declared.join.JoinSpec.{JoinSpec}
use Rattle.plan_pipes.specs.declared.pipe.Breaker.{Breaker}
use Rattle.plan_pipes.specs.declared.pipe.Breaker.TheVariants as breakers
use Rattle.plan_pipes.specs.declared.pipe.Pipe.{Pipe}
use Rattle.plan_pipes.specs.Run.{Meaning, Past, nothing_yet, run_on, run, after, built}
use Rattle.plan_pipes.specs.TypeMeaning.{AreTypedPipes}
use Rattle.pipe_types.specs.Exact.{exact_over}
use Rattle.pipe_types.specs.Over.{IsPipeOver, stored}
use Rattle.sub_types.specs.Stream.{Stream}
use Rattle.plan_denote.specs.Denote.{Tables}
use Rattle.plan_denote.specs.Rows.{Row}
use Rattle.plan_pipes.specs.RowMeaning.{Table, rows_over}
use Rattle.run_words.specs.declared.status.PipeReceipt.{PipeReceipt}
use Rattle.cut_flows.specs.Given.{fed_by, fed_in}
use Rattle.cut_laws.specs.Found.{ReadRel}
use Rattle.open_blocks.specs.Files.{FilesSeen}
use Rattle.open_blocks.specs.Taken.{Adds}
use Rattle.open_blocks.proofs.AddedLaws.{adds_none, adds_more}
use Rattle.fed_laws.specs.Fed.{AreFedBy, FeedAll, Feeds, IsFedBy}
use Rattle.pipe_feeds.specs.Kept.{AreTypedAs}
use Rattle.pipe_flows.specs.Inputs.{columns_of, told_by}
use Rattle.pipe_flows.specs.Receipts.{IsReceiptAt}
use Rattle.pipe_runs.specs.Stands.{IsPipeOn, ArePipesOn, HasRunPipe, HaveRun, StandsFor, builds, types_in}
use Rattle.pipe_feeds.specs.declared.stores.Stores.{Stores}

-- run in order
pub run_is : {D T : Type 0} (m : Meaning D T) (pipes : List Pipe) → run m pipes ≡ run_on m nothing_yet pipes
unfolding run
run_is m pipes = refl

pub run_more : {D T : Type 0} (m : Meaning D T) (past : Past D T) (before : List Pipe) (pipe : Pipe) → run_on m past (before ++ pipe ∷ []) ≡ after m (run_on m past before) pipe
run_more m past [] pipe = refl
run_more m past (first ∷ before) pipe = run_more m (after m past first) before pipe

pub run_next : {D T : Type 0} (m : Meaning D T) (before : List Pipe) (pipe : Pipe) → run m (before ++ pipe ∷ []) ≡ after m (run m before) pipe
unfolding run
run_next m before pipe = run_more m nothing_yet before pipe

-- no breaker but one builds a table
pub builds_none : {D T : Type 0} (m : Meaning D T) (breaker : Breaker) (d : D) → builds breaker ≡ false → built m breaker d ≡ []
builds_none m breakers.Gather d is = refl
builds_none m (breakers.Fetch offset count) d is = refl
builds_none m (breakers.Aggregate spec) d is = refl
builds_none m (breakers.Sort keys) d is = refl
builds_none m (breakers.Build join) d is = absurd (cc)
builds_none m (breakers.GroupSets spec) d is = refl

-- where each pipeline of a list is well typed over what the earlier ones stored, all are in turn
module _ (columns : ℕ → List Ty) (each : (before more : List Pipe) (pipe : Pipe) → AreTypedPipes columns (before ++ pipe ∷ more) → IsPipeOver columns before pipe) where
  abbrev as_on : (before : List Pipe) (pipe : Pipe) → IsPipeOver columns before pipe → IsPipeOn columns (stored columns before) pipe
  as_on before pipe over = record { feed = over.feed; steps = over.steps; breaker = over.breaker }

  all_on : (before pipes : List Pipe) → AreTypedPipes columns (before ++ pipes) → ArePipesOn columns (stored columns before) pipes
  all_on before [] all = tt
  all_on before (pipe ∷ pipes) all = (
    as_on before pipe (each before pipes pipe all),
    subst (λ (past : Past (List Ty) (Option JoinSpec)). ArePipesOn columns past pipes) (run_next (exact_over columns) before pipe)
        (all_on (before ++ pipe ∷ []) pipes (subst (AreTypedPipes columns) (sym (append_assoc before (pipe ∷ []) pipes)) all)),
  )

  pub pipes_on : (pipes : List Pipe) → AreTypedPipes columns pipes → ArePipesOn columns nothing_yet pipes
  pipes_on pipes all = subst (λ (past : Past (List Ty) (Option JoinSpec)). ArePipesOn columns past pipes) (run_is (exact_over columns) []) (all_on [] pipes all)

-- one pipeline more, behind those that were fed
fed_more : (files : List FilesSeen) (reads : List ReadRel) (done : List Pipe) (given : List (Stream Row)) (pipe : Pipe) (one : Stream Row) → AreFedBy (told_by files) reads done given → IsFedBy (told_by files) reads pipe.feed one
    → AreFedBy (told_by files) reads (done ++ pipe ∷ []) (given ++ one ∷ [])
fed_more files reads [] [] pipe one fed own = (own, tt)
fed_more files reads [] (x ∷ given) pipe one fed own = absurd fed
fed_more files reads (p ∷ done) [] pipe one fed own = absurd fed
fed_more files reads (p ∷ done) (x ∷ given) pipe one fed own = (fed.0, fed_more files reads done given pipe one fed.1 own)

fed_before : (files : List FilesSeen) (reads : List ReadRel) (inputs : Tables) (done : List Pipe) (given : List (Stream Row)) (pipe : Pipe) (one : Stream Row) → AreFedBy (told_by files) reads done given → FeedAll inputs (done ++ pipe ∷ []) (given ++ one ∷ [])
    → FeedAll inputs done given × Feeds inputs pipe.feed one
fed_before files reads inputs [] [] pipe one fed all = (tt, all.0)
fed_before files reads inputs [] (x ∷ given) pipe one fed all = absurd fed
fed_before files reads inputs (p ∷ done) [] pipe one fed all = absurd fed
fed_before files reads inputs (p ∷ done) (x ∷ given) pipe one fed all = let rest = fed_before files reads inputs done given pipe one fed.1 all.1 in ((all.0, rest.0), rest.1)

-- what stands in memory while these pipelines are left, and the receipts of the read relations that fed the others
pub record IsRunning (workers : ℕ) (files : List FilesSeen) (reads : List ReadRel) (pipes left : List Pipe) (stores : Stores) (old now : List PipeReceipt) : Type 0 where
  pub types : run_on (exact_over (columns_of reads)) (types_in stores) left ≡ run_on (exact_over (columns_of reads)) nothing_yet pipes
  pub typed : AreTypedAs stores.types.items stores.streams.items
  pub over : ArePipesOn (columns_of reads) (types_in stores) left
  pub done : List Pipe
  pub split : pipes ≡ done ++ left
  pub given : List (Stream Row)
  pub fed : AreFedBy (told_by files) reads done given
  pub stands : (inputs : Tables) → FeedAll inputs done given → StandsFor (run_on (rows_over inputs) nothing_yet done) stores
  pub receipts : Adds (IsReceiptAt workers files reads) (fed_in done) old now

module _ (workers : ℕ) (files : List FilesSeen) (reads : List ReadRel) (pipes : List Pipe) where
  abbrev columns : ℕ → List Ty
  columns = columns_of reads

  pub run_begins : (stores : Stores) (old : List PipeReceipt) → stores.streams.items ≡ [] → stores.types.items ≡ [] → stores.tables.items ≡ [] → ArePipesOn columns nothing_yet pipes → IsRunning workers files reads pipes pipes stores old old
  run_begins stores old streams types tables over =
      let nothing : types_in stores ≡ nothing_yet = rw types (rw tables refl) in
      record {
        types = ap (λ (past : Past (List Ty) (Option JoinSpec)). run_on (exact_over columns) past pipes) nothing;
        typed = rw types (rw streams tt);
        over = subst (λ (past : Past (List Ty) (Option JoinSpec)). ArePipesOn columns past pipes) (sym nothing) over;
        done = [];
        split = refl;
        given = [];
        fed = tt;
        stands = λ inputs fed. record { streams = rw streams tt; tables = rw tables refl };
        receipts = adds_none (IsReceiptAt workers files reads) old;
      }

  run_on_pipe : (pipe : Pipe) (rest : List Pipe) (before later : Stores) (old mid now : List PipeReceipt) → IsRunning workers files reads pipes (pipe ∷ rest) before old mid → types_in later ≡ after (exact_over columns) (types_in before) pipe
      → AreTypedAs later.types.items later.streams.items → HasRunPipe files reads pipe before later → Adds (IsReceiptAt workers files reads) (fed_by pipe.feed) mid now → IsRunning workers files reads pipes rest later old now
  run_on_pipe pipe rest before later old mid now is types typed ran receipts = record {
    types = ap (λ (past : Past (List Ty) (Option JoinSpec)). run_on (exact_over columns) past rest) types ∙ is.types;
    typed = typed;
    over = subst (λ (past : Past (List Ty) (Option JoinSpec)). ArePipesOn columns past rest) (sym types) is.over.1;
    done = is.done ++ pipe ∷ [];
    split = is.split ∙ sym (append_assoc is.done (pipe ∷ []) rest);
    given = is.given ++ ran.given ∷ [];
    fed = fed_more files reads is.done is.given pipe ran.given is.fed ran.fed_by;
    stands = λ inputs all.
        let parts = fed_before files reads inputs is.done is.given pipe ran.given is.fed all in
        subst (λ (past : Past (Stream Row) Table). StandsFor past later) (sym (run_more (rows_over inputs) nothing_yet is.done pipe))
        (ran.stands inputs parts.1 (run_on (rows_over inputs) nothing_yet is.done) (is.stands inputs parts.0));
    receipts = subst (λ (fed : List ℕ). Adds (IsReceiptAt workers files reads) fed old now)
        (sym (flat_map-append (λ (one : Pipe). fed_by one.feed) is.done (pipe ∷ []) ∙ ap (λ (more : List ℕ). fed_in is.done ++ more) (append-nil (fed_by pipe.feed))))
        (adds_more (IsReceiptAt workers files reads) (fed_in is.done) (fed_by pipe.feed) old mid now is.receipts receipts);
  }

  pub run_goes_on : (pipe : Pipe) (left rest : List Pipe) (before later : Stores) (old mid now : List PipeReceipt) → left ≡ pipe ∷ rest → IsRunning workers files reads pipes left before old mid → types_in later ≡ after (exact_over columns) (types_in before) pipe
      → AreTypedAs later.types.items later.streams.items → HasRunPipe files reads pipe before later → Adds (IsReceiptAt workers files reads) (fed_by pipe.feed) mid now → IsRunning workers files reads pipes rest later old now
  run_goes_on pipe left rest before later old mid now is has = run_on_pipe pipe rest before later old mid now (subst (λ (all : List Pipe). IsRunning workers files reads pipes all before old mid) is has)

  pub next_over : (pipe : Pipe) (left rest : List Pipe) (stores : Stores) (old now : List PipeReceipt) → left ≡ pipe ∷ rest → IsRunning workers files reads pipes left stores old now → IsPipeOn columns (types_in stores) pipe
  next_over pipe left rest stores old now is has = (subst (λ (all : List Pipe). IsRunning workers files reads pipes all stores old now) is has).over.0

  -- none is left
  pub run_ends : (left : List Pipe) (stores : Stores) (old now : List PipeReceipt) → left ≡ [] → IsRunning workers files reads pipes left stores old now → IsRunning workers files reads pipes [] stores old now
  run_ends left stores old now is has = subst (λ (all : List Pipe). IsRunning workers files reads pipes all stores old now) is has

  pub all_done : (stores : Stores) (old now : List PipeReceipt) (has : IsRunning workers files reads pipes [] stores old now) → pipes ≡ has.done
  all_done stores old now has = has.split ∙ append-nil has.done

  pub have_run : (stores : Stores) (old now : List PipeReceipt) → IsRunning workers files reads pipes [] stores old now → HaveRun files reads pipes stores
  have_run stores old now has =
      subst (λ (all : List Pipe). HaveRun files reads all stores) (sym (all_done stores old now has))
      (record { given = has.given; fed_by = has.fed; stands = has.stands })

  pub all_receipts : (stores : Stores) (old now : List PipeReceipt) → IsRunning workers files reads pipes [] stores old now → Adds (IsReceiptAt workers files reads) (fed_in pipes) old now
  all_receipts stores old now has =
      subst (λ (all : List Pipe). Adds (IsReceiptAt workers files reads) (fed_in all) old now) (sym (all_done stores old now has)) has.receipts
