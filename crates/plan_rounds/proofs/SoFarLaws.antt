-- What is known after so many subqueries of a plan, over tables that are those of the files.
use Rattle.std.proofs.Common.{◌≡◌, ◌∙◌, ◌<◌, ◌≤◌, ℕ, ◌+◌, List, [], ◌∷◌, ◌++◌, Option, Some, None, Result, Ok, Err, IfOk, drop, take, get_or, map, length, Vec, refl, sym, ap, subst}
use Rattle.std.specs.List.{AllByRecursion, AllZip, flat_map}
use Rattle.std.proofs.lemmas.List.{drop_all, map-append, map_push, take_all, take_more, take-append-drop}
use Rattle.std.proofs.lemmas.List.Elements.{All-from_recursion, All-get_or}
use Rattle.std.proofs.lemmas.List.Concat.{flat_map-append}
use Rattle.sub_types.specs.Stream.{Stream, rows_alone}
use Rattle.std.specs.declared.alloc.Global.{Global}
use Rattle.sub_types.specs.Value.{Fits}
use Rattle.sub_types.specs.declared.fault.Fault.{Fault}
use Rattle.sub_types.specs.declared.kind.Ty.{Ty}
use Rattle.plan_typed.specs.declared.rel.Rel.{Rel}
use Rattle.plan_typed.specs.declared.sub.Holed.{Holed}
use Rattle.plan_typed.specs.declared.sub.Sub.{Sub}
use Rattle.well_typed.specs.WellTyped.{IsWellTyped}
use Rattle.plan_denote.specs.Denote.{Tables, denote}
use Rattle.plan_denote.specs.Holes.{Known, Worth, filled}
use Rattle.plan_denote.specs.Rows.{Row}
use Rattle.plan_denote.specs.Sort.{arranged}
use Rattle.plan_denote.specs.Subqueries.{denote_plan, worth_of_stream, worths}
use Rattle.denote_typed.specs.Holes.{AreAwaited}
use Rattle.denote_typed.proofs.FillRelLaws.{same_columns}
use Rattle.plan_reads.specs.declared.reads.PlanRead.{PlanRead}
use Rattle.plan_reads.specs.Reads.{reads_in, reads_of as plan_reads_of}
use Rattle.cut_laws.specs.Found.{read_rels}
use Rattle.cut_laws.specs.Reads.{reads_of}
use Rattle.plan_laws.proofs.FilledLaws.{reads_filled}
use Rattle.plan_laws.proofs.Levels.{AllReads, both_parts}
use Rattle.plan_laws.proofs.PlanReadLaws.{in_plan}
use Rattle.agree_laws.specs.Agree.{Agrees, Agree, IsOfTypes, ReadOnce, joint, rels_of, types_in}
use Rattle.agree_laws.proofs.AgreeLaws.{same_rows}
use Rattle.agree_laws.proofs.JointLaws.{joint_may, joint_agrees, once_before, read_once}
use Rattle.agree_laws.proofs.TypeLaws.{each_of_types}
use Rattle.open_blocks.specs.Files.{FilesSeen, files_at, stream_in}
use Rattle.open_blocks.specs.Taken.{Adds}
use Rattle.table_engine.specs.Inputs.{TellsRows, told_by, IsReceiptAt, IsReceiptOf, AreTablesOf}
use Rattle.run_words.specs.declared.status.PipeReceipt.{PipeReceipt}
use Rattle.sub_query.specs.Known.{known_seen, worth_seen}
use Rattle.sub_query.specs.declared.worth.KnownWorth.{KnownWorth}
use Rattle.plan_rows.specs.Seen.{all_seen}
use Rattle.plan_rows.proofs.WorthLaws.{one_more, plan_is, stopped}
use Rattle.plan_rounds.specs.Inputs.{AreRowsOf, IsOpenRead, IsWorthOf, input_read}
use Rattle.plan_rounds.specs.Known.{AreReceiptsOf, AreWorths}
use Rattle.plan_rounds.specs.Ready.{IsReady}
use Rattle.plan_rounds.specs.Receipts.{by_number}
use Rattle.plan_rounds.proofs.ReadyLaws.{AreLeft, IsRunnable, at_start, files_open, goes, is_ready, next_left, next_runs, reads_stay}
use Rattle.plan_rounds.proofs.ReceiptLaws.{IsManyRead, all_many, more_receipts, receipts_in_order}

-- tables that are those of the files
abbrev told_rows : Option FilesSeen → Stream Row
told_rows None = rows_alone []
told_rows (Some one) = stream_in one

told_are : (found : Option FilesSeen) → TellsRows found (told_rows found)
told_are None = tt
told_are (Some one) = λ all. refl

abbrev first_tables : List FilesSeen → Tables
first_tables files number = told_rows (files_at number files)

-- tables agree with themselves
pub agree_alone : (t : Tables) (reads : List PlanRead) → AllByRecursion (Agrees t t) reads
agree_alone t [] = tt
agree_alone t (read ∷ reads) = (refl, agree_alone t reads)

-- the relations of one subquery more
rels_more : (subs : List Sub) (place : ℕ) (sub : Sub) → place < length subs → sub ≡ get_or subs place sub → rels_of (take (place + 1) subs) ≡ rels_of (take place subs) ++ sub.rel ∷ []
rels_more subs place sub below here =
    ap rels_of (take_more subs place sub below ∙ ap (λ (one : Sub). take place subs ++ one ∷ []) (sym here)) ∙ map_push (λ (one : Sub). one.rel) (take place subs) sub

module _ (workers : ℕ) (files : List FilesSeen) (plan : Holed) where
  -- after the subqueries before a place
  pub record IsSoFar (place : ℕ) (known : List KnownWorth) (receipts : List PipeReceipt) : Type 0 where
    pub tables : Tables
    pub told : AreTablesOf files tables
    pub worth : (t : Tables) → AllByRecursion (Agrees tables t) (flat_map reads_in (rels_of (take place plan.subs))) → worths t (drop place plan.subs) (known_seen known) ≡ worths t plan.subs []
    pub left : AreLeft (types_in plan) plan.typed.rel (drop place plan.subs) (known_seen known)
    pub receipts_of : AreReceiptsOf workers files plan (rels_of (take place plan.subs)) receipts

  module _ (typed : IsWellTyped plan) where
    pub begins : (receipts : List PipeReceipt) → receipts ≡ [] → AreAwaited plan.subs plan.typed.rel → IsSoFar 0 [] receipts
    begins receipts none awaited = record {
      tables = first_tables files;
      told = λ number. told_are (files_at number files);
      worth = λ t agree. refl;
      left = at_start plan typed awaited;
      receipts_of = rw none tt;
    }

    -- the whole of what is read
    all_once : ReadOnce (rels_of plan.subs ++ plan.typed.rel ∷ [])
    all_once = read_once plan typed

    sub_types : AllByRecursion (λ (sub : Sub). AllReads (IsOfTypes (types_in plan)) sub.rel) plan.subs × AllReads (IsOfTypes (types_in plan)) plan.typed.rel
    sub_types = in_plan (IsOfTypes (types_in plan)) plan (each_of_types plan typed)

    -- a relation denotes the same over tables that agree with its own
    same_filled : (known : Known) (rel : Rel) (own t : Tables) → AllReads (IsOfTypes (types_in plan)) rel → Agree own t rel → denote own (filled known rel) ≡ denote t (filled known rel)
    same_filled known rel own t types agree =
        same_rows (types_in plan) own t (filled known rel) (reads_stay (types_in plan) known rel types) (subst (AllByRecursion (Agrees own t)) (sym (reads_filled known rel)) agree)

    module _ (place : ℕ) (sub : Sub) (known : List KnownWorth) (receipts : List PipeReceipt) (below : place < length plan.subs) (here : sub ≡ get_or plan.subs place sub) (so_far : IsSoFar place known receipts) where
      -- the next subquery may be run
      pub next_ready : AllZip IsOpenRead (plan_reads_of plan) files → IsReady (filled (known_seen known) sub.rel) files
      next_ready are =
          is_ready (types_in plan) (known_seen known) sub.rel files (files_open plan typed files are)
          (next_runs (types_in plan) plan.typed.rel plan.subs place sub known below here so_far.left)

      runs_next : IsRunnable (types_in plan) (known_seen known) sub.rel
      runs_next = next_runs (types_in plan) plan.typed.rel plan.subs place sub known below here so_far.left

      abbrev done : List Rel
      done = rels_of (take place plan.subs)

      now_done : rels_of (take (place + 1) plan.subs) ≡ done ++ sub.rel ∷ []
      now_done = rels_more plan.subs place sub below here

      abbrev behind : List Rel
      behind = rels_of (drop (place + 1) plan.subs)

      all_done : rels_of plan.subs ≡ (done ++ sub.rel ∷ []) ++ behind
      all_done =
          ap rels_of (sym (take-append-drop (place + 1) plan.subs)) ∙ map-append (λ (one : Sub). one.rel) (take (place + 1) plan.subs) (drop (place + 1) plan.subs)
          ∙ ap (λ (rels : List Rel). rels ++ behind) now_done

      once : ReadOnce (done ++ sub.rel ∷ [])
      once =
          once_before (done ++ sub.rel ∷ []) behind
          (subst ReadOnce all_done (once_before (rels_of plan.subs) (plan.typed.rel ∷ []) all_once))

      module _ (found : Result Worth Fault) (is : IsWorthOf files sub (filled (known_seen known) sub.rel) found) where
        abbrev next_tables : Tables
        next_tables = joint (reads_in sub.rel) is.are.tables so_far.tables

        next_told : AreTablesOf files next_tables
        next_told number = joint_may is.are.tables so_far.tables (told_by files) (reads_in sub.rel) number (is.are.told number) (so_far.told number)

        -- over tables that agree with both
        next_agrees : (t : Tables) → AllByRecursion (Agrees next_tables t) (flat_map reads_in (done ++ sub.rel ∷ [])) → AllByRecursion (Agrees so_far.tables t) (flat_map reads_in done) × Agree is.are.tables t sub.rel
        next_agrees t = joint_agrees done sub.rel once is.are.tables so_far.tables t

        worth_over : (t : Tables) → Agree is.are.tables t sub.rel → found ≡ worth_of_stream sub (denote t (filled (known_seen known) sub.rel))
        worth_over t agree = is.worth ∙ ap (worth_of_stream sub) (is.are.denoted ∙ same_filled (known_seen known) sub.rel is.are.tables t runs_next.reads agree)

      -- a fault of it is the plan's
      pub ends_so : (fault : Fault) (new : List PipeReceipt) → IsWorthOf files sub (filled (known_seen known) sub.rel) (Err fault) → AreWorths workers files plan (Err fault) new
      ends_so fault new is = record {
        tables = next_tables (Err fault) is;
        told = next_told (Err fault) is;
        worth = λ t agree.
            let first = both_parts (Agrees (next_tables (Err fault) is) t) (flat_map reads_in (done ++ sub.rel ∷ [])) (flat_map reads_in behind)
            (subst (AllByRecursion (Agrees (next_tables (Err fault) is) t)) (flat_map-append reads_in (done ++ sub.rel ∷ []) behind)
            (subst (λ (rels : List Rel). AllByRecursion (Agrees (next_tables (Err fault) is) t) (flat_map reads_in rels)) all_done agree)) in
            let parts = next_agrees (Err fault) is t first.0 in
            stopped t plan.subs place sub known below here fault _ (worth_over (Err fault) is t parts.1) (so_far.worth t parts.0);
        ready = tt;
        receipts_of = tt;
      }

      -- what holds of each subquery holds of it
      at_place : (P : Sub → Type 0) → AllByRecursion P plan.subs → P sub
      at_place P all = subst P (sym here) (All-get_or P plan.subs place sub below (All-from_recursion P plan.subs all))

      -- with its worth one more is known
      pub goes_on : (made : KnownWorth) (new : List PipeReceipt) → made.hole ≡ sub.hole → IsWorthOf files sub (filled (known_seen known) sub.rel) (Ok (worth_seen made.worth))
          → Adds (IsReceiptAt workers files (read_rels (filled (known_seen known) sub.rel))) (reads_of (filled (known_seen known) sub.rel)) receipts new → IsSoFar (place + 1) (known ++ made ∷ []) new
      goes_on made new hole is adds =
          let found : Result Worth Fault = Ok (worth_seen made.worth) in
          let fit = subst (λ (columns : List Ty). AllByRecursion (Fits columns) is.rows.rows) (same_columns (known_seen known) sub.rel) is.are.fit in
          let own = at_place (λ (one : Sub). AllReads (IsManyRead workers files plan typed) one.rel) (in_plan (IsManyRead workers files plan typed) plan (all_many workers files plan typed)).0 in
          record {
            tables = next_tables found is;
            told = next_told found is;
            worth = λ t agree.
                let parts = next_agrees found is t (subst (λ (rels : List Rel). AllByRecursion (Agrees (next_tables found is) t) (flat_map reads_in rels)) now_done agree) in
                one_more t plan.subs place sub known below here made _ hole (worth_over found is t parts.1) (so_far.worth t parts.0);
            left =
                next_left (types_in plan) plan.typed.rel plan.subs place sub known below here so_far.left made hole
                (goes sub (worth_seen made.worth) is.rows runs_next.typed fit is.worth);
            receipts_of = subst (λ (rels : List Rel). AreReceiptsOf workers files plan rels new) (sym now_done)
                (more_receipts workers files plan typed (known_seen known) done sub.rel receipts new own so_far.receipts_of adds);
          }

    -- all of them are known
    pub all_known : (place : ℕ) (known : Vec KnownWorth Global) (receipts : List PipeReceipt) → length plan.subs ≤ place → AllZip IsOpenRead (plan_reads_of plan) files → IsSoFar place known.items receipts → AreWorths workers files plan (Ok known) receipts
    all_known place known receipts most are so_far =
        let subs = plan.subs in
        let taken : take place subs ≡ subs = take_all place subs most in
        let none : drop place subs ≡ [] = drop_all place subs most in
        record {
          tables = so_far.tables;
          told = so_far.told;
          worth = λ t agree.
              ap (λ (rest : List Sub). worths t rest (known_seen known.items)) (sym none)
              ∙ so_far.worth t (subst (λ (done : List Sub). AllByRecursion (Agrees so_far.tables t) (flat_map reads_in (rels_of done))) (sym taken) agree);
          ready = is_ready (types_in plan) (known_seen known.items) plan.typed.rel files (files_open plan typed files are) so_far.left.own;
          receipts_of = subst (λ (done : List Sub). AreReceiptsOf workers files plan (rels_of done) receipts) taken so_far.receipts_of;
        }

    -- the rows of the main relation are the plan's
    pub plan_rows : (known : Known) (found : Result (Vec KnownWorth Global) Fault) (receipts : List PipeReceipt) (s : Stream Row) → Ok known ≡ all_seen found → AreWorths workers files plan found receipts → AreRowsOf files (filled known plan.typed.rel) s
        → (tables : Tables) × AreTablesOf files tables × (s ≡ denote_plan tables plan)
    plan_rows known found receipts s is worth rows =
        let main = plan.typed.rel in
        let t : Tables = joint (reads_in main) rows.tables worth.tables in
        let parts = joint_agrees (rels_of plan.subs) main all_once rows.tables worth.tables t (agree_alone t (flat_map reads_in (rels_of plan.subs ++ main ∷ []))) in (
          t,
          (λ number. joint_may rows.tables worth.tables (told_by files) (reads_in main) number (rows.told number) (worth.told number)),
          rows.denoted ∙ same_filled known main rows.tables t sub_types.1 parts.1 ∙ plan_is t plan (Ok known) (is ∙ worth.worth t parts.0),
        )

    -- a fault of a subquery is the plan's end
    pub plan_fault : (fault : Fault) (found : Result (Vec KnownWorth Global) Fault) (receipts : List PipeReceipt) → Err fault ≡ all_seen found → AreWorths workers files plan found receipts
        → (tables : Tables) × AreTablesOf files tables × (record { rows = []; end = Some fault } ≡ denote_plan tables plan)
    plan_fault fault found receipts is worth =
        (worth.tables, worth.told, plan_is worth.tables plan (Err fault) (is ∙ worth.worth worth.tables (agree_alone worth.tables (flat_map reads_in (rels_of plan.subs)))))

    -- the receipts of all relations, by their numbers
    pub plan_receipts : (known : Known) (found : Result (Vec KnownWorth Global) Fault) (old new sorted : List PipeReceipt) → Ok known ≡ all_seen found → AreWorths workers files plan found old
        → Adds (IsReceiptAt workers files (read_rels (filled known plan.typed.rel))) (reads_of (filled known plan.typed.rel)) old new → sorted ≡ arranged by_number new → AllZip (IsReceiptOf workers) (map (input_read files) (plan_reads_of plan)) sorted
    plan_receipts known found old new sorted is worth adds order =
        let so_far : AreReceiptsOf workers files plan (rels_of plan.subs) old = subst (λ (one : Result Known Fault). IfOk one (λ _. AreReceiptsOf workers files plan (rels_of plan.subs) old)) (sym is) worth.receipts_of in
        let own = (in_plan (IsManyRead workers files plan typed) plan (all_many workers files plan typed)).1 in
        receipts_in_order workers files plan typed new sorted (more_receipts workers files plan typed known (rels_of plan.subs) plan.typed.rel old new own so_far adds) order

    -- and the main relation may be run
    pub main_ready : (known : Known) (found : Result (Vec KnownWorth Global) Fault) (receipts : List PipeReceipt) → Ok known ≡ all_seen found → AreWorths workers files plan found receipts → IsReady (filled known plan.typed.rel) files
    main_ready known found receipts is worth = subst (λ (one : Result Known Fault). IfOk one (λ all. IsReady (filled all plan.typed.rel) files)) (sym is) worth.ready
