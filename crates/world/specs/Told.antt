-- What a folder and a reader in memory show: files, reads, counts and planned failures.
use Rattle.std.specs.Prelude.{ℕ, List, [], Bool, false, refl}
use Rattle.std.specs.Coded.{Coded, code_by, coded×, coded_ℕ, coded_list, coded_bool}
use Rattle.std.specs.FinMap as map
use Rattle.world.specs.Files.{Files}
use Rattle.world.specs.Reads.{Reads}

-- The failures that are planned: names whose opening or length fails, reads by name and index or place, second readers by
-- name and index, appends by index with the bytes that are kept, and whether the next creation fails.
pub record Plan : Type 0 where
  pub opens : List (List ℕ)
  pub lens : List (List ℕ)
  pub reads : List (List ℕ × ℕ)
  pub places : List (List ℕ × ℕ)
  pub agains : List (List ℕ × ℕ)
  pub appends : List (ℕ × ℕ)
  pub create : Bool

abbrev pub no_failures : Plan
no_failures = record { opens = []; lens = []; reads = []; places = []; agains = []; appends = []; create = false }

-- The failures that are planned for one reader: of its length, and of its reads by index or place and its second readers by index.
pub record ReadersPlan : Type 0 where
  pub len : Bool
  pub reads : List ℕ
  pub places : List ℕ
  pub agains : List ℕ

-- a folder in memory; `appended` counts its appends, and `lent` the readers that were given and not given back
pub record Told : Type 0 where
  pub files : Files
  pub reads : Reads
  pub read_faults : ℕ
  pub write_faults : ℕ
  pub plan : Plan
  pub appended : ℕ
  pub lent : ℕ

abbrev pub names_code : Coded (List (List ℕ))
names_code = coded_list (coded_list coded_ℕ)

abbrev pub named_code : Coded (List (List ℕ × ℕ))
named_code = coded_list (coded× (coded_list coded_ℕ) coded_ℕ)

abbrev pub pairs_code : Coded (List (ℕ × ℕ))
pairs_code = coded_list (coded× coded_ℕ coded_ℕ)

abbrev pub files_code : Coded Files
files_code = map.code (coded_list coded_ℕ) (coded_list coded_ℕ)

-- a plan is stored as its fields
abbrev pub plan_code : Coded Plan
plan_code =
    code_by (List (List ℕ) × (List (List ℕ) × (List (List ℕ × ℕ) × (List (List ℕ × ℕ) × (List (List ℕ × ℕ) × (List (ℕ × ℕ) × Bool))))))
    (coded× names_code (coded× names_code (coded× named_code (coded× named_code (coded× named_code (coded× pairs_code coded_bool))))))
    (λ p. (p.opens, (p.lens, (p.reads, (p.places, (p.agains, (p.appends, p.create)))))))
    (λ t. record { opens = t.0; lens = t.1.0; reads = t.1.1.0; places = t.1.1.1.0; agains = t.1.1.1.1.0; appends = t.1.1.1.1.1.0; create = t.1.1.1.1.1.1 })
    (λ _. refl)

abbrev pub told_code : Coded Told
told_code =
    code_by (Files × (Reads × (ℕ × (ℕ × (Plan × (ℕ × ℕ))))))
    (coded× files_code (coded× pairs_code (coded× coded_ℕ (coded× coded_ℕ (coded× plan_code (coded× coded_ℕ coded_ℕ))))))
    (λ t. (t.files, (t.reads, (t.read_faults, (t.write_faults, (t.plan, (t.appended, t.lent)))))))
    (λ p. record { files = p.0; reads = p.1.0; read_faults = p.1.1.0; write_faults = p.1.1.1.0; plan = p.1.1.1.1.0; appended = p.1.1.1.1.1.0; lent = p.1.1.1.1.1.1 })
    (λ _. refl)

-- a reader in memory; `read_calls` and `again_calls` count its calls
pub record Opened : Type 0 where
  pub bytes : List ℕ
  pub reads : Reads
  pub faults : ℕ
  pub plan : ReadersPlan
  pub read_calls : ℕ
  pub again_calls : ℕ

abbrev pub readers_plan_code : Coded ReadersPlan
readers_plan_code =
    code_by (Bool × (List ℕ × (List ℕ × List ℕ)))
    (coded× coded_bool (coded× (coded_list coded_ℕ) (coded× (coded_list coded_ℕ) (coded_list coded_ℕ))))
    (λ p. (p.len, (p.reads, (p.places, p.agains))))
    (λ t. record { len = t.0; reads = t.1.0; places = t.1.1.0; agains = t.1.1.1 })
    (λ _. refl)

abbrev pub opened_code : Coded Opened
opened_code =
    code_by (List ℕ × (Reads × (ℕ × (ReadersPlan × (ℕ × ℕ)))))
    (coded× (coded_list coded_ℕ) (coded× pairs_code (coded× coded_ℕ (coded× readers_plan_code (coded× coded_ℕ coded_ℕ)))))
    (λ o. (o.bytes, (o.reads, (o.faults, (o.plan, (o.read_calls, o.again_calls))))))
    (λ t. record { bytes = t.0; reads = t.1.0; faults = t.1.1.0; plan = t.1.1.1.0; read_calls = t.1.1.1.1.0; again_calls = t.1.1.1.1.1 })
    (λ _. refl)

-- a folder in memory that never fails
pub record SureTold : Type 0 where
  pub files : Files
  pub reads : Reads
  pub lent : ℕ

abbrev pub sure_code : Coded SureTold
sure_code =
    code_by (Files × (Reads × ℕ))
    (coded× files_code (coded× pairs_code coded_ℕ))
    (λ t. (t.files, (t.reads, t.lent)))
    (λ p. record { files = p.0; reads = p.1.0; lent = p.1.1 })
    (λ _. refl)

-- a reader in memory that never fails
pub record SureOpened : Type 0 where
  pub bytes : List ℕ
  pub reads : Reads

-- notes in memory
pub record Noted : Type 0 where
  pub text : List ℕ
  pub failures : ℕ
