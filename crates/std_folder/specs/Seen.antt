-- What contracts see of a folder of the system and of its readers.
use Rattle.std.specs.Prelude.{ℕ, List, Option, refl}
use Rattle.std.specs.Coded.{Coded, code_by, coded×, coded_ℕ, coded_list, coded_option}
use Rattle.std.specs.FinSet as set
use Rattle.std_folder.specs.Names.{Names}

-- a reader: the name that its file was opened by, and how often its calls failed
pub record SeenReader : Type 0 where
  pub name : List ℕ
  pub faults : ℕ

abbrev pub reader_code : Coded SeenReader
reader_code =
    code_by (List ℕ × ℕ)
    (coded× (coded_list coded_ℕ) coded_ℕ)
    (λ r. (r.name, r.faults))
    (λ t. record { name = t.0; faults = t.1 })
    (λ _. refl)

-- a folder: the names of the files that are open for reading, the name of the one that is open for appending, how often
-- reads and writes failed, and how many readers were given and not given back
pub record SeenFolder : Type 0 where
  pub reading : Names
  pub out : Option (List ℕ)
  pub read_faults : ℕ
  pub write_faults : ℕ
  pub lent : ℕ

abbrev pub folder_code : Coded SeenFolder
folder_code =
    code_by (Names × (Option (List ℕ) × (ℕ × (ℕ × ℕ))))
    (coded× (set.code (coded_list coded_ℕ)) (coded× (coded_option (coded_list coded_ℕ)) (coded× coded_ℕ (coded× coded_ℕ coded_ℕ))))
    (λ f. (f.reading, (f.out, (f.read_faults, (f.write_faults, f.lent)))))
    (λ t. record { reading = t.0; out = t.1.0; read_faults = t.1.1.0; write_faults = t.1.1.1.0; lent = t.1.1.1.1 })
    (λ _. refl)
