-- The files of bindings, as they are opened one after another.
use Rattle.std.specs.Prelude.{◌≡◌, ℕ, List, map, Option}
use Rattle.std.specs.List.{All}
use Rattle.sub_types.specs.declared.kind.Ty.{Ty}
use Rattle.table_open.specs.declared.file.OpenFile.{OpenFile}
use Rattle.table_open.specs.Ready.{IsReady}

-- the files of the bindings, each ready for the types
pub record AreOpened {R : Type 0} (bytes : R → Option (List ℕ)) (types : List Ty) (bindings : List (ℕ × List ℕ)) (opened : List (OpenFile R)) : Type 0 where
  pub numbers : map (λ one. one.file) opened ≡ map (λ binding. binding.0) bindings
  pub ready : All (IsReady bytes types) opened
