-- The files of the demo: the plan, and a table each for orders and lines.
use Rattle.std.specs.Prelude.{ℕ, List, [], ◌∷◌, codes}
use Rattle.std.specs.FinMap.{empty, insert}
use Rattle.arrow_meta.specs.File.{file_of}
use Rattle.world.specs.Files.{Files}
use Rattle.plan_spell.specs.Spelled.{spelled}
use Rattle.gen_data.specs.Rows.{order_rows, line_rows}
use Rattle.gen_data.specs.Plan.{demo_tree, line_names, order_names}
use Rattle.gen_data.specs.Checked.{line_types, order_types}

unfoldable pub orders_file : ℕ → List ℕ
orders_file number = file_of order_names order_types (order_rows number)

unfoldable pub lines_file : ℕ → List ℕ
lines_file number = file_of line_names line_types (line_rows number)

-- the plan as `plan`, and so many orders with their lines as `orders` and `lines`
unfoldable pub demo_files : ℕ → Files
demo_files number = insert (insert (insert empty (codes "plan") (spelled demo_tree)) (codes "orders") (orders_file number)) (codes "lines") (lines_file number)

-- the words that bind the names of the demo's tables to its files
abbrev pub demo_bindings : List (List ℕ)
demo_bindings = codes "orders=orders" ∷ codes "lines=lines" ∷ []
