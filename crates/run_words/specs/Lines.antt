-- The line that is said of each answer of `run`, and the number that the program ends with.
use Rattle.std.specs.Prelude.{ℕ, List, [], ◌∷◌, ◌++◌, codes, decimal}
use Rattle.std.specs.List.{flat_map}
use Rattle.run_words.specs.declared.status.Status.{Status}
use Rattle.run_words.specs.declared.status.Status.TheVariants as status
use Rattle.plan_verdict.specs.declared.rule.Rule.{Rule}
use Rattle.plan_verdict.specs.declared.rule.Rule.TheVariants as rules
use Rattle.table_open.specs.declared.error.FileRule.{FileRule}
use Rattle.table_open.specs.declared.error.FileRule.TheVariants as file_rules
use Rattle.sub_types.specs.declared.fault.FaultKind.{FaultKind}
use Rattle.sub_types.specs.declared.fault.FaultKind.TheVariants as faults

-- the number that the program ends with
abbrev pub exit_of : Status → ℕ
exit_of (status.Ok report) = 0
exit_of status.Usage = 2
exit_of (status.PlanUnreadable place) = 3
exit_of (status.PlanRefused relation rule) = 4
exit_of (status.FileRefused file rule) = 5
exit_of (status.DataFault fault) = 6
exit_of status.ReadFault = 7
exit_of status.WriteFault = 8
exit_of status.NoMemory = 9

-- a variant's name, and the numbers in the order of its fields
pub record Named : Type 0 where
  pub name : List ℕ
  pub numbers : List ℕ

abbrev pub rule_words : Rule → Named
rule_words (rules.UnknownRelation number) = record { name = codes "UnknownRelation"; numbers = number ∷ [] }
rule_words rules.UnsupportedForm = record { name = codes "UnsupportedForm"; numbers = [] }
rule_words rules.MissingField = record { name = codes "MissingField"; numbers = [] }
rule_words rules.UnknownFunction = record { name = codes "UnknownFunction"; numbers = [] }
rule_words rules.BadArguments = record { name = codes "BadArguments"; numbers = [] }
rule_words rules.TypeMismatch = record { name = codes "TypeMismatch"; numbers = [] }
rule_words rules.BadReference = record { name = codes "BadReference"; numbers = [] }
rule_words rules.BadMapping = record { name = codes "BadMapping"; numbers = [] }
rule_words rules.UnsupportedType = record { name = codes "UnsupportedType"; numbers = [] }
rule_words rules.UnsupportedOption = record { name = codes "UnsupportedOption"; numbers = [] }
rule_words rules.BadLiteral = record { name = codes "BadLiteral"; numbers = [] }
rule_words rules.BadNames = record { name = codes "BadNames"; numbers = [] }
rule_words rules.TooMany = record { name = codes "TooMany"; numbers = [] }

abbrev pub file_rule_words : FileRule → Named
file_rule_words (file_rules.Unbound relation) = record { name = codes "Unbound"; numbers = relation ∷ [] }
file_rule_words file_rules.Missing = record { name = codes "Missing"; numbers = [] }
file_rule_words file_rules.NotArrow = record { name = codes "NotArrow"; numbers = [] }
file_rule_words (file_rules.BadFooter place) = record { name = codes "BadFooter"; numbers = place ∷ [] }
file_rule_words file_rules.Compressed = record { name = codes "Compressed"; numbers = [] }
file_rule_words (file_rules.Unsupported column) = record { name = codes "Unsupported"; numbers = column ∷ [] }
file_rule_words (file_rules.NoColumn relation column) = record { name = codes "NoColumn"; numbers = relation ∷ column ∷ [] }
file_rule_words (file_rules.WrongType relation column) = record { name = codes "WrongType"; numbers = relation ∷ column ∷ [] }

abbrev pub fault_words : FaultKind → Named
fault_words faults.Overflow = record { name = codes "Overflow"; numbers = [] }
fault_words faults.DivideByZero = record { name = codes "DivideByZero"; numbers = [] }
fault_words faults.BadCast = record { name = codes "BadCast"; numbers = [] }
fault_words faults.BadStart = record { name = codes "BadStart"; numbers = [] }
fault_words faults.TextTooLong = record { name = codes "TextTooLong"; numbers = [] }
fault_words faults.NullInRequired = record { name = codes "NullInRequired"; numbers = [] }
fault_words (faults.BadBatch file block) = record { name = codes "BadBatch"; numbers = file ∷ block ∷ [] }
fault_words faults.TooManyRows = record { name = codes "TooManyRows"; numbers = [] }
fault_words faults.ManyRows = record { name = codes "ManyRows"; numbers = [] }

-- a name and its numbers, each after a space
unfoldable pub named_text : Named → List ℕ
named_text words = words.name ++ flat_map (λ n. 32 ∷ decimal n) words.numbers

-- what is refused or faulty, by a number and a name
abbrev pub told_text : List ℕ → ℕ → List ℕ → Named → List ℕ
told_text start number middle words = start ++ decimal number ++ middle ++ named_text words ++ codes "\n"

-- the line of an answer of `run`
unfoldable pub line_of : Status → List ℕ
line_of (status.Ok report) = codes "ok " ++ decimal report.rows ++ codes " rows\n"
line_of status.Usage = codes "usage: run PLAN OUT WORKERS NAME=FILE.. or check PLAN or demo NUMBER WORKERS\n"
line_of (status.PlanUnreadable place) = codes "plan unreadable at byte " ++ decimal place ++ codes "\n"
line_of (status.PlanRefused relation rule) = told_text (codes "plan refused: relation ") relation (codes ": ") (rule_words rule)
line_of (status.FileRefused file rule) = told_text (codes "file ") file (codes " refused: ") (file_rule_words rule)
line_of (status.DataFault fault) = told_text (codes "data fault: relation ") fault.relation (codes ": ") (fault_words fault.kind)
line_of status.ReadFault = codes "read fault\n"
line_of status.WriteFault = codes "write fault\n"
line_of status.NoMemory = codes "no memory\n"

-- the line of an answer of `check`
unfoldable pub check_line_of : Status → List ℕ
check_line_of (status.Ok report) = codes "plan accepted\n"
check_line_of refusal = line_of refusal
