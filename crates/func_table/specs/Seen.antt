-- What is seen of rows, lines and options in memory, without references.
use Rattle.std.specs.Prelude.{map}
use Rattle.func_table.specs.declared.row.Row.{Row}
use Rattle.func_table.specs.declared.line.Line.{Line}
use Rattle.func_table.specs.declared.line.Params.{Params}
use Rattle.func_table.specs.declared.line.Params.TheVariants as params
use Rattle.func_table.specs.declared.options.Choice.{Choice as MadeChoice}
use Rattle.func_table.specs.Options.{Choice}
use Rattle.func_table.specs.Entry.{Entry, Signature, Arguments, Each, AnyNumber, OneOrMore}

-- what a row tells
abbrev pub seen : Row → Signature
seen row = record { name = row.name.now; key = row.key.now; func = row.func; result = row.result }

-- the arguments that a line takes
abbrev pub arguments_seen : Params → Arguments
arguments_seen (params.Each names) = Each (map (λ name. name.now) names.now)
arguments_seen (params.AnyNumber name) = AnyNumber name.now
arguments_seen (params.OneOrMore name) = OneOrMore name.now

-- a line of the table
abbrev pub entry_seen : Line → Entry
entry_seen line = record {
  file = line.file.now;
  class = line.class;
  arguments = arguments_seen line.params;
  alike = line.alike;
  row = seen line.row;
}

-- an option with the values that are honoured
abbrev pub choice_seen : MadeChoice → Choice
choice_seen choice = record { option = choice.option.now; values = map (λ value. value.now) choice.values.now }
