-- Tests of values for null.
use Rattle.std.specs.Prelude.{not}
use Rattle.sub_types.specs.declared.value.Value.{Value}
use Rattle.plan_denote.specs.Computed.{Computed, is_null, truth}

abbrev pub null_test : Value → Computed
null_test value = truth (is_null value)

abbrev pub there_test : Value → Computed
there_test value = truth (not (is_null value))
