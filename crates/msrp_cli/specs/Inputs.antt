-- What a text is read from.
use Rattle.msrp_plan.specs.Common.{Bool, true, false}
use Rattle.msrp_cli.specs.declared.input.Input.{Input}
use Rattle.msrp_cli.specs.declared.input.Input.TheVariants.{Standard, Opened}

-- the text comes from standard input
abbrev pub is_standard : Input → Bool
is_standard (Standard input) = true
is_standard (Opened file) = false
