-- The command line, for `clap`.
use Rattle.std.specs.Prelude.{pos, List, [], ◌∷◌, ◌++◌, Some, true, false, codes}
use Rattle.clap.specs.Words.{App, Rule, Shape, Text, new_rule}
use Rattle.clap.specs.Simple.{new_shape}
use Rattle.clap.specs.Lexer.{usize_max}
use Rattle.clap.specs.declared.builder.action.ArgAction.TheVariants.{Append, Set}
use Rattle.clap.specs.declared.builder.value_parser.ValueParser.{ValueParser}
use Rattle.clap.specs.declared.builder.value_parser.ValueParser.TheVariants.{Signed, Unsigned}

-- an option `--name VALUE`
abbrev pub option_rule : Text → ValueParser → Rule
option_rule name values = record (new_rule name) { long = Some name; value_names = 1; action = Some Set; parser = Some values }

-- such an option that must be given
abbrev pub required_rule : Text → ValueParser → Rule
required_rule name values = record (option_rule name values) { required = true }

-- an option whose value is a number of 32 bits
abbrev pub number_rule : Text → Rule
number_rule name = option_rule name (Signed (pos 0) (pos 4294967295))

-- the options of a plan: --generations G [--stages N] [--capacity C]
abbrev pub plan_rules : List Rule
plan_rules =
    required_rule (codes "generations") (Unsigned 0 18446744073709551615)
    ∷ number_rule (codes "stages")
    ∷ number_rule (codes "capacity") ∷ []

-- the options of a run: those of a plan, and [--threads T]
abbrev pub run_rules : List Rule
run_rules = plan_rules ++ number_rule (codes "threads") ∷ []

-- the width or the height of blocks
abbrev pub side_rule : Text → Rule
side_rule name = required_rule name (Signed (pos 1) (pos 4096))

-- the turns, [TURN]...: any number of words, each a number of 32 bits
abbrev pub turns_rule : Rule
turns_rule = record (new_rule (codes "turns")) {
  action = Some Append;
  range = Some (record { start_inclusive = 0; end_inclusive = usize_max });
  value_names = 1;
  parser = Some (Signed (pos 0) (pos 4294967295));
}

-- a subcommand with these options
abbrev pub subcommand : Text → List Rule → Shape
subcommand name rules = record (new_shape name) { rules = rules }

-- The program's commands: `check`, `run` with the options of a run, `coarse` with these and two sides of blocks, and `replay`
-- with the options of a plan and turns.
abbrev pub program_app : App
program_app = record {
  top = record (new_shape (codes "fhpgas")) { is_leaf = false; subcommand_required = true; has_version = true };
  subs =
      subcommand (codes "check") []
      ∷ subcommand (codes "run") run_rules
      ∷ subcommand (codes "coarse") (run_rules ++ side_rule (codes "block-width") ∷ side_rule (codes "block-height") ∷ [])
      ∷ subcommand (codes "replay") (plan_rules ++ turns_rule ∷ []) ∷ [];
}
