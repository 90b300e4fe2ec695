-- Inner words: what functions of this crate promise one another. No public contract cites them.
use Rattle.std.specs.Prelude.{◌≡◌, ◌≢◌, ◌⊎◌, [], ⊤}
use Rattle.clap.specs.Words.{App, Shape}
use Rattle.clap.specs.declared.error.kind.ErrorKind.{ErrorKind}
use Rattle.clap.specs.declared.error.kind.ErrorKind.TheVariants.{DisplayHelp, DisplayVersion, OutOfMemory}
use Rattle.gas_tool_cli.specs.declared.words.UsageFault.{UsageFault}
use Rattle.gas_tool_cli.specs.declared.words.UsageFault.TheVariants as fault

-- a command with no subcommand
abbrev pub leaf_app : Shape → App
leaf_app shape = record { top = shape; subs = [] }

-- the fault of an error of this kind
abbrev pub TellsKind : ErrorKind → UsageFault → Type 0
TellsKind kind fault.Memory = ⊤
TellsKind kind (fault.Help text) = (kind ≡ DisplayHelp) ⊎ (kind ≡ DisplayVersion)
TellsKind kind (fault.Usage text) = (kind ≢ DisplayHelp) × (kind ≢ DisplayVersion) × (kind ≢ OutOfMemory)
