-- The request in the matches of the words, and the fault of words without a request.
use Rattle.std.specs.Prelude.{◌≡◌, ◌≢◌, ◌⊎◌, ◌≤◌, ◌*◌, ℕ, min, max, List, [], ◌∷◌, map, Option, Some, None, IsSomeAnd, Result, Ok, Err, IsOkAnd, String, codes, unwrap_or, ⊤}
use Rattle.std.specs.Global.{Global}
use Rattle.std.specs.Int.{div_ceil}
use Rattle.std.specs.String.{string_bytes}
use Rattle.std.specs.Vec.Iter.{into_iter_items}
use Rattle.std.specs.declared.io.Error.{Error}
use Rattle.std.specs.declared.vec.IntoIter.{IntoIter}
use Rattle.std.specs.List.{AllZip}
use Rattle.std.specs.Str.Parse.{ParsesUnsigned}
use Rattle.std.specs.declared.num.ParseIntError.{ParseIntError}
use Rattle.clap.specs.Words.{Row, Text, all_of, fault_of, one_of, subcommand_of, IsAmong, Kinds}
use Rattle.clap.specs.declared.error.kind.ErrorKind.TheVariants.{DisplayHelp, DisplayVersion, InvalidValue}
use Rattle.gas_tool_cli.specs.Words.{program_app}
use Rattle.gas_tool_cli.specs.declared.words.UsageFault.{UsageFault}
use Rattle.gas_tool_cli.specs.declared.words.UsageFault.TheVariants as fault
use Rattle.gas_tool_cli.specs.declared.words.Request.{Request}
use Rattle.gas_tool_cli.specs.declared.words.Request.TheVariants.{Check, Run, Coarse, Replay}

-- a text is this decimal number, which fits in `bits` bits
abbrev pub IsNumber : ℕ → Text → ℕ → Type 0
IsNumber bits text n = ParsesUnsigned {E = ParseIntError} bits 10 text (Ok n)

-- the rows contain this number for an option
abbrev pub IsNumberAt : ℕ → List Row → Text → ℕ → Type 0
IsNumberAt bits rows option n = IsSomeAnd (one_of option rows) (λ text. IsNumber bits text n)

-- the rows contain this number for an option, or no such option
abbrev pub IsGivenAt : List Row → Text → Option ℕ → Type 0
IsGivenAt rows option None = one_of option rows ≡ None
IsGivenAt rows option (Some n) = IsNumberAt 32 rows option n

-- the rows contain this number for an option, or no such option, and it is the default
abbrev pub IsNumberOr : ℕ → List Row → Text → ℕ → Type 0
IsNumberOr default rows option n = (given : Option ℕ) × IsGivenAt rows option given × (n ≡ unwrap_or given default)

-- the stages of passes of equal length, as few as 64 stages allow; at least one per thread
abbrev pub even_stages : ℕ → ℕ → ℕ
even_stages threads generations = max threads (div_ceil generations (div_ceil generations 64))

-- the number of stages if none is given: 4, or even passes, where threads count as 1 to 64, and no generation as one
abbrev pub default_stages : Option ℕ → ℕ → ℕ
default_stages None generations = 4
default_stages (Some threads) generations = even_stages (max 1 (min threads 64)) (max generations 1)

-- the capacity if none is given
abbrev pub default_capacity : Option ℕ → ℕ
default_capacity None = 2
default_capacity (Some threads) = 128

-- the rows contain these numbers of a plan, whose defaults depend on its generations and its number of threads, if one is given
pub record IsPlanAt (rows : List Row) (threads : Option ℕ) (stages capacity generations : ℕ) : Type 0 where
  pub stages_at : IsNumberOr (default_stages threads generations) rows (codes "stages") stages
  pub capacity_at : IsNumberOr (default_capacity threads) rows (codes "capacity") capacity
  pub generations_at : IsNumberAt 64 rows (codes "generations") generations

-- the rows contain, for an option, this width or height of blocks
abbrev pub IsSideAt : List Row → Text → ℕ → Type 0
IsSideAt rows option n = IsNumberAt 32 rows option n × (1 ≤ n) × (n ≤ 4096)

-- the rows contain these turns, in order; none if there are no such words
abbrev pub AreTurnsAt : List Row → List ℕ → Type 0
AreTurnsAt rows turns = AllZip (IsNumber 32) (unwrap_or (all_of (codes "turns") rows) []) turns

-- the request of a subcommand's name and rows
abbrev pub IsRequestOf : Option (Text × List Row) → Request → Type 0
IsRequestOf None request = ⊥
IsRequestOf (Some sub) Check = sub.0 ≡ codes "check"
IsRequestOf (Some sub) (Run stages capacity generations threads) =
    (sub.0 ≡ codes "run") × IsGivenAt sub.1 (codes "threads") threads × IsPlanAt sub.1 threads stages capacity generations
IsRequestOf (Some sub) (Coarse stages capacity generations threads width height) =
    (sub.0 ≡ codes "coarse") × IsGivenAt sub.1 (codes "threads") threads × IsPlanAt sub.1 threads stages capacity generations
    × IsSideAt sub.1 (codes "block-width") width × IsSideAt sub.1 (codes "block-height") height
IsRequestOf (Some sub) (Replay stages capacity generations turns) =
    (sub.0 ≡ codes "replay") × IsPlanAt sub.1 None stages capacity generations × AreTurnsAt sub.1 turns

-- a request that can be performed: its blocks have at least one column and one row
abbrev pub IsAllowed : Request → Type 0
IsAllowed (Coarse stages capacity generations threads width height) = (1 ≤ width) × (1 ≤ height)
IsAllowed request = ⊤

-- the fault of words for which `clap` returns errors of these kinds. It is help only if they ask for it or for the
-- version. It is usage only if there is an error, and never if they ask only for one of these.
abbrev pub IsFaultOf : Kinds → UsageFault → Type 0
IsFaultOf kinds fault.Memory = ⊤
IsFaultOf kinds (fault.Help text) = IsAmong DisplayHelp kinds ⊎ IsAmong DisplayVersion kinds
IsFaultOf kinds (fault.Usage text) = (kinds ≢ []) × (kinds ≢ DisplayHelp ∷ []) × (kinds ≢ DisplayVersion ∷ [])

-- what `env::args` returns: the program's words, or why they could not be had
abbrev pub Words : Type 0
Words = Result (IntoIter (String Global) Global) Error

-- the words ask for this request
abbrev pub AskFor : Words → Request → Type 0
AskFor words request = IsOkAnd words (λ all. IsRequestOf (subcommand_of program_app (map string_bytes (into_iter_items all))) request)

-- the words are no request, with this fault; words that could not be had count as an invalid value
abbrev pub HaveFault : Words → UsageFault → Type 0
HaveFault (Ok all) fault = IsFaultOf (fault_of program_app (map string_bytes (into_iter_items all))) fault
HaveFault (Err error) fault = IsFaultOf (InvalidValue ∷ []) fault
