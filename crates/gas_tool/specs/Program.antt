-- What the whole program does, and its exit status.
use Rattle.std.specs.Prelude.{◌≡◌, ◌≤◌, ◌<◌, ℕ, List, length, Option, IfSome, Result, Ok, Err, ⊤}
use Rattle.gas_scene.specs.declared.error.SceneError.TheVariants as scene
use Rattle.gas_tool.specs.Outcome.{Performs, outcome}
use Rattle.gas_tool.specs.declared.faults.ToolError.{ToolError}
use Rattle.gas_tool.specs.declared.faults.ToolError.TheVariants as tool
use Rattle.gas_tool.specs.declared.program.Fault.{Fault}
use Rattle.gas_tool.specs.declared.program.Fault.TheVariants.{Usage, Input, Tool}
use Rattle.gas_tool_cli.specs.Requests.{Words, AskFor, HaveFault}
use Rattle.gas_tool_cli.specs.declared.words.Request.{Request}
use Rattle.gas_tool_cli.specs.declared.words.UsageFault.TheVariants as usage
use Rattle.gas_tool_io.specs.declared.input.InputFault.TheVariants as input

-- the exit status of a fault
abbrev pub exit_status : Fault → ℕ
exit_status (Usage (usage.Help text)) = 0
exit_status (Usage (usage.Usage text)) = 2
exit_status (Usage usage.Memory) = 3
exit_status (Input input.Memory) = 3
exit_status (Input refused) = 1
exit_status (Tool tool.Memory) = 3
exit_status (Tool (tool.Scene scene.Memory)) = 3
exit_status (Tool (tool.Write written)) = 4
exit_status (Tool refused) = 1

-- There are a request that the words ask for, and a text, which is the whole input if the reader names its bytes. A call of
-- `perform` with these returns this result, and what was written goes from `old` to `new`.
pub record Answers (words : Words) (bytes old new : Option (List ℕ)) (result : Result ⊤ ToolError) : Type 0 where
  pub request : Request
  pub text : List ℕ
  pub asked : AskFor words request
  pub whole : IfSome bytes (λ all. text ≡ all)
  pub short : length text ≤ 67108864
  pub performed : Performs (outcome text request) old new result

-- The program ends with this result, in the order words, input, request. What its reader has goes from `bytes` to `left`, and
-- what was written from `old` to `new`. Words that are no request leave both, an input that is refused leaves what was written.
abbrev pub Ends : Words → Option (List ℕ) → Option (List ℕ) → Option (List ℕ) → Option (List ℕ) → Result ⊤ Fault → Type 0
Ends words bytes left old new (Err (Usage fault)) = HaveFault words fault × (left ≡ bytes) × (new ≡ old)
Ends words bytes left old new (Err (Input fault)) =
    ((request : Request) × AskFor words request) × (fault ≡ input.TooLong → IfSome bytes (λ all. 67108864 < length all)) × (new ≡ old)
Ends words bytes left old new (Err (Tool fault)) = Answers words bytes old new (Err fault)
Ends words bytes left old new (Ok done) = Answers words bytes old new (Ok done)
