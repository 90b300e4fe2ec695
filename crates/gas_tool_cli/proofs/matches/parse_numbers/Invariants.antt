use Rattle.std.proofs.Common.{map, take}
use Rattle.std.specs.List.{AllZip}
use Rattle.gas_tool_cli.specs.Requests.{IsNumber}
use Rattle.gas_tool_cli.proofs.matches.parse_numbers.Given as goal

-- the words so far are the numbers so far
abbrev pub invariant-loop-word : goal.invariant-loop-word
invariant-loop-word l = AllZip (IsNumber 32) (take l.word-index (map (λ w. w.now) l.words)) l.numbers.items
