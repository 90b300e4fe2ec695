use Rattle.std.proofs.Common.{◌≤◌, vec_len}
use Rattle.std.specs.Io.KnownBytes.{Consumes}
use Rattle.gas_tool_io.specs.declared.input.TheConstants.{LONGEST_INPUT}
use Rattle.gas_tool_io.proofs.input.slurp.Given as goal

-- each read returned a byte or more, and the text is what came so far
abbrev pub invariant-loop-reads : goal.invariant-loop-reads
invariant-loop-reads g l = record {
  many : l.reads ≤ vec_len l.text;
  short : vec_len l.text ≤ LONGEST_INPUT;
  bytes : Consumes (g.R.Read.remaining l.initial.reader) (g.R.Read.remaining l.reader) l.text.items;
}
