use Rattle.std.proofs.Common.{◌∙◌, ap}
use Rattle.std.specs.Prelude.{unwrap_or}
use Rattle.clap.specs.Words.{found_of}
use Rattle.gas_tool_cli.proofs.Values.{number_at}
use Rattle.gas_tool_cli.proofs.matches.plan_of.Goals as goal

pub returns : goal.returns
returns c =
    let f = found_of c.args.options.now in
    record {
      stages_at = (c.in_ok-stages.stages, c.in_ok-stages.ensures, c.unwrap_or.ensures ∙ ap (unwrap_or c.in_ok-stages.stages) c.default_stages.ensures);
      capacity_at = (c.in_ok-capacity.capacity, c.in_ok-capacity.ensures, c.unwrap_or-2.ensures ∙ ap (unwrap_or c.in_ok-capacity.capacity) c.default_capacity.ensures);
      generations_at = number_at 64 f _ c.in_ok-generations.generations c.in_ok-generations.ensures.none c.in_ok-generations.ensures.value;
    }
