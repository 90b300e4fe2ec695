use Rattle.std.proofs.Common.{ap, ◌∙◌, sym}
use Rattle.gas_stage.specs.Stage.{StageModel}
use Rattle.gas_stage.specs.Inner.Passes.{first_does}
use Rattle.gas_stage.proofs.Composed.{first_is, none_is_first}
use Rattle.gas_stage.proofs.stages.generation_of.Goals as goal

pub returns-then-k-stages : goal.returns-then-k-stages
returns-then-k-stages g c ch h es q fed =
    c.generation.ensures (first_does es) (ap (λ (v : StageModel). v.pass) c.index-stages-k.is
    ∙ first_is g.G.Gas.rules ch h c.args.stages.now c.args.k c.index-stages-k.result es q c.if-k-stages.true fed)

pub returns-else-k-stages : goal.returns-else-k-stages
returns-else-k-stages g c ch h es q fed = sym (none_is_first g.G.Gas.rules ch h c.args.stages.now c.args.k es q c.if-k-stages.false fed)
