use Rattle.std.proofs.Common.{◌∙◌, arith}
use Rattle.gas_rows.proofs.stream.Kernel.stream_word.Goals as goal

pub returns : goal.returns
returns g c = λ ch at about direction b hb inside.
    c.stream_word.ensures.streamed b hb (omega (arith, inside, about.wide, c.incoming-along.ensures.wide))
    ∙ c.incoming-along.ensures.streamed ch at about _ inside
