use Rattle.std.proofs.Common.{◌≡◌, ◌<◌, ◌+◌, ◌*◌, [], ◌∷◌, get_or, arith}
use Rattle.gas_geom.specs.Gas.{holds}
use Rattle.gas_geom.specs.Lattice.{streamed}
use Rattle.gas_rows.proofs.Streaming.{each_of_eight}
use Rattle.gas_rows.proofs.stream.Kernel.stream_words.Goals as goal

pub returns : goal.returns
returns g c = λ ch at about i b direction hb inside.
    let gas = g.G.Gas.rules in
    each_of_eight
    (λ k. k < gas.dirs → holds (get_or (c.stream_word.result ∷ c.stream_word-2.result ∷ c.stream_word-3.result ∷ c.stream_word-4.result ∷ c.stream_word-5.result ∷ c.stream_word-6.result ∷ c.stream_word-7.result ∷ c.stream_word-8.result ∷ []) k 0) b
    ≡ holds (streamed gas ch at (64 * c.args.j + b) c.args.self.now.rows.y) k)
    (λ h. c.stream_word.ensures ch at about h b hb inside) (λ h. c.stream_word-2.ensures ch at about h b hb inside)
    (λ h. c.stream_word-3.ensures ch at about h b hb inside) (λ h. c.stream_word-4.ensures ch at about h b hb inside)
    (λ h. c.stream_word-5.ensures ch at about h b hb inside) (λ h. c.stream_word-6.ensures ch at about h b hb inside)
    (λ h. c.stream_word-7.ensures ch at about h b hb inside) (λ h. c.stream_word-8.ensures ch at about h b hb inside)
    i (omega (arith, direction, g.met.G.Gas.laws.few_dirs)) direction
