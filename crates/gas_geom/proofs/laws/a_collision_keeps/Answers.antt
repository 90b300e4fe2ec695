use Rattle.gas_geom.proofs.laws.a_collision_keeps.Goals as goal

pub returns : goal.returns
returns g c =
    let laws = g.met.G.Gas.laws in
    record { one_to_one = laws.collide_one_to_one; number = laws.collide_keeps; momentum = laws.collide_keeps_momentum }
