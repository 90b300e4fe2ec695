use Rattle.std.proofs.Common.{ℕ, ◌<◌, ◌≤◌, ◌^◌, subst, sym, arith}
use Rattle.std.specs.Prelude.{IsUtf8}
use Rattle.std.proofs.Math.Pow.{pow_mono}
use Rattle.std.proofs.lemmas.Bool.{false≢true}
use Rattle.std.proofs.lemmas.Str.{IsUtf8-from_ascii}
use Rattle.gas_geom.specs.Lattice.{cell}
use Rattle.gas_cells.proofs.Pairs.{IsAscii-row_cells}
use Rattle.gas_scene.proofs.checkpoint.row_text.Goals as goal

pub unreachable-requires : goal.unreachable-requires
unreachable-requires g c =
    let l = c.args.lattice.now in
    let few : 2 ^ g.G.Gas.rules.dirs ≤ 256 = pow_mono g.met.G.Gas.laws.few_dirs in
    let low : (x : ℕ) → cell l.rows x c.args.y < 256 = λ x. omega (arith, few, c.row_bytes.ensures.lattice.sets x c.args.y) in
    false≢true (c.in-Err.ensures.succeeds (subst IsUtf8 (sym c.in_ok-row_bytes.ensures.row) (IsUtf8-from_ascii _ (IsAscii-row_cells l.channel l.rows c.args.y low))))
