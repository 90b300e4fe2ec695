use Rattle.gas_geom.proofs.HppRows.{every-kept, even-kept, odd-kept}
use Rattle.gas_geom.proofs.laws.rows_of_hpp_keep_their_momentum.Goals as goal

pub returns : goal.returns
returns c = record { whole = every-kept; even = even-kept; odd = odd-kept }
