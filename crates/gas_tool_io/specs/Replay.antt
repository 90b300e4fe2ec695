-- The text of a replay: whether the pass is done, a line per belt, and the lattice's cells if the pass is done.
use Rattle.std.specs.Prelude.{ℕ, List, [], ◌++◌, codes, length, slice_index_or, is_some, if◌then◌else◌}
use Rattle.std.specs.Fmt.{decimal}
use Rattle.std.specs.List.{flat_map, range_with_len}
use Rattle.std.specs.Option.{option_map_or}
use Rattle.gas_geom.specs.Gas.{Rules}
use Rattle.gas_pipe_replay.specs.Replay.{ReplayModel}
use Rattle.gas_pipe_replay.specs.declared.pass.Counts.{Counts}
use Rattle.gas_tool_io.specs.Text.{line_feed, cells_text}

-- the line of belt k: the numbers of rows put on it and taken from it
unfoldable pub belt_line : List Counts → ℕ → List ℕ
belt_line belts k =
    let counts : Counts = slice_index_or belts k (record { put = 0; taken = 0 }) in
    codes "belt " ++ decimal k ++ codes " put " ++ decimal counts.put ++ codes " taken " ++ decimal counts.taken ++ line_feed

abbrev pub replay_text : Rules → ReplayModel → ℕ → List ℕ
replay_text gas replay generation =
    (if is_some replay.lattice then codes "done" else codes "not done") ++ line_feed
    ++ flat_map (belt_line replay.belts) (range_with_len 0 (length replay.belts))
    ++ option_map_or (λ lattice. cells_text gas lattice generation) replay.lattice []
