use Rattle.std.proofs.Common.{◌∙◌, ap}
use Rattle.toml.specs.View.{view, table_view, members_view}
use Rattle.gas_scene.specs.Inner.Printing.{insert_member}
use Rattle.gas_scene.proofs.Values.{members_view-insert}
use Rattle.gas_scene.proofs.checkpoint.insert.Goals as goal

pub returns-in-Ok : goal.returns-in-Ok
returns-in-Ok c =
    ap members_view c.in-Ok.ensures.entries
    ∙ members_view-insert c.args.table.now.entries c.in_ok-key.key c.args.value
    ∙ ap (λ k. insert_member k (view c.args.value) (table_view c.args.table.now)) c.in_ok-key.ensures.ok
