use Rattle.ssi_names.specs.Scopes.{command_row}
use Rattle.ssi_names.proofs.Commands.{no_command, next_command}
use Rattle.ssi_names.proofs.Lists.{map_next}
use Rattle.ssi_names.proofs.bodies.commands.Goals as goal

pub loop-tree-preserved : goal.loop-tree-preserved
loop-tree-preserved c =
    let scope = c.args.scope.now in
    let trees = c.args.trees.now in
    let i = c.loop-tree.tree-index in
    let so_far = c.loop-tree.invariant in
    let made = c.in_ok-command.ensures in
    record {
      faults = next_command scope trees i no_command c.loop-tree.past c.loop-tree.faults.items c.command.new.faults.items _ c.loop-tree-test.true so_far.faults made.faults;
      rows = map_next (command_row scope) trees i no_command _ _ _ c.loop-tree-test.true so_far.rows made.row c.in_ok-push.ensures.items;
    }
