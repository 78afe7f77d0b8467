use Rattle.ssi_image.specs.OnePlan.{same_plan}
use Rattle.ssi_image.proofs.Tabled.{addresses_small, pins_few, modules_few, rows_few}
use Rattle.ssi_image.proofs.image.Image.assemble.Goals as goal

pub tables_of-requires-clause-small : goal.tables_of-requires-clause-small
tables_of-requires-clause-small c = addresses_small c.args.plan.now c.in_ok-rows.rows c.requires.well c.in_ok-rows.ensures

pub tables_of-requires-clause-pins : goal.tables_of-requires-clause-pins
tables_of-requires-clause-pins c = pins_few c.args.plan.now c.in_ok-rows.rows c.requires.well c.in_ok-rows.ensures

pub tables_of-requires-clause-few : goal.tables_of-requires-clause-few
tables_of-requires-clause-few c = modules_few c.args.plan.now c.in_ok-rows.rows c.requires.well c.in_ok-rows.ensures

pub tables_of-requires-clause-points : goal.tables_of-requires-clause-points
tables_of-requires-clause-points c = (rows_few c.args.plan.now c.in_ok-rows.rows c.requires.well c.in_ok-rows.ensures).points

pub tables_of-requires-clause-signals : goal.tables_of-requires-clause-signals
tables_of-requires-clause-signals c = (rows_few c.args.plan.now c.in_ok-rows.rows c.requires.well c.in_ok-rows.ensures).signals

pub tables_of-requires-clause-tracks : goal.tables_of-requires-clause-tracks
tables_of-requires-clause-tracks c = (rows_few c.args.plan.now c.in_ok-rows.rows c.requires.well c.in_ok-rows.ensures).tracks

pub returns : goal.returns
returns c = same_plan _ _ c.args.plan.now c.result-1.given.0.1 (record { well = c.requires.well; same = c.in_ok-rows.ensures })
